-- For each path there is one that meets no reactor twice after its first connection, and its total is no more.
use Rattle.std.proofs.Common.{◌≡◌, ℕ, ◌<◌, ◌≤◌, ◌⊎◌, inl, inr, true, false, List, [], ◌∷◌, length, map, sym, subst, arith, eqb, IsTrue}
use Rattle.std.specs.Prelude.{Contains}
use Rattle.std.specs.List.{IsDistinct, AllByRecursion, list_any}
use Rattle.std.proofs.lemmas.Bool.Decides.{eqb_tells}
use Rattle.std.proofs.lemmas.List.{length-map}
use Rattle.std.proofs.lemmas.Map.Steps.{length-le_from_distinct_below}
use Rattle.tag.specs.LogicalTime.{LogicalTime, IsLogicalTime, is_at_most, sum_of}
use Rattle.tag.proofs.Order.{at_most_reflexive, at_most_transitive}
use Rattle.tag.proofs.SumLaws.{sum_is_logical, sum_at_least_first}
use Rattle.tag.proofs.Paths.{plain_is_logical}
use Rattle.network.specs.Connection.{Connection, IsWalk, IsPath, then_along, total_of}
use Rattle.network.proofs.Walks.{ArePlain, along_monotone}

-- ---- shorter walks

-- whatever comes before it, the first walk adds no more than the second
abbrev pub IsShorter : List Connection → List Connection → Type 0
IsShorter short long = (g : LogicalTime) → IsLogicalTime g → IsTrue (is_at_most (then_along g short) (then_along g long))

-- a walk without its first connection
shorter_by_first : (c : Connection) (short rest : List Connection) → IsShorter short rest → IsShorter short (c ∷ rest)
shorter_by_first c short rest shorter g logical =
    at_most_transitive (then_along g short) (then_along g rest) (then_along (sum_of g c.delay) rest) (shorter g logical)
    (along_monotone g (sum_of g c.delay) rest (sum_at_least_first g c.delay logical))

-- ---- walks that meet no reactor twice

abbrev targets : List Connection → List ℕ
targets walk = map (λ (c : Connection). c.target) walk

-- none of its connections leads to v
abbrev Avoids : ℕ → List Connection → Type 0
Avoids v walk = AllByRecursion (λ q. eqb v q ≡ false) (targets walk)

-- a walk on from v that doesn't come back to v, nor twice to another reactor
record Direct (cs : List Connection) (v j : ℕ) (long : List Connection) : Type 0 where
  pub short : List Connection
  pub walk : IsWalk cs v short j
  pub avoids : Avoids v short
  pub apart : IsDistinct eqb (targets short)
  pub shorter : IsShorter short long

-- either a walk avoids v, or it goes on from there
avoids_or_goes_on : (cs : List Connection) (v u j : ℕ) (walk : List Connection) → IsWalk cs u walk j → IsDistinct eqb (targets walk) → Avoids v walk ⊎ Direct cs v j walk
unfolding IsDistinct
avoids_or_goes_on cs v u j [] walk apart = inl tt
avoids_or_goes_on cs v u j (c ∷ rest) walk apart =
    elim (eqb_tells v c.target) [
      | inl same ↦
          let is : v ≡ c.target = same.1 in
          inr (subst (λ w. Direct cs w j (c ∷ rest)) (sym is) (record {
            short = rest;
            walk = walk.2;
            avoids = apart.0;
            apart = apart.1;
            shorter = shorter_by_first c rest rest (λ g logical. at_most_reflexive (then_along g rest));
          }))
      | inr other ↦
          elim (avoids_or_goes_on cs v c.target j rest walk.2 apart.1) [
            | inl avoids ↦ inl (other.0, avoids)
            | inr on ↦
                inr (record {
                  short = on.short;
                  walk = on.walk;
                  avoids = on.avoids;
                  apart = on.apart;
                  shorter = shorter_by_first c on.short rest on.shorter;
                })
          ]
    ]

-- every walk has a shorter one that is direct
direct : (cs : List Connection) → ArePlain cs → (v j : ℕ) (walk : List Connection) → IsWalk cs v walk j → Direct cs v j walk
unfolding IsDistinct
direct cs plain v j [] walk = record { short = []; walk = walk; avoids = tt; apart = tt; shorter = λ g logical. at_most_reflexive g }
direct cs plain v j (c ∷ rest) walk =
    let on : Direct cs c.target j rest = direct cs plain c.target j rest walk.2 in
    let next : IsShorter (c ∷ on.short) (c ∷ rest) = λ g logical. on.shorter (sum_of g c.delay) (sum_is_logical g c.delay logical (plain_is_logical c.delay (plain c walk.0))) in
    elim (avoids_or_goes_on cs v v j (c ∷ on.short) (walk.0, walk.1, on.walk) (on.avoids, on.apart)) [
      | inl avoids ↦
          record { short = c ∷ on.short; walk = (walk.0, walk.1, on.walk); avoids = avoids; apart = (on.avoids, on.apart); shorter = next }
      | inr cut ↦
          record {
            short = cut.short;
            walk = cut.walk;
            avoids = cut.avoids;
            apart = cut.apart;
            shorter = λ g logical.
                at_most_transitive (then_along g cut.short) (then_along g (c ∷ on.short)) (then_along g (c ∷ rest)) (cut.shorter g logical) (next g logical);
          }
    ]

-- ---- such a walk is short

-- all these connections lead to reactors with numbers below n
abbrev pub EndBelow : ℕ → List Connection → Type 0
EndBelow n cs = (c : Connection) → Contains cs c → c.target < n

targets_below : (cs : List Connection) (n : ℕ) → EndBelow n cs → (i : ℕ) (walk : List Connection) (j : ℕ) → IsWalk cs i walk j
    → (q : ℕ) → list_any (eqb q) (targets walk) ≡ true → q < n
targets_below cs n ends i [] j walk q found = cc
targets_below cs n ends i (c ∷ rest) j walk q found =
    let below : c.target < n = ends c walk.0 in
    elim (eqb_tells q c.target) [
      | inl same ↦ (let is : q ≡ c.target = same.1 in omega arith)
      | inr other ↦ targets_below cs n ends c.target rest j walk.2 q (rw other.0 at found)
    ]

few_targets : (cs : List Connection) (n : ℕ) → EndBelow n cs → (i : ℕ) (walk : List Connection) (j : ℕ) → IsWalk cs i walk j → IsDistinct eqb (targets walk) → length walk ≤ n
few_targets cs n ends i walk j is_walk apart =
    let few : length (targets walk) ≤ n = length-le_from_distinct_below (targets walk) n apart (targets_below cs n ends i walk j is_walk) in
    omega (arith, length-map walk (λ (c : Connection). c.target))

-- a path of at most this many connections whose total is no more than that of this one
pub record Shortened (cs : List Connection) (n i j : ℕ) (long : List Connection) : Type 0 where
  pub path : List Connection
  pub is_path : IsPath cs i path j
  pub few : length path ≤ n
  pub total : IsTrue (is_at_most (total_of path) (total_of long))

pub shortened : (cs : List Connection) (n : ℕ) → EndBelow n cs → ArePlain cs
    → (i : ℕ) (path : List Connection) (j : ℕ) → IsPath cs i path j → Shortened cs n i j path
unfolding IsDistinct
shortened cs n ends plain i [] j is_path = absurd is_path
shortened cs n ends plain i (c ∷ rest) j is_path =
    let on : Direct cs c.target j rest = direct cs plain c.target j rest is_path.2 in
    let short : IsWalk cs i (c ∷ on.short) j = (is_path.0, is_path.1, on.walk) in
    record {
      path = c ∷ on.short;
      is_path = short;
      few = few_targets cs n ends i (c ∷ on.short) j short (on.avoids, on.apart);
      total = on.shorter c.delay (plain_is_logical c.delay (plain c is_path.0));
    }
