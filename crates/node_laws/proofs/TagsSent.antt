-- The TAGs that a step of the coordinator sends are those that federates get by the grant rule over all paths.
use Rattle.std.proofs.Common.{◌≡◌, ℕ, zero, suc, ◌+◌, ◌<◌, ◌≤◌, inl, inr, Bool, true, false, List, [], ◌∷◌, ◌++◌, length, refl, sym, ap, subst, ◌∙◌, arith, Option, None, Some, MatchOption, nat_lt, if◌then◌else◌}
use Rattle.std.specs.Prelude.{All, AllPairs, Contains}
use Rattle.std.proofs.lemmas.Bool.{lt-ltb, ltb-true, cases_lt}
use Rattle.std.proofs.lemmas.List.Elements.{All-nil, All-cons, All-append, All-weaker, Contains-append_right}
use Rattle.std.proofs.lemmas.List.Kept.{AllPairs-cons}
use Rattle.tag.specs.LogicalTime.{LogicalTime, lesser, predecessor_of}
use Rattle.network.specs.Network.{Network}
use Rattle.network.proofs.Items.{no_pairs}
use Rattle.signal.specs.declared.signal.Signal.{Signal}
use Rattle.signal.specs.declared.signal.Signal.TheVariants.{Tag}
use Rattle.protocol.specs.declared.post.Post.{Post}
use Rattle.protocol.specs.Outcome.{Outcome, Refused, Nothing, Done, with_made}
use Rattle.protocol.specs.FederateRecord.{FederateRecord, after_grant}
use Rattle.protocol.specs.FederateRecords.{federate_record_at, listed_after}
use Rattle.protocol.specs.Grant.{Rule, IsEligible}
use Rattle.protocol.specs.Bound.{IsWidest}
use Rattle.protocol.specs.Coordinator.{Coordinated, grant_to, grant_post, grants_from, with_grants, coordinator_takes}
use Rattle.protocol_laws.proofs.FirstArrivals.{one_bound}
use Rattle.plan.specs.Federation.{federate_count}
use Rattle.plan.specs.Legal.{IsLegal}
use Rattle.node_cores.specs.CoordinatorCore.{CoordinatorNode, wiring_in, rule_in, made_by, coordinator_core}
use Rattle.node_laws.specs.Tags.{IsGranted, AreTheTags, EndsWithTheTags}
use Rattle.node_laws.proofs.OverPaths.{rule_over_paths}

-- what a rule says of one federate, over all paths
abbrev Says : Network → (ℕ → FederateRecord) → ℕ → Option LogicalTime → Type 0
Says n f j o = MatchOption o (IsEligible n f j → ⊥) (λ tag. IsEligible n f j × IsWidest n f j tag)

-- the widest grant is one
one_widest : (n : Network) (f : ℕ → FederateRecord) (j : ℕ) (tag other : LogicalTime) → IsWidest n f j tag → IsWidest n f j other → tag ≡ other
one_widest n f j tag other w o =
    let bounds : w.bound ≡ o.bound = one_bound n f j w.bound o.bound w.is_bound o.is_bound in
    w.last ∙ ap (λ x. lesser (predecessor_of x) n.stop) bounds ∙ sym o.last

-- who gets a tag is granted it
given_if : (n : Network) (f : ℕ → FederateRecord) (j : ℕ) (tag : LogicalTime) (o : Option LogicalTime) → Says n f j o → IsGranted n f j tag → o ≡ Some tag
given_if n f j tag None says g = absurd (says g.eligible)
given_if n f j tag (Some other) says g = ap (λ x. Some x) (one_widest n f j other tag says.1 g.widest)

there_if : (b : Bool) (o : Option LogicalTime) → b ≡ true → (if b then o else None) ≡ o
there_if true o is = refl
there_if false o is = cc

given : (n : Network) (rule : Rule) (f : ℕ → FederateRecord) (j : ℕ) (tag : LogicalTime) → Says n f j (rule f j) → IsGranted n f j tag → grant_to n rule f j ≡ Some tag
given n rule f j tag says g = there_if (nat_lt j n.reactors) (rule f j) (lt-ltb j n.reactors g.there) ∙ given_if n f j tag (rule f j) says g

-- who is granted a tag gets it
gets_if : (n : Network) (f : ℕ → FederateRecord) (j : ℕ) (tag : LogicalTime) (o : Option LogicalTime) (b : Bool) → nat_lt j n.reactors ≡ b → Says n f j o → (if b then o else None) ≡ Some tag → IsGranted n f j tag
gets_if n f j tag o false below says is = absurd (let no : None ≡ Some tag = is in cc)
gets_if n f j tag None true below says is = absurd (let no : None ≡ Some tag = is in cc)
gets_if n f j tag (Some other) true below says is =
    let both : Some other ≡ Some tag = is in
    let same : other ≡ tag = cc in
    record { there = ltb-true j n.reactors below; eligible = says.0; widest = subst (λ x. IsWidest n f j x) same says.1 }

gets : (n : Network) (rule : Rule) (f : ℕ → FederateRecord) (j : ℕ) (tag : LogicalTime) → Says n f j (rule f j) → grant_to n rule f j ≡ Some tag → IsGranted n f j tag
gets n rule f j tag says is = gets_if n f j tag (rule f j) (nat_lt j n.reactors) refl says is

-- nobody else
none_if : (n : Network) (f : ℕ → FederateRecord) (j : ℕ) (o : Option LogicalTime) (b : Bool) → Says n f j o → (IsEligible n f j → ⊥) → (if b then o else None) ≡ None
none_if n f j o false says not_eligible = refl
none_if n f j None true says not_eligible = refl
none_if n f j (Some tag) true says not_eligible = absurd (not_eligible says.0)

-- ---- the list of TAGs

abbrev HasTag : Network → (ℕ → FederateRecord) → Post → Type 0
HasTag n f p = (tag : LogicalTime) × (p.signal ≡ Tag tag) × IsGranted n f p.peer tag

one_has : (n : Network) (f : ℕ → FederateRecord) (j : ℕ) (o : Option LogicalTime) → ((tag : LogicalTime) → o ≡ Some tag → IsGranted n f j tag) → All (HasTag n f) (grant_post j o)
one_has n f j None get = All-nil (HasTag n f)
one_has n f j (Some tag) get = All-cons (HasTag n f) (record { peer = j; signal = Tag tag }) [] (tag, refl, get tag refl) (All-nil (HasTag n f))

all_have : (n : Network) (rule : Rule) (f : ℕ → FederateRecord) → ((j : ℕ) → Says n f j (rule f j)) → (j count : ℕ) → All (HasTag n f) (grants_from n rule f j count)
all_have n rule f says j zero = All-nil (HasTag n f)
all_have n rule f says j (suc count) =
    All-append (HasTag n f) (grant_post j (grant_to n rule f j)) (grants_from n rule f (j + 1) count)
    (one_has n f j (grant_to n rule f j) (λ tag is. gets n rule f j tag (says j) is)) (all_have n rule f says (j + 1) count)

-- in number order
abbrev IsFrom : ℕ → Post → Type 0
IsFrom j p = j ≤ p.peer

abbrev IsBefore : Post → Post → Type 0
IsBefore p q = p.peer < q.peer

later_from : (j : ℕ) (posts : List Post) → All (IsFrom (j + 1)) posts → All (IsFrom j) posts
later_from j posts from = All-weaker (IsFrom (j + 1)) (IsFrom j) (λ p later. let low : j + 1 ≤ p.peer = later in omega arith) posts from

from_post : (j : ℕ) (o : Option LogicalTime) (rest : List Post) → All (IsFrom (j + 1)) rest → All (IsFrom j) (grant_post j o ++ rest)
from_post j None rest from = later_from j rest from
from_post j (Some tag) rest from =
    let low : j ≤ j = omega arith in
    All-cons (IsFrom j) (record { peer = j; signal = Tag tag }) rest low (later_from j rest from)

all_from : (n : Network) (rule : Rule) (f : ℕ → FederateRecord) (j count : ℕ) → All (IsFrom j) (grants_from n rule f j count)
all_from n rule f j zero = All-nil (IsFrom j)
all_from n rule f j (suc count) = from_post j (grant_to n rule f j) (grants_from n rule f (j + 1) count) (all_from n rule f (j + 1) count)

order_post : (j : ℕ) (o : Option LogicalTime) (rest : List Post) → All (IsFrom (j + 1)) rest → AllPairs IsBefore rest → AllPairs IsBefore (grant_post j o ++ rest)
order_post j None rest from order = order
order_post j (Some tag) rest from order =
    AllPairs-cons IsBefore (record { peer = j; signal = Tag tag }) rest
    (All-weaker (IsFrom (j + 1)) (λ (p : Post). j < p.peer) (λ p later. let low : j + 1 ≤ p.peer = later in omega arith) rest from) order

all_in_order : (n : Network) (rule : Rule) (f : ℕ → FederateRecord) (j count : ℕ) → AllPairs IsBefore (grants_from n rule f j count)
all_in_order n rule f j zero = no_pairs IsBefore
all_in_order n rule f j (suc count) =
    order_post j (grant_to n rule f j) (grants_from n rule f (j + 1) count) (all_from n rule f (j + 1) count) (all_in_order n rule f (j + 1) count)

-- everyone is there
post_there : (j : ℕ) (o : Option LogicalTime) (tag : LogicalTime) (rest : List Post) → o ≡ Some tag → Contains (grant_post j o ++ rest) (record { peer = j; signal = Tag tag })
post_there j None tag rest is = absurd (let no : None ≡ Some tag = is in cc)
post_there j (Some other) tag rest is =
    let same : other ≡ tag = cc in
    let first : 0 < suc (length rest) = omega arith in
    (0, first, ap (λ x. let p : Post = record { peer = j; signal = Tag x } in p) same)

all_there : (n : Network) (rule : Rule) (f : ℕ → FederateRecord) (k : ℕ) (tag : LogicalTime) → grant_to n rule f k ≡ Some tag → (j count : ℕ) → j ≤ k → k < j + count →
    Contains (grants_from n rule f j count) (record { peer = k; signal = Tag tag })
all_there n rule f k tag is j zero low high = absurd (omega arith)
all_there n rule f k tag is j (suc count) low high =
    elim (cases_lt j k) [
      | inl before ↦
          Contains-append_right (grant_post j (grant_to n rule f j)) (grants_from n rule f (j + 1) count) (record { peer = k; signal = Tag tag })
          (all_there n rule f k tag is (j + 1) count (omega arith) (omega arith))
      | inr here ↦
          let same : j ≡ k = omega arith in
          let P : ℕ → Type 0 = λ x. Contains (grant_post j (grant_to n rule f j) ++ grants_from n rule f (j + 1) count) (record { peer = x; signal = Tag tag }) in
          subst P same (post_there j (grant_to n rule f j) tag (grants_from n rule f (j + 1) count) (ap (grant_to n rule f) same ∙ is))
    ]

one_to : (n : Network) (f : ℕ → FederateRecord) (j : ℕ) (posts : List Post) (o : Option LogicalTime) → Says n f j o → IsEligible n f j →
    ((tag : LogicalTime) → o ≡ Some tag → Contains posts (record { peer = j; signal = Tag tag })) →
    (tag : LogicalTime) × IsWidest n f j tag × Contains posts (record { peer = j; signal = Tag tag })
one_to n f j posts None says eligible there = absurd (says eligible)
one_to n f j posts (Some tag) says eligible there = (tag, says.1, there tag refl)

the_tags : (n : Network) (rule : Rule) (f : ℕ → FederateRecord) → ((j : ℕ) → Says n f j (rule f j)) → AreTheTags n f (grants_from n rule f 0 n.reactors)
the_tags n rule f says = record {
  each = λ j below eligible.
      one_to n f j (grants_from n rule f 0 n.reactors) (rule f j) (says j) eligible
      (λ tag is. all_there n rule f j tag (there_if (nat_lt j n.reactors) (rule f j) (lt-ltb j n.reactors below) ∙ is) 0 n.reactors (omega arith) (omega arith));
  only = all_have n rule f says 0 n.reactors;
  order = all_in_order n rule f 0 n.reactors;
}

-- ---- the step

by_taken : (v : CoordinatorNode) → IsLegal v.draft → (o : Outcome Coordinated) →
    EndsWithTheTags v o (with_made (made_by v) (with_made (listed_after (federate_count v.draft)) (with_made (with_grants (wiring_in v.draft) (rule_in v.draft)) o)))
by_taken v legal (Refused refusal) = refl
by_taken v legal Nothing = refl
by_taken v legal (Done taken) =
    let n : Network = wiring_in v.draft in
    let rule : Rule = rule_in v.draft in
    let says : (j : ℕ) → Says n taken.after j (rule taken.after j) = λ j. rule_over_paths v.draft taken.after j legal in (
      made_by v (listed_after (federate_count v.draft) (with_grants n rule taken)),
      refl,
      record {
        tags = grants_from n rule taken.after 0 n.reactors;
        are_the_tags = the_tags n rule taken.after says;
        sent = refl;
        after = λ j. after_grant (taken.after j) (grant_to n rule taken.after j);
        granted = λ j tag g. ap (after_grant (taken.after j)) (given n rule taken.after j tag (says j) g);
        others = λ j not_eligible. ap (after_grant (taken.after j)) (none_if n taken.after j (rule taken.after j) (nat_lt j n.reactors) (says j) not_eligible);
        node = refl;
      },
    )

pub step_over_paths : (v : CoordinatorNode) (peer : ℕ) (signal : Signal) → IsLegal v.draft →
    EndsWithTheTags v (coordinator_takes (wiring_in v.draft) (federate_record_at v.federate_records) peer signal) (coordinator_core.accept v peer signal)
step_over_paths v peer signal legal = by_taken v legal (coordinator_takes (wiring_in v.draft) (federate_record_at v.federate_records) peer signal)
