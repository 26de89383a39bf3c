-- Whether a connection leads from one federate to another.
use Rattle.std.proofs.Common.{◌≡◌, ℕ, zero, suc, ◌+◌, Bool, true, false, List, [], ◌∷◌, ◌++◌, refl, ap, ◌∙◌, arith, Some}
use Rattle.std.specs.Prelude.{nat_eq, ◌&&◌, ◌||◌, if◌then◌else◌, slice_get}
use Rattle.std.specs.List.{list_any}
use Rattle.std.proofs.lemmas.Bool.{eq-eqb}
use Rattle.network.specs.Connection.{Connection}
use Rattle.grants.specs.Routes.{leads, listed_below, outgoing_of}

both : (a b r : Bool) → a ≡ true → b ≡ true → ((a && b) || r) ≡ true
both true true r e f = refl
both true false r e f = cc
both false b r e f = cc

later : (a r : Bool) → r ≡ true → (a || r) ≡ true
later true r e = refl
later false r e = e

pub leads_by : (connections : List Connection) (i j k : ℕ) (c : Connection) → slice_get connections k ≡ Some c → c.source ≡ i → c.target ≡ j → leads connections i j ≡ true
leads_by [] i j k c e s t = cc
leads_by (d ∷ rest) i j zero c e s t =
    let is : d ≡ c = cc in
    both (nat_eq d.source i) (nat_eq d.target j) (leads rest i j) (eq-eqb d.source i (ap (λ (x : Connection). x.source) is ∙ s)) (eq-eqb d.target j (ap (λ (x : Connection). x.target) is ∙ t))
leads_by (d ∷ rest) i j (suc k) c e s t = later (nat_eq d.source i && nat_eq d.target j) (leads rest i j) (leads_by rest i j k c e s t)

among : (a : Bool) (d : Connection) (out rest : List Connection) (i j : ℕ) → list_any (λ c. nat_eq c.target j) out ≡ leads rest i j →
    list_any (λ c. nat_eq c.target j) (if a then d ∷ out else out) ≡ ((a && nat_eq d.target j) || leads rest i j)
among true d out rest i j e = ap (λ x. nat_eq d.target j || x) e
among false d out rest i j e = e

-- one leads there if one of those that begin at i ends there
pub outgoing_leads : (connections : List Connection) (i j : ℕ) → list_any (λ c. nat_eq c.target j) (outgoing_of connections i) ≡ leads connections i j
outgoing_leads [] i j = refl
outgoing_leads (d ∷ rest) i j = among (nat_eq d.source i) d (outgoing_of rest i) rest i j (outgoing_leads rest i j)

-- one number more
pub next_listed : (count : ℕ) (test : ℕ → Bool) (before after : List ℕ) (b : Bool) → before ≡ listed_below count test → b ≡ test count →
    after ≡ before ++ (if b then count ∷ [] else []) → after ≡ listed_below (count + 1) test
next_listed count test before after b so is more =
    let next : suc count ≡ count + 1 = omega arith in
    more ∙ ap (λ xs. xs ++ (if b then count ∷ [] else [])) so ∙ ap (λ x. listed_below count test ++ (if x then count ∷ [] else [])) is ∙ ap (λ n. listed_below n test) next
