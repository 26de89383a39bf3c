use Rattle.std.proofs.Common.{◌≡◌, ◌≤◌, ◌<◌, ◌-◌, ℕ, Bool, true, false, List, [], ◌∷◌, length, take, drop, get_or, Option, Some, None, IsTrue, refl, sym, ap, ◌∙◌, subst, arith}
use Rattle.std.specs.Option.{is_some}
use Rattle.std.proofs.lemmas.List.{take_all}
use Rattle.plan_names.specs.Naming.{place_of, AreDistinct}
use Rattle.reactor_program.specs.declared.program.State as StateOf
use Rattle.reactor_program.specs.Resolution.{state_names}
use Rattle.reactor_program.proofs.NamePlaces.{distinct_more, distinct_less, distinct_none}
use Rattle.reactor_program.proofs.parse.+are_distinct.Goals as goal

abbrev others : List StateOf.State → List StateOf.State
others states = take (length states - 1) (drop 1 states)

names_split : (states : List StateOf.State) (first : StateOf.State) → 1 ≤ length states → first ≡ get_or states 0 first → state_names states ≡ first.name ∷ state_names (others states)
names_split [] first h e = absurd (omega arith)
names_split (x ∷ xs) first h e =
    ap (λ (s : StateOf.State). s.name ∷ state_names xs) (sym e) ∙ ap (λ rest. first.name ∷ state_names rest) (sym (take_all (length (x ∷ xs) - 1) xs (omega arith)))

names_none : (states : List StateOf.State) → length states < 1 → state_names states ≡ []
names_none [] h = refl
names_none (x ∷ xs) h = absurd (omega arith)

is_none : (o : Option ℕ) → is_some o ≡ false → o ≡ None
is_none None h = refl
is_none (Some k) h = cc

pub returns-in-empty : goal.returns-in-empty
returns-in-empty t c =
    let P : List (List ℕ) → Type 0 = AreDistinct in
    (λ y. subst P (sym (names_none c.args.states.now c.in-empty.len_below)) distinct_none, λ d. refl)

pub returns-then-is_none : goal.returns-then-is_none
returns-then-is_none t c =
    let split = names_split c.args.states.now c.first-item.result c.in-len1-up.len_at_least c.first-item.is in
    let named : c.as_bytes.result.now ≡ c.first-item.result.name = cc (c.as_bytes.ensures.value, c.as_str.ensures) in
    let found : c.place_of.result ≡ place_of (state_names (others c.args.states.now)) c.first-item.result.name = c.place_of.ensures.value ∙ ap (place_of (state_names (others c.args.states.now))) named in
    let alone : place_of (state_names (others c.args.states.now)) c.first-item.result.name ≡ None = sym found ∙ is_none c.place_of.result c.if-is_none.ensures in
    let P : List (List ℕ) → Type 0 = AreDistinct in (
      λ y. subst P (sym split) (distinct_more c.first-item.result.name (state_names (others c.args.states.now)) alone (c.are_distinct.ensures.0 y)),
      λ d. c.are_distinct.ensures.1 (distinct_less c.first-item.result.name (state_names (others c.args.states.now)) (subst P split d)).1,
    )

pub returns-else-is_none : goal.returns-else-is_none
returns-else-is_none t c =
    let split = names_split c.args.states.now c.first-item.result c.in-len1-up.len_at_least c.first-item.is in
    let named : c.as_bytes.result.now ≡ c.first-item.result.name = cc (c.as_bytes.ensures.value, c.as_str.ensures) in
    let found : c.place_of.result ≡ place_of (state_names (others c.args.states.now)) c.first-item.result.name = c.place_of.ensures.value ∙ ap (place_of (state_names (others c.args.states.now))) named in
    let P : List (List ℕ) → Type 0 = AreDistinct in (
      λ y. absurd (clash c.is_none.result y c.if-is_none.false),
      λ d. absurd (some_none c.place_of.result c.if-is_none.ensures (found ∙ (distinct_less c.first-item.result.name (state_names (others c.args.states.now)) (subst P split d)).0)),
    )
  where
    clash : (b : Bool) → IsTrue b → b ≡ false → ⊥
    clash b y e = cc

    some_none : (o : Option ℕ) → is_some o ≡ true → o ≡ None → ⊥
    some_none None h e = cc
    some_none (Some k) h e = cc
