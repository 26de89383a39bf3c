-- Effects that are the same but for free states.
use Rattle.std.proofs.Common.{◌≡◌, ◌≢◌, ℕ, zero, suc, ◌+◌, ◌<◌, ◌≤◌, ℤ, pos, Bool, true, false, cond, List, [], ◌∷◌, ◌++◌, length, Option, None, Some, refl, sym, ap, ◌∙◌, subst, arith}
use Rattle.std.specs.Prelude.{not, slice_get, slice_set, unwrap_or, FitsSigned}
use Rattle.std.specs.Ordering.{int_eq}
use Rattle.std.specs.Int.{w64}
use Rattle.std.proofs.lemmas.List.{length-set}
use Rattle.network.specs.Network.{Effect}
use Rattle.reactor_program.specs.declared.program.Operand.{Operand}
use Rattle.reactor_program.specs.declared.program.Operand.TheVariants.{Number, State, Value, Presence}
use Rattle.reactor_program.specs.declared.program.Statement.{Statement}
use Rattle.reactor_program.specs.declared.program.Line.{Line}
use Rattle.reactor.specs.Effect.{with_output, operand_value, after_statement, after_line}
use Rattle.expand_expressions.specs.Meaning.{is_true, IsOperandWithin, AreWithin, IsOperandBelow}
use Rattle.expand_expressions.specs.Laws.{KeepsBelow, after_lines}
use Rattle.expand_expressions.proofs.Keeping.{get_set_below, get_set_other, keeps_refl, keeps_trans, operand_kept, after_both}
use Rattle.expand_bodies.specs.declared.block.Target.{Target}
use Rattle.expand_bodies.specs.declared.block.Target.TheVariants.{ToState, ToOutput, ToAction}
use Rattle.expand_bodies.specs.Body.{with_value, after_deed, IsOwn}
use Rattle.expand_bodies.specs.Lines.{line}

pub keeps_lower : (free next : ℕ) (a b : Effect) → free ≤ next → KeepsBelow next a b → KeepsBelow free a b
keeps_lower free next a b above h = keeps_trans free next a a b above (keeps_refl free a) h

-- lines in two parts
pub keeps_both : (present : ℕ → Option ℤ) (free : ℕ) (a b : Effect) (xs ys : List Line) → KeepsBelow free a (after_lines present b xs) →
    KeepsBelow free (after_lines present b xs) (after_lines present (after_lines present b xs) ys) → KeepsBelow free a (after_lines present b (xs ++ ys))
keeps_both present free a b xs ys h g =
    let first = after_lines present b xs in
    subst (λ after. KeepsBelow free a after) (sym (after_both present b xs ys)) (keeps_trans free free a first (after_lines present first ys) (omega arith) h g)

-- one state of both is set
set_same : (xs ys : List ℤ) (k j : ℕ) (v : ℤ) → length xs ≡ length ys → slice_get xs j ≡ slice_get ys j → slice_get (slice_set xs k v) j ≡ slice_get (slice_set ys k v) j
set_same [] [] k j v count is = refl
set_same [] (y ∷ ys) k j v count is = absurd (omega arith)
set_same (x ∷ xs) [] k j v count is = absurd (omega arith)
set_same (x ∷ xs) (y ∷ ys) zero zero v count is = refl
set_same (x ∷ xs) (y ∷ ys) zero (suc j) v count is = is
set_same (x ∷ xs) (y ∷ ys) (suc k) zero v count is = is
set_same (x ∷ xs) (y ∷ ys) (suc k) (suc j) v count is = set_same xs ys k j v (omega arith) is

set_next : (xs ys : List ℤ) (k : ℕ) (v : ℤ) → length xs ≡ length ys → k < length xs → ((j : ℕ) → j < k → slice_get xs j ≡ slice_get ys j) →
    (j : ℕ) → j < k + 1 → slice_get (slice_set xs k v) j ≡ slice_get (slice_set ys k v) j
set_next [] ys k v count there h j below = absurd (omega arith)
set_next (x ∷ xs) [] k v count there h j below = absurd (omega arith)
set_next (x ∷ xs) (y ∷ ys) zero v count there h zero below = refl
set_next (x ∷ xs) (y ∷ ys) zero v count there h (suc j) below = absurd (omega arith)
set_next (x ∷ xs) (y ∷ ys) (suc k) v count there h zero below = h zero (omega arith)
set_next (x ∷ xs) (y ∷ ys) (suc k) v count there h (suc j) below = set_next xs ys k v (omega arith) (omega arith) (λ i b. h (suc i) (omega arith)) j (omega arith)

set_related : (free k : ℕ) (old new : Effect) (v w : ℤ) → KeepsBelow free old new → w ≡ v → KeepsBelow free (with_value old k v) (with_value new k w)
set_related free k old new v w h is = record {
  states = λ j below. ap (λ w. slice_get (slice_set new.states k w) j) is ∙ set_same new.states old.states k j v h.count (h.states j below);
  count = length-set new.states k w ∙ h.count ∙ sym (length-set old.states k v);
  outputs = h.outputs;
  schedulings = h.schedulings;
}

-- the first free state isn't free any more
pub next_related : (free : ℕ) (old new : Effect) (v w : ℤ) → KeepsBelow free old new → w ≡ v → free < length new.states → KeepsBelow (free + 1) (with_value old free v) (with_value new free w)
next_related free old new v w h is there = record {
  states = λ j below. ap (λ w. slice_get (slice_set new.states free w) j) is ∙ set_next new.states old.states free v h.count there (λ i b. h.states i b) j below;
  count = length-set new.states free w ∙ h.count ∙ sym (length-set old.states free v);
  outputs = h.outputs;
  schedulings = h.schedulings;
}

deed_related : (free : ℕ) (old new : Effect) (target : Target) (v w : ℤ) → KeepsBelow free old new → w ≡ v → KeepsBelow free (after_deed old target v) (after_deed new target w)
deed_related free old new (ToState k) v w h is = set_related free k old new v w h is
deed_related free old new (ToOutput port) v w h is = record {
  states = h.states;
  count = h.count;
  outputs = ap (λ o. with_output o port w) h.outputs ∙ ap (λ v. with_output old.outputs port v) is;
  schedulings = h.schedulings;
}
deed_related free old new (ToAction slot delay) v w h is = record {
  states = h.states;
  count = h.count;
  outputs = h.outputs;
  schedulings =
      ap (λ s. (after_deed (record { states = new.states; outputs = new.outputs; schedulings = s }) (ToAction slot delay) w).schedulings) h.schedulings
      ∙ ap (λ v. (after_deed old (ToAction slot delay) v).schedulings) is;
}

pub chosen_related : (b : Bool) (free : ℕ) (old new : Effect) (target : Target) (v w : ℤ) → KeepsBelow free old new → w ≡ v →
    KeepsBelow free (cond b (after_deed old target v) old) (cond b (after_deed new target w) new)
chosen_related true free old new target v w h is = deed_related free old new target v w h is
chosen_related false free old new target v w h is = h

-- a line is done where its condition isn't 0
abbrev pub IsMet : (ℕ → Option ℤ) → Effect → Option Operand → Bool → Type 0
IsMet present e None b = b ≡ true
IsMet present e (Some a) b = is_true (operand_value e.states present a) ≡ b

abbrev pub IsConditionBelow : ℕ → Option Operand → Type 0
IsConditionBelow free None = Unit {0}
IsConditionBelow free (Some a) = IsOperandBelow free a

opposite : (b : Bool) → cond b false true ≡ not b
opposite true = refl
opposite false = refl

pub line_met : (present : ℕ → Option ℤ) (e : Effect) (condition : Option Operand) (s : Statement) (b : Bool) → IsMet present e condition b →
    after_line present e (line condition s) ≡ cond b (after_statement present e s) e
line_met present e None s b is = ap (λ b. cond b (after_statement present e s) e) (sym is)
line_met present e (Some a) s b is =
    ap (λ b. cond b (after_statement present e s) e) (opposite (int_eq (operand_value e.states present a) (pos 0)) ∙ is)

pub met_kept : (present : ℕ → Option ℤ) (free : ℕ) (a b : Effect) (condition : Option Operand) (is : Bool) → IsConditionBelow free condition → KeepsBelow free a b →
    IsMet present a condition is → IsMet present b condition is
met_kept present free a b None is low keeps met = met
met_kept present free a b (Some o) is low keeps met = ap is_true (operand_kept free a b present o low keeps) ∙ met

-- all that can be read still has 64 bits
set_fits : (xs : List ℤ) (k j : ℕ) (v : ℤ) → FitsSigned w64 v → FitsSigned w64 (unwrap_or (slice_get xs j) (pos 0)) → FitsSigned w64 (unwrap_or (slice_get (slice_set xs k v) j) (pos 0))
set_fits [] k j v fits h = h
set_fits (x ∷ xs) zero zero v fits h = fits
set_fits (x ∷ xs) zero (suc j) v fits h = h
set_fits (x ∷ xs) (suc k) zero v fits h = h
set_fits (x ∷ xs) (suc k) (suc j) v fits h = set_fits xs k j v fits h

pub value_within : (present : ℕ → Option ℤ) (e : Effect) (k : ℕ) (v : ℤ) → AreWithin e.states present → FitsSigned w64 v →
    (a : Operand) → IsOperandWithin a → FitsSigned w64 (operand_value (slice_set e.states k v) present a)
value_within present e k v all fits (Number n) within = all (Number n) within
value_within present e k v all fits (State j) within = set_fits e.states k j v fits (all (State j) tt)
value_within present e k v all fits (Value slot) within = all (Value slot) tt
value_within present e k v all fits (Presence slot) within = all (Presence slot) tt

pub deed_within : (present : ℕ → Option ℤ) (e : Effect) (target : Target) (v : ℤ) → AreWithin e.states present → FitsSigned w64 v → AreWithin (after_deed e target v).states present
deed_within present e (ToState k) v all fits = value_within present e k v all fits
deed_within present e (ToOutput port) v all fits = all
deed_within present e (ToAction slot delay) v all fits = all

pub chosen_within : (b : Bool) (present : ℕ → Option ℤ) (x y : Effect) → AreWithin x.states present → AreWithin y.states present → AreWithin (cond b x y).states present
chosen_within true present x y h g = h
chosen_within false present x y h g = g

-- states that aren't the federate's own stay
pub deed_between : (target : Target) (own k : ℕ) (e : Effect) (v : ℤ) → IsOwn own target → own ≤ k → slice_get (after_deed e target v).states k ≡ slice_get e.states k
deed_between (ToState t) own k e v is from = let below : t < own = is in let other : k ≢ t = λ same. omega arith in get_set_other e.states t k v other
deed_between (ToOutput port) own k e v is from = refl
deed_between (ToAction slot delay) own k e v is from = refl

pub chosen_between : (b : Bool) (k : ℕ) (e x y : Effect) → slice_get x.states k ≡ slice_get e.states k → slice_get y.states k ≡ slice_get e.states k →
    slice_get (cond b x y).states k ≡ slice_get e.states k
chosen_between true k e x y h g = h
chosen_between false k e x y h g = g

pub set_below : (e : Effect) (free k : ℕ) (v : ℤ) → k < free → slice_get (with_value e free v).states k ≡ slice_get e.states k
set_below e free k v below = get_set_below e.states free k v below

-- a state that has the value already
set_again : (xs : List ℤ) (k j : ℕ) (v : ℤ) → slice_get xs k ≡ Some v → slice_get (slice_set xs k v) j ≡ slice_get xs j
set_again [] k j v is = refl
set_again (x ∷ xs) zero zero v is = sym is
set_again (x ∷ xs) zero (suc j) v is = refl
set_again (x ∷ xs) (suc k) zero v is = refl
set_again (x ∷ xs) (suc k) (suc j) v is = set_again xs k j v is

pub next_by_value : (free : ℕ) (old new : Effect) (v : ℤ) → KeepsBelow free old new → slice_get new.states free ≡ Some v → free < length new.states → KeepsBelow (free + 1) (with_value old free v) new
next_by_value free old new v h is there =
    let set = next_related free old new v v h refl there in
    record {
      states = λ j below. sym (set_again new.states free j v is) ∙ set.states j below;
      count = h.count ∙ sym (length-set old.states free v);
      outputs = h.outputs;
      schedulings = h.schedulings;
    }

pub chosen_keeps : (b : Bool) (free : ℕ) (x y e : Effect) → (b ≡ true → KeepsBelow free x e) → (b ≡ false → KeepsBelow free y e) → KeepsBelow free (cond b x y) e
chosen_keeps true free x y e h g = h refl
chosen_keeps false free x y e h g = g refl

pub related_both : (present : ℕ → Option ℤ) (free : ℕ) (a e : Effect) (xs ys : List Line) → KeepsBelow free a (after_lines present (after_lines present e xs) ys) → KeepsBelow free a (after_lines present e (xs ++ ys))
related_both present free a e xs ys h = subst (λ after. KeepsBelow free a after) (sym (after_both present e xs ys)) h
