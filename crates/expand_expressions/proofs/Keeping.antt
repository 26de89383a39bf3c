-- States that are set, and what lines leave as it was.
use Rattle.std.proofs.Common.{◌≡◌, ◌≢◌, ℕ, zero, suc, ◌<◌, ◌≤◌, ℤ, pos, List, [], ◌∷◌, ◌++◌, length, Option, Some, refl, ap, ◌∙◌, arith}
use Rattle.std.specs.Prelude.{not, slice_get, slice_set, unwrap_or}
use Rattle.std.specs.Int.{w64, int_wrapping_sub}
use Rattle.std.proofs.lemmas.List.{length-set}
use Rattle.std.proofs.lemmas.List.Sums.{fold-append}
use Rattle.network.specs.Network.{Effect}
use Rattle.reactor_program.specs.declared.program.Operand.{Operand}
use Rattle.reactor_program.specs.declared.program.Operand.TheVariants.{Number, State, Value, Presence}
use Rattle.reactor_program.specs.declared.program.Line.{Line}
use Rattle.reactor.specs.Effect.{truth_value, operand_value, after_line}
use Rattle.expand_expressions.specs.declared.formula.Formula.{Formula}
use Rattle.expand_expressions.specs.declared.formula.Formula.TheVariants.{Leaf, Negative', Not', Combined', Quotient', Remainder'}
use Rattle.expand_expressions.specs.Meaning.{combination_value, quotient_value, remainder_value, value_of, is_true, IsOperandBelow, IsBelow}
use Rattle.expand_expressions.specs.Laws.{AssignBelow, KeepsBelow, after_lines}

-- states, one of which is set
pub get_set_same : (xs : List ℤ) (k : ℕ) (v : ℤ) → k < length xs → slice_get (slice_set xs k v) k ≡ Some v
get_set_same [] k v there = absurd (omega arith)
get_set_same (x ∷ xs) zero v there = refl
get_set_same (x ∷ xs) (suc k) v there = get_set_same xs k v (omega arith)

pub get_set_below : (xs : List ℤ) (k j : ℕ) (v : ℤ) → j < k → slice_get (slice_set xs k v) j ≡ slice_get xs j
get_set_below [] k j v below = refl
get_set_below (x ∷ xs) zero j v below = absurd (omega arith)
get_set_below (x ∷ xs) (suc k) zero v below = refl
get_set_below (x ∷ xs) (suc k) (suc j) v below = get_set_below xs k j v (omega arith)

pub get_set_other : (xs : List ℤ) (k j : ℕ) (v : ℤ) → j ≢ k → slice_get (slice_set xs k v) j ≡ slice_get xs j
get_set_other [] k j v other = refl
get_set_other (x ∷ xs) zero zero v other = absurd (other refl)
get_set_other (x ∷ xs) zero (suc j) v other = refl
get_set_other (x ∷ xs) (suc k) zero v other = refl
get_set_other (x ∷ xs) (suc k) (suc j) v other = get_set_other xs k j v (λ same. other (ap suc same))

abbrev pub with_state : Effect → ℕ → ℤ → Effect
with_state e k v = record { states = slice_set e.states k v; outputs = e.outputs; schedulings = e.schedulings }

pub with_state_keeps : (free : ℕ) (e : Effect) (k : ℕ) (v : ℤ) → free ≤ k → KeepsBelow free e (with_state e k v)
with_state_keeps free e k v above = record {
  states = λ j below. get_set_below e.states k j v (omega arith);
  count = length-set e.states k v;
  outputs = refl;
  schedulings = refl;
}

pub keeps_refl : (free : ℕ) (e : Effect) → KeepsBelow free e e
keeps_refl free e = record { states = λ k below. refl; count = refl; outputs = refl; schedulings = refl }

pub keeps_trans : (free next : ℕ) (a b c : Effect) → free ≤ next → KeepsBelow free a b → KeepsBelow next b c → KeepsBelow free a c
keeps_trans free next a b c above h g = record {
  states = λ k below. let within : k < next = omega arith in g.states k within ∙ h.states k below;
  count = g.count ∙ h.count;
  outputs = g.outputs ∙ h.outputs;
  schedulings = g.schedulings ∙ h.schedulings;
}

-- what is read below is the same
pub operand_kept : (free : ℕ) (a b : Effect) (present : ℕ → Option ℤ) (o : Operand) → IsOperandBelow free o → KeepsBelow free a b → operand_value b.states present o ≡ operand_value a.states present o
operand_kept free a b present (Number n) below keeps = refl
operand_kept free a b present (State k) below keeps = ap (λ o. unwrap_or o (pos 0)) (keeps.states k below)
operand_kept free a b present (Value slot) below keeps = refl
operand_kept free a b present (Presence slot) below keeps = refl

pub value_kept : (formula : Formula) (free : ℕ) (a b : Effect) (present : ℕ → Option ℤ) → IsBelow free formula → KeepsBelow free a b → value_of b.states present formula ≡ value_of a.states present formula
value_kept (Leaf o) free a b present below keeps = operand_kept free a b present o below keeps
value_kept (Negative' p x) free a b present below keeps = ap (λ v. int_wrapping_sub w64 (pos 0) v) (value_kept x free a b present below keeps)
value_kept (Not' p x) free a b present below keeps = ap (λ v. truth_value (not (is_true v))) (value_kept x free a b present below keeps)
value_kept (Combined' p x c q y) free a b present below keeps =
    let left = value_kept x free a b present below.0 keeps in
    let right = value_kept y free a b present below.1 keeps in
    ap (λ v. combination_value c v (value_of b.states present y)) left ∙ ap (λ v. combination_value c (value_of a.states present x) v) right
value_kept (Quotient' p x d) free a b present below keeps = ap (λ v. quotient_value v d) (value_kept x free a b present below keeps)
value_kept (Remainder' p x d) free a b present below keeps = ap (λ v. remainder_value v d) (value_kept x free a b present below keeps)

pub operand_below : (free next : ℕ) (o : Operand) → free ≤ next → IsOperandBelow free o → IsOperandBelow next o
operand_below free next (Number n) above below = tt
operand_below free next (State k) above below = let h : k < free = below in omega arith
operand_below free next (Value slot) above below = tt
operand_below free next (Presence slot) above below = tt

pub formula_below : (formula : Formula) (free next : ℕ) → free ≤ next → IsBelow free formula → IsBelow next formula
formula_below (Leaf o) free next above below = operand_below free next o above below
formula_below (Negative' p x) free next above below = formula_below x free next above below
formula_below (Not' p x) free next above below = formula_below x free next above below
formula_below (Combined' p x c q y) free next above below = (formula_below x free next above below.0, formula_below y free next above below.1)
formula_below (Quotient' p x d) free next above below = formula_below x free next above below
formula_below (Remainder' p x d) free next above below = formula_below x free next above below

-- lines in two parts
pub assign_front : (n : ℕ) (xs ys : List Line) → AssignBelow n (xs ++ ys) → AssignBelow n xs
assign_front n [] ys h = tt
assign_front n (x ∷ xs) ys h = (h.0, assign_front n xs ys h.1)

pub assign_back : (n : ℕ) (xs ys : List Line) → AssignBelow n (xs ++ ys) → AssignBelow n ys
assign_back n [] ys h = h
assign_back n (x ∷ xs) ys h = assign_back n xs ys h.1

pub after_both : (present : ℕ → Option ℤ) (e : Effect) (xs ys : List Line) → after_lines present e (xs ++ ys) ≡ after_lines present (after_lines present e xs) ys
after_both present e xs ys = fold-append (after_line present) e xs ys
