-- The lines of a formula, part by part.
use Rattle.std.proofs.Common.{◌≡◌, ℕ, ◌<◌, ◌≤◌, ℤ, pos, Bool, true, false, cond, ◌&&◌, ◌||◌, List, [], ◌∷◌, ◌++◌, length, Option, refl, sym, ap, ◌∙◌, subst, arith}
use Rattle.std.specs.Prelude.{not, unwrap_or, int_lt, if◌then◌else◌}
use Rattle.std.specs.Ordering.{int_eq}
use Rattle.std.specs.Int.{w64, int_max, int_wrapping_sub, int_wrapping_mul}
use Rattle.network.specs.Network.{Effect}
use Rattle.reactor_program.specs.declared.program.Operand.{Operand}
use Rattle.reactor_program.specs.declared.program.Operand.TheVariants.{Number, State}
use Rattle.reactor_program.specs.declared.program.Operator.{Operator}
use Rattle.reactor_program.specs.declared.program.Operator.TheVariants.{Plus, Minus, Times, Minimum, Maximum, Less, Equal}
use Rattle.reactor_program.specs.declared.program.Expression.{Expression}
use Rattle.reactor_program.specs.declared.program.Expression.TheVariants.{Single, Binary}
use Rattle.reactor_program.specs.declared.program.Line.{Line}
use Rattle.reactor.specs.Effect.{truth_value, operand_value, operator_value, expression_value}
use Rattle.expand_expressions.specs.declared.formula.Combination.{Combination}
use Rattle.expand_expressions.specs.declared.formula.Combination.TheVariants.{Sum, Difference, Product, Least, Greatest, IsLess, IsAtMost, IsGreater, IsAtLeast, IsEqual, IsDifferent, Both, Either}
use Rattle.expand_expressions.specs.Meaning.{is_true, combination_value, reads_truths, IsOperandBelow}
use Rattle.expand_expressions.specs.Division.{assigned}
use Rattle.expand_expressions.specs.Working.{Worked, worked, Kept, keeping_lines, kept_operand, kept, negated, subtracted, as_truth, sided, combined}
use Rattle.expand_expressions.specs.Laws.{AssignBelow, KeepsBelow, after_lines, Gives}
use Rattle.expand_expressions.proofs.Keeping.{get_set_same, with_state, with_state_keeps, keeps_trans, assign_front, assign_back, after_both}

-- what is read alone is read below
abbrev pub IsLow : ℕ → Expression → Type 0
IsLow free (Single a) = IsOperandBelow free a
IsLow free (Binary a operator b) = Unit {0}

-- lines that give a value, with room for the states that they assign
pub record GivesIn (present : ℕ → Option ℤ) (free : ℕ) (e : Effect) (w : Worked) (value : ℤ) : Type 0 where
  pub law : Gives present free e w value
  pub low : IsLow free w.last

-- a value is kept where it can be read, below what is free
pub record Holds (present : ℕ → Option ℤ) (free : ℕ) (e : Effect) (k : Kept) (value : ℤ) : Type 0 where
  pub keeps : KeepsBelow free e (after_lines present e k.lines)
  pub reads : operand_value (after_lines present e k.lines).states present k.operand ≡ value
  pub low : IsOperandBelow k.free k.operand
  pub grows : free ≤ k.free

-- one more line
line_set : (present : ℕ → Option ℤ) (free : ℕ) (e : Effect) (last : Expression) → after_lines present e (assigned free last ∷ []) ≡ with_state e free (expression_value e.states present last)
line_set present free e last = refl

kept_after : (present : ℕ → Option ℤ) (free : ℕ) (e after : Effect) (a b : Operand) (operator : Operator) (value : ℤ) →
    KeepsBelow free e after → expression_value after.states present (Binary a operator b) ≡ value → free < length e.states →
    (KeepsBelow free e (with_state after free (expression_value after.states present (Binary a operator b))))
    × (operand_value (with_state after free (expression_value after.states present (Binary a operator b))).states present (State free) ≡ value)
kept_after present free e after a b operator value keeps gives room =
    let x = expression_value after.states present (Binary a operator b) in
    let there : free < length after.states = omega (arith, keeps.count) in (
      keeps_trans free free e after (with_state after free x) (omega arith) keeps (with_state_keeps free after free x (omega arith)),
      ap (λ o. unwrap_or o (pos 0)) (get_set_same after.states free x there) ∙ gives,
    )

pub kept_holds : (present : ℕ → Option ℤ) (free : ℕ) (e : Effect) (lines : List Line) (last : Expression) (value : ℤ) → GivesIn present free e (worked lines last) value →
    AssignBelow (length e.states) (kept free (worked lines last)).lines → Holds present free e (kept free (worked lines last)) value
kept_holds present free e lines (Single a) value gives room =
    let same : after_lines present e (lines ++ []) ≡ after_lines present e lines = after_both present e lines [] in
    record {
      keeps = subst (λ after. KeepsBelow free e after) (sym same) gives.law.keeps;
      reads = ap (λ (after : Effect). operand_value after.states present a) same ∙ gives.law.gives;
      low = gives.low;
      grows = omega arith;
    }
kept_holds present free e lines (Binary a operator b) value gives room =
    let after = after_lines present e lines in
    let last = Binary a operator b in
    let same : after_lines present e (lines ++ assigned free last ∷ []) ≡ with_state after free (expression_value after.states present last) = after_both present e lines (assigned free last ∷ []) in
    let here : free < length e.states = (assign_back (length e.states) lines (assigned free last ∷ []) room).0 in
    let both = kept_after present free e after a b operator value gives.law.keeps gives.law.gives here in
    record {
      keeps = subst (λ after. KeepsBelow free e after) (sym same) both.0;
      reads = ap (λ (after : Effect). operand_value after.states present (State free)) same ∙ both.1;
      low = omega arith;
      grows = omega arith;
    }

-- an operator behind a kept value
pub behind : (present : ℕ → Option ℤ) (free : ℕ) (e : Effect) (k : Kept) (value : ℤ) (a b : Operand) (operator : Operator) → Holds present free e k value →
    (result : ℤ) → expression_value (after_lines present e k.lines).states present (Binary a operator b) ≡ result → GivesIn present free e (worked k.lines (Binary a operator b)) result
behind present free e k value a b operator holds result is = record { law = record { keeps = holds.keeps; gives = is }; low = tt }

pub negated_gives : (present : ℕ → Option ℤ) (free : ℕ) (e : Effect) (w : Worked) (value : ℤ) → GivesIn present free e w value →
    AssignBelow (length e.states) (negated free w).lines → GivesIn present free e (negated free w) (truth_value (int_eq value (pos 0)))
negated_gives present free e w value gives room =
    let holds = kept_holds present free e w.lines w.last value gives room in
    behind present free e (kept free w) value (kept_operand free w.last) (Number (pos 0)) Equal holds (truth_value (int_eq value (pos 0)))
    (ap (λ v. truth_value (int_eq v (pos 0))) holds.reads)

pub subtracted_gives : (present : ℕ → Option ℤ) (free : ℕ) (e : Effect) (w : Worked) (value : ℤ) → GivesIn present free e w value →
    AssignBelow (length e.states) (subtracted free w).lines → GivesIn present free e (subtracted free w) (int_wrapping_sub w64 (pos 0) value)
subtracted_gives present free e w value gives room =
    let holds = kept_holds present free e w.lines w.last value gives room in
    behind present free e (kept free w) value (Number (pos 0)) (kept_operand free w.last) Minus holds (int_wrapping_sub w64 (pos 0) value)
    (ap (λ v. int_wrapping_sub w64 (pos 0) v) holds.reads)

-- truths
truth_is_zero : (b : Bool) → truth_value (int_eq (truth_value b) (pos 0)) ≡ truth_value (not b)
truth_is_zero true = refl
truth_is_zero false = refl

pub truth_again : (b : Bool) → truth_value (is_true (truth_value b)) ≡ truth_value b
truth_again true = refl
truth_again false = refl

pub not_not : (b : Bool) → not (not b) ≡ b
not_not true = refl
not_not false = refl

with_value : (present : ℕ → Option ℤ) (free : ℕ) (e : Effect) (w : Worked) (value other : ℤ) → value ≡ other → GivesIn present free e w value → GivesIn present free e w other
with_value present free e w value other same gives = subst (λ v. GivesIn present free e w v) same gives

pub truth_gives : (present : ℕ → Option ℤ) (free : ℕ) (e : Effect) (w : Worked) (value : ℤ) (is : Bool) → (is ≡ true → truth_value (is_true value) ≡ value) → GivesIn present free e w value →
    AssignBelow (length e.states) (as_truth free is w).lines → GivesIn present free e (as_truth free is w) (truth_value (is_true value))
truth_gives present free e w value true truth gives room = with_value present free e w value (truth_value (is_true value)) (sym (truth refl)) gives
truth_gives present free e w value false truth gives room =
    let front = assign_front (length e.states) (negated free w).lines (keeping_lines free (negated free w).last) room in
    let once = negated_gives present free e w value gives front in
    let twice = negated_gives present free e (negated free w) (truth_value (int_eq value (pos 0))) once room in
    with_value present free e (negated free (negated free w)) _ (truth_value (is_true value)) (truth_is_zero (int_eq value (pos 0))) twice

-- the value of a side, as its combination reads it
abbrev pub side_value : Combination → ℤ → ℤ
side_value c value = if reads_truths c then truth_value (is_true value) else value

side_gives : (present : ℕ → Option ℤ) (free : ℕ) (e : Effect) (reads : Bool) (is : Bool) (w : Worked) (value : ℤ) → (is ≡ true → truth_value (is_true value) ≡ value) → GivesIn present free e w value →
    AssignBelow (length e.states) (kept free (cond reads (as_truth free is w) w)).lines → Holds present free e (kept free (cond reads (as_truth free is w) w)) (cond reads (truth_value (is_true value)) value)
side_gives present free e true is w value truth gives room =
    let w' = as_truth free is w in
    let front = assign_front (length e.states) w'.lines (keeping_lines free w'.last) room in
    kept_holds present free e w'.lines w'.last (truth_value (is_true value)) (truth_gives present free e w value is truth gives front) room
side_gives present free e false is w value truth gives room = kept_holds present free e w.lines w.last value gives room

pub sided_holds : (present : ℕ → Option ℤ) (free : ℕ) (e : Effect) (c : Combination) (is : Bool) (w : Worked) (value : ℤ) → (is ≡ true → truth_value (is_true value) ≡ value) → GivesIn present free e w value →
    AssignBelow (length e.states) (sided free c is w).lines → Holds present free e (sided free c is w) (side_value c value)
sided_holds present free e c is w value truth gives room = side_gives present free e (reads_truths c) is w value truth gives room

-- the lines of a part are among those of the whole
pub truth_front : (n free : ℕ) (is : Bool) (w : Worked) → AssignBelow n (as_truth free is w).lines → AssignBelow n w.lines
truth_front n free true w room = room
truth_front n free false w room =
    assign_front n w.lines (keeping_lines free w.last) (assign_front n (negated free w).lines (keeping_lines free (negated free w).last) room)

side_front : (n free : ℕ) (reads is : Bool) (w : Worked) → AssignBelow n (kept free (cond reads (as_truth free is w) w)).lines → AssignBelow n w.lines
side_front n free true is w room =
    let w' = as_truth free is w in truth_front n free is w (assign_front n w'.lines (keeping_lines free w'.last) room)
side_front n free false is w room = assign_front n w.lines (keeping_lines free w.last) room

pub sided_front : (n free : ℕ) (c : Combination) (is : Bool) (w : Worked) → AssignBelow n (sided free c is w).lines → AssignBelow n w.lines
sided_front n free c is w room = side_front n free (reads_truths c) is w room

pub combined_front : (n free : ℕ) (lines : List Line) (a : Operand) (c : Combination) (b : Operand) → AssignBelow n (combined free lines a c b).lines → AssignBelow n lines
combined_front n free lines a Sum b room = room
combined_front n free lines a Difference b room = room
combined_front n free lines a Product b room = room
combined_front n free lines a Least b room = room
combined_front n free lines a Greatest b room = room
combined_front n free lines a IsLess b room = room
combined_front n free lines a IsAtMost b room = assign_front n lines (assigned free (Binary b Less a) ∷ []) room
combined_front n free lines a IsGreater b room = room
combined_front n free lines a IsAtLeast b room = assign_front n lines (assigned free (Binary a Less b) ∷ []) room
combined_front n free lines a IsEqual b room = room
combined_front n free lines a IsDifferent b room = assign_front n lines (assigned free (Binary a Equal b) ∷ []) room
combined_front n free lines a Both b room = room
combined_front n free lines a Either b room = room

-- two values that can be read behind lines
pub record Reads (present : ℕ → Option ℤ) (free : ℕ) (e : Effect) (lines : List Line) (a b : Operand) (x y : ℤ) : Type 0 where
  pub keeps : KeepsBelow free e (after_lines present e lines)
  pub left : operand_value (after_lines present e lines).states present a ≡ x
  pub right : operand_value (after_lines present e lines).states present b ≡ y

plain : (present : ℕ → Option ℤ) (free : ℕ) (e : Effect) (lines : List Line) (a b : Operand) (x y : ℤ) (operator : Operator) → Reads present free e lines a b x y →
    GivesIn present free e (worked lines (Binary a operator b)) (operator_value operator x y)
plain present free e lines a b x y operator reads =
    let after = after_lines present e lines in
    record {
      law = record {
        keeps = reads.keeps;
        gives = ap (λ v. operator_value operator v (operand_value after.states present b)) reads.left ∙ ap (λ v. operator_value operator x v) reads.right;
      };
      low = tt;
    }

flipped : (present : ℕ → Option ℤ) (free : ℕ) (e : Effect) (lines : List Line) (a b : Operand) (x y : ℤ) → Reads present free e lines a b x y → Reads present free e lines b a y x
flipped present free e lines a b x y reads = record { keeps = reads.keeps; left = reads.right; right = reads.left }

both_times : (s t : Bool) → int_wrapping_mul w64 (truth_value s) (truth_value t) ≡ truth_value (s && t)
both_times true true = refl
both_times true false = refl
both_times false true = refl
both_times false false = refl

either_most : (s t : Bool) → int_max (truth_value s) (truth_value t) ≡ truth_value (s || t)
either_most true true = refl
either_most true false = refl
either_most false true = refl
either_most false false = refl

pub combined_gives : (present : ℕ → Option ℤ) (free : ℕ) (e : Effect) (lines : List Line) (a : Operand) (c : Combination) (b : Operand) (x y : ℤ) →
    Reads present free e lines a b (side_value c x) (side_value c y) → AssignBelow (length e.states) (combined free lines a c b).lines →
    GivesIn present free e (combined free lines a c b) (combination_value c x y)
combined_gives present free e lines a Sum b x y reads room = plain present free e lines a b x y Plus reads
combined_gives present free e lines a Difference b x y reads room = plain present free e lines a b x y Minus reads
combined_gives present free e lines a Product b x y reads room = plain present free e lines a b x y Times reads
combined_gives present free e lines a Least b x y reads room = plain present free e lines a b x y Minimum reads
combined_gives present free e lines a Greatest b x y reads room = plain present free e lines a b x y Maximum reads
combined_gives present free e lines a IsLess b x y reads room = plain present free e lines a b x y Less reads
combined_gives present free e lines a IsAtMost b x y reads room =
    with_value present free e _ _ _ (truth_is_zero (int_lt y x))
    (negated_gives present free e (worked lines (Binary b Less a)) (truth_value (int_lt y x)) (plain present free e lines b a y x Less (flipped present free e lines a b x y reads)) room)
combined_gives present free e lines a IsGreater b x y reads room = plain present free e lines b a y x Less (flipped present free e lines a b x y reads)
combined_gives present free e lines a IsAtLeast b x y reads room =
    with_value present free e _ _ _ (truth_is_zero (int_lt x y))
    (negated_gives present free e (worked lines (Binary a Less b)) (truth_value (int_lt x y)) (plain present free e lines a b x y Less reads) room)
combined_gives present free e lines a IsEqual b x y reads room = plain present free e lines a b x y Equal reads
combined_gives present free e lines a IsDifferent b x y reads room =
    with_value present free e _ _ _ (truth_is_zero (int_eq x y))
    (negated_gives present free e (worked lines (Binary a Equal b)) (truth_value (int_eq x y)) (plain present free e lines a b x y Equal reads) room)
combined_gives present free e lines a Both b x y reads room =
    with_value present free e _ _ _ (both_times (is_true x) (is_true y)) (plain present free e lines a b (truth_value (is_true x)) (truth_value (is_true y)) Times reads)
combined_gives present free e lines a Either b x y reads room =
    with_value present free e _ _ _ (either_most (is_true x) (is_true y)) (plain present free e lines a b (truth_value (is_true x)) (truth_value (is_true y)) Maximum reads)
