-- Lines that assign none but free states.
use Rattle.std.proofs.Common.{◌≡◌, ℕ, zero, suc, ◌≤◌, ◌*◌, ◌^◌, ℤ, pos, Bool, true, false, cond, List, [], ◌∷◌, ◌++◌, length, Option, refl, ◌∙◌, arith}
use Rattle.std.specs.Prelude.{nat_lt, nat_le, int_lt, neg_ℤ, unsigned_abs}
use Rattle.std.proofs.lemmas.List.{length-set}
use Rattle.network.specs.Network.{Effect}
use Rattle.reactor_program.specs.declared.program.Operand.{Operand}
use Rattle.reactor_program.specs.declared.program.Operator.TheVariants.{Less, Equal}
use Rattle.reactor_program.specs.declared.program.Expression.{Expression}
use Rattle.reactor_program.specs.declared.program.Expression.TheVariants.{Single, Binary}
use Rattle.reactor_program.specs.declared.program.Statement.{Statement}
use Rattle.reactor_program.specs.declared.program.Statement.TheVariants.{Assign, Output, Schedule}
use Rattle.reactor_program.specs.declared.program.Line.{Line}
use Rattle.reactor.specs.Effect.{expression_value, after_statement, is_done, after_line}
use Rattle.expand_expressions.specs.declared.formula.Combination.{Combination}
use Rattle.expand_expressions.specs.declared.formula.Combination.TheVariants.{Sum, Difference, Product, Least, Greatest, IsLess, IsAtMost, IsGreater, IsAtLeast, IsEqual, IsDifferent, Both, Either}
use Rattle.expand_expressions.specs.declared.formula.Formula.{Formula}
use Rattle.expand_expressions.specs.declared.formula.Formula.TheVariants.{Leaf, Negative', Not', Combined', Quotient', Remainder'}
use Rattle.expand_expressions.specs.Meaning.{is_truth, reads_truths}
use Rattle.expand_expressions.specs.Division.{assigned, begun, taken_off, bit_taken_off, all_taken_off, turned, divided_lines}
use Rattle.expand_expressions.specs.Working.{Worked, keeping_lines, kept_free, kept, negated, as_truth, sided, combined, worked_out}
use Rattle.expand_expressions.specs.Laws.{KeepsBelow, after_lines}
use Rattle.expand_expressions.proofs.Keeping.{with_state_keeps, keeps_refl, keeps_trans}

abbrev pub AssignsFrom : ℕ → Statement → Type 0
AssignsFrom free (Assign k x) = free ≤ k
AssignsFrom free (Output port a) = ⊥
AssignsFrom free (Schedule slot delay a) = ⊥

abbrev pub AssignFrom : ℕ → List Line → Type 0
AssignFrom free [] = Unit {0}
AssignFrom free (line ∷ lines) = AssignsFrom free line.statement × AssignFrom free lines

-- the number of states stays
statement_count : (present : ℕ → Option ℤ) (e : Effect) (s : Statement) → length (after_statement present e s).states ≡ length e.states
statement_count present e (Assign k x) = length-set e.states k (expression_value e.states present x)
statement_count present e (Output port a) = refl
statement_count present e (Schedule slot delay a) = refl

chosen_count : (b : Bool) (present : ℕ → Option ℤ) (e : Effect) (s : Statement) → length (cond b (after_statement present e s) e).states ≡ length e.states
chosen_count true present e s = statement_count present e s
chosen_count false present e s = refl

pub lines_count : (present : ℕ → Option ℤ) (lines : List Line) (e : Effect) → length (after_lines present e lines).states ≡ length e.states
lines_count present [] e = refl
lines_count present (line ∷ lines) e =
    lines_count present lines (after_line present e line) ∙ chosen_count (is_done present e line.condition) present e line.statement

-- nothing else changes
statement_keeps : (present : ℕ → Option ℤ) (free : ℕ) (e : Effect) (s : Statement) → AssignsFrom free s → KeepsBelow free e (after_statement present e s)
statement_keeps present free e (Assign k x) above = with_state_keeps free e k (expression_value e.states present x) above
statement_keeps present free e (Output port a) above = absurd above
statement_keeps present free e (Schedule slot delay a) above = absurd above

chosen_keeps : (b : Bool) (present : ℕ → Option ℤ) (free : ℕ) (e : Effect) (s : Statement) → AssignsFrom free s → KeepsBelow free e (cond b (after_statement present e s) e)
chosen_keeps true present free e s above = statement_keeps present free e s above
chosen_keeps false present free e s above = keeps_refl free e

pub assign_keeps : (present : ℕ → Option ℤ) (free : ℕ) (lines : List Line) (e : Effect) → AssignFrom free lines → KeepsBelow free e (after_lines present e lines)
assign_keeps present free [] e above = keeps_refl free e
assign_keeps present free (line ∷ lines) e above =
    keeps_trans free free e (after_line present e line) (after_lines present (after_line present e line) lines) (omega arith)
    (chosen_keeps (is_done present e line.condition) present free e line.statement above.0) (assign_keeps present free lines (after_line present e line) above.1)

-- lines in parts
pub both_from : (free : ℕ) (xs ys : List Line) → AssignFrom free xs → AssignFrom free ys → AssignFrom free (xs ++ ys)
both_from free [] ys h g = g
both_from free (x ∷ xs) ys h g = (h.0, both_from free xs ys h.1 g)

statement_lower : (free next : ℕ) (s : Statement) → free ≤ next → AssignsFrom next s → AssignsFrom free s
statement_lower free next (Assign k x) above h = let here : next ≤ k = h in omega arith
statement_lower free next (Output port a) above h = h
statement_lower free next (Schedule slot delay a) above h = h

from_lower : (free next : ℕ) (lines : List Line) → free ≤ next → AssignFrom next lines → AssignFrom free lines
from_lower free next [] above h = tt
from_lower free next (line ∷ lines) above h = (statement_lower free next line.statement above h.0, from_lower free next lines above h.1)

chosen_from : (free : ℕ) (b : Bool) (xs ys : List Line) → AssignFrom free xs → AssignFrom free ys → AssignFrom free (cond b xs ys)
chosen_from free true xs ys h g = h
chosen_from free false xs ys h g = g

keeping_from : (free : ℕ) (x : Expression) → AssignFrom free (keeping_lines free x)
keeping_from free (Single a) = tt
keeping_from free (Binary a operator b) = (omega arith, tt)

pub kept_from : (free : ℕ) (w : Worked) → AssignFrom free w.lines → AssignFrom free (w.lines ++ keeping_lines free w.last)
kept_from free w h = both_from free w.lines (keeping_lines free w.last) h (keeping_from free w.last)

kept_grows : (free : ℕ) (x : Expression) → free ≤ kept_free free x
kept_grows free (Single a) = omega arith
kept_grows free (Binary a operator b) = omega arith

pub truth_from : (free : ℕ) (is : Bool) (w : Worked) → AssignFrom free w.lines → AssignFrom free (as_truth free is w).lines
truth_from free true w h = h
truth_from free false w h = kept_from free (negated free w) (kept_from free w h)

side_from : (free : ℕ) (reads is : Bool) (w : Worked) → AssignFrom free w.lines → AssignFrom free (kept free (cond reads (as_truth free is w) w)).lines
side_from free true is w h = kept_from free (as_truth free is w) (truth_from free is w h)
side_from free false is w h = kept_from free w h

combined_from : (free : ℕ) (lines : List Line) (a : Operand) (c : Combination) (b : Operand) → AssignFrom free lines → AssignFrom free (combined free lines a c b).lines
combined_from free lines a Sum b h = h
combined_from free lines a Difference b h = h
combined_from free lines a Product b h = h
combined_from free lines a Least b h = h
combined_from free lines a Greatest b h = h
combined_from free lines a IsLess b h = h
combined_from free lines a IsAtMost b h = both_from free lines (assigned free (Binary b Less a) ∷ []) h (omega arith, tt)
combined_from free lines a IsGreater b h = h
combined_from free lines a IsAtLeast b h = both_from free lines (assigned free (Binary a Less b) ∷ []) h (omega arith, tt)
combined_from free lines a IsEqual b h = h
combined_from free lines a IsDifferent b h = both_from free lines (assigned free (Binary a Equal b) ∷ []) h (omega arith, tt)
combined_from free lines a Both b h = h
combined_from free lines a Either b h = h

-- divisions
begun_from : (free : ℕ) (q : Bool) → AssignFrom free (begun free q)
begun_from free true = (omega arith, (omega arith, (omega arith, tt)))
begun_from free false = (omega arith, (omega arith, tt))

taken_from : (free : ℕ) (q : Bool) (part weight : ℤ) → AssignFrom free (taken_off free q part weight)
taken_from free true part weight = (omega arith, (omega arith, (omega arith, tt)))
taken_from free false part weight = (omega arith, (omega arith, tt))

bit_from : (free : ℕ) (q : Bool) (size bit : ℕ) → AssignFrom free (bit_taken_off free q size bit)
bit_from free q size bit =
    chosen_from free (nat_le (size * 2 ^ bit) (2 ^ 63)) (taken_off free q (neg_ℤ (pos (size * 2 ^ bit))) (pos (2 ^ bit))) []
    (taken_from free q (neg_ℤ (pos (size * 2 ^ bit))) (pos (2 ^ bit))) tt

all_from : (free : ℕ) (q : Bool) (size bit : ℕ) → AssignFrom free (all_taken_off free q size bit)
unfolding all_taken_off
all_from free q size zero = tt
all_from free q size (suc bit) =
    both_from free (bit_taken_off free q size bit) (all_taken_off free q size bit) (bit_from free q size bit) (all_from free q size bit)

turned_from : (free : ℕ) (q lower : Bool) → AssignFrom free (turned free q lower)
turned_from free true lower = (omega arith, (omega arith, tt))
turned_from free false lower = (omega arith, (omega arith, tt))

divided_from : (free : ℕ) (q : Bool) (d : ℤ) → AssignFrom free (divided_lines free q d)
divided_from free q d =
    let n = unsigned_abs d in
    let lower = int_lt d (pos 0) in
    chosen_from free (nat_lt n 2) [] (begun free q ++ (all_taken_off free q n 63 ++ turned free q lower)) tt
    (both_from free (begun free q) (all_taken_off free q n 63 ++ turned free q lower) (begun_from free q)
    (both_from free (all_taken_off free q n 63) (turned free q lower) (all_from free q n 63) (turned_from free q lower)))

-- the lines of a formula
pub worked_from : (formula : Formula) (free : ℕ) → AssignFrom free (worked_out free formula).lines
worked_from (Leaf a) free = tt
worked_from (Negative' p x) free = kept_from free (worked_out free x) (worked_from x free)
worked_from (Not' p x) free = kept_from free (worked_out free x) (worked_from x free)
worked_from (Combined' p x c q y) free =
    let wx = worked_out free x in
    let left = sided free c (is_truth x) wx in
    let wy = worked_out left.free y in
    let right = sided left.free c (is_truth y) wy in
    let grows : free ≤ left.free = kept_grows free (cond (reads_truths c) (as_truth free (is_truth x) wx) wx).last in
    combined_from free (left.lines ++ right.lines) left.operand c right.operand
    (both_from free left.lines right.lines (side_from free (reads_truths c) (is_truth x) wx (worked_from x free))
    (from_lower free left.free right.lines grows (side_from left.free (reads_truths c) (is_truth y) wy (worked_from y left.free))))
worked_from (Quotient' p x d) free =
    let w = worked_out free x in
    both_from free w.lines (assigned free w.last ∷ divided_lines free true d) (worked_from x free) (omega arith, divided_from free true d)
worked_from (Remainder' p x d) free =
    let w = worked_out free x in
    both_from free w.lines (assigned free w.last ∷ divided_lines free false d) (worked_from x free) (omega arith, divided_from free false d)
