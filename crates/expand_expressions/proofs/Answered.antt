-- What the code answers is what the definitions say.
use Rattle.std.proofs.Common.{◌≡◌, ℕ, zero, suc, ◌-◌, ◌<◌, ℤ, pos, Bool, false, cond, arith, List, [], ◌∷◌, ◌++◌, Result, Ok, Err, IfOk, refl, sym, ap, ◌∙◌, subst, append_assoc}
use Rattle.std.specs.Prelude.{nat_lt, int_lt, unsigned_abs}
use Rattle.std.proofs.lemmas.List.{append-nil}
use Rattle.reactor_program.specs.declared.program.Operand.{Operand}
use Rattle.reactor_program.specs.declared.program.Operand.TheVariants.{Number, State}
use Rattle.reactor_program.specs.declared.program.Operator.TheVariants.{Plus, Times, Less, Equal}
use Rattle.reactor_program.specs.declared.program.Expression.{Expression}
use Rattle.reactor_program.specs.declared.program.Expression.TheVariants.{Binary}
use Rattle.reactor_program.specs.declared.program.Line.{Line}
use Rattle.expand_expressions.specs.declared.fault.ExpressionFault.{ExpressionFault}
use Rattle.expand_expressions.specs.declared.formula.Combination.{Combination}
use Rattle.expand_expressions.specs.declared.formula.Combination.TheVariants.{Sum, Difference, Product, Least, Greatest, IsLess, IsAtMost, IsGreater, IsAtLeast, IsEqual, IsDifferent, Both, Either}
use Rattle.expand_expressions.specs.Division.{assigned, begun, bit_taken_off, all_taken_off, turned, answer_state, factor, divided_lines, divided_last}
use Rattle.expand_expressions.specs.Working.{Worked, Kept, combined, combined_sides, divided}

-- these lines are added, and this is the last operator
abbrev pub Answers : Result Expression ExpressionFault → List Line → List Line → Worked → Type 0
Answers r old new w = IfOk r (λ last. (last ≡ w.last) × (new ≡ old ++ w.lines))

pub divided_answers : (r : Result Expression ExpressionFault) (free : ℕ) (q : Bool) (d passed : ℤ) (value : Expression) (w whole : Worked) (old mid new : List Line) → passed ≡ d → whole ≡ divided free q d w → value ≡ w.last →
    mid ≡ old ++ w.lines → IfOk r (λ last. (last ≡ divided_last free q passed) × (new ≡ mid ++ (assigned free value ∷ divided_lines free q passed))) → Answers r old new whole
divided_answers (Ok last) free q d passed value w whole old mid new same is value_is mid_is h =
    let lines = divided_lines free q d in
    let there : new ≡ old ++ (w.lines ++ (assigned free w.last ∷ lines)) =
    h.1 ∙ ap (λ d. mid ++ (assigned free value ∷ divided_lines free q d)) same ∙ ap (λ mid. mid ++ (assigned free value ∷ lines)) mid_is ∙ append_assoc old w.lines (assigned free value ∷ lines) ∙ ap (λ v. old ++ (w.lines ++ (assigned free v ∷ lines))) value_is in
    subst (λ w. (last ≡ w.last) × (new ≡ old ++ w.lines)) (sym is) (h.0 ∙ ap (λ d. divided_last free q d) same, there)
divided_answers (Err fault) free q d passed value w whole old mid new same is value_is mid_is h = tt

-- lines in front stay in front
combined_behind : (free : ℕ) (old lines : List Line) (a : Operand) (c : Combination) (b : Operand) → (combined free (old ++ lines) a c b).lines ≡ old ++ (combined free lines a c b).lines
combined_behind free old lines a Sum b = refl
combined_behind free old lines a Difference b = refl
combined_behind free old lines a Product b = refl
combined_behind free old lines a Least b = refl
combined_behind free old lines a Greatest b = refl
combined_behind free old lines a IsLess b = refl
combined_behind free old lines a IsAtMost b = append_assoc old lines (assigned free (Binary b Less a) ∷ [])
combined_behind free old lines a IsGreater b = refl
combined_behind free old lines a IsAtLeast b = append_assoc old lines (assigned free (Binary a Less b) ∷ [])
combined_behind free old lines a IsEqual b = refl
combined_behind free old lines a IsDifferent b = append_assoc old lines (assigned free (Binary a Equal b) ∷ [])
combined_behind free old lines a Both b = refl
combined_behind free old lines a Either b = refl

combined_last : (free : ℕ) (lines other : List Line) (a : Operand) (c : Combination) (b : Operand) → (combined free lines a c b).last ≡ (combined free other a c b).last
combined_last free lines other a Sum b = refl
combined_last free lines other a Difference b = refl
combined_last free lines other a Product b = refl
combined_last free lines other a Least b = refl
combined_last free lines other a Greatest b = refl
combined_last free lines other a IsLess b = refl
combined_last free lines other a IsAtMost b = refl
combined_last free lines other a IsGreater b = refl
combined_last free lines other a IsAtLeast b = refl
combined_last free lines other a IsEqual b = refl
combined_last free lines other a IsDifferent b = refl
combined_last free lines other a Both b = refl
combined_last free lines other a Either b = refl

-- the operands and the lines of both sides
record SidesAre (left : Kept) (right : ℕ → Kept) (a b : Operand) (old behind : List Line) : Type 0 where
  a_is : a ≡ left.operand
  b_is : b ≡ (right left.free).operand
  behind_is : behind ≡ old ++ (left.lines ++ (right left.free).lines)

sides_are : (left : Kept) (right : ℕ → Kept) (a b : Operand) (next : ℕ) (old mid behind : List Line) → (a ≡ left.operand) × (next ≡ left.free) × (mid ≡ old ++ left.lines) →
    (b ≡ (right next).operand) × (behind ≡ mid ++ (right next).lines) → SidesAre left right a b old behind
sides_are left right a b next old mid behind h g =
    let same = ap right h.1 in
    record {
      a_is = h.0;
      b_is = g.0 ∙ ap (λ (k : Kept). k.operand) same;
      behind_is = g.1 ∙ ap (λ (k : Kept). mid ++ k.lines) same ∙ ap (λ mid. mid ++ (right left.free).lines) h.2 ∙ append_assoc old left.lines (right left.free).lines;
    }

pub combined_answers : (r : Result Expression ExpressionFault) (free : ℕ) (c : Combination) (left : Kept) (right : ℕ → Kept) (whole : Worked) (a b : Operand) (next : ℕ) (old mid behind new : List Line) →
    whole ≡ combined_sides free c left (right left.free) → (a ≡ left.operand) × (next ≡ left.free) × (mid ≡ old ++ left.lines) → (b ≡ (right next).operand) × (behind ≡ mid ++ (right next).lines) →
    IfOk r (λ last. (last ≡ (combined free behind a c b).last) × (new ≡ (combined free behind a c b).lines)) → Answers r old new whole
combined_answers (Ok last) free c left right whole a b next old mid behind new is h g k =
    let sides = sides_are left right a b next old mid behind h g in
    let lines = left.lines ++ (right left.free).lines in
    let both : combined free behind a c b ≡ combined free (old ++ lines) left.operand c (right left.free).operand =
    ap (λ behind. combined free behind a c b) sides.behind_is ∙ ap (λ a. combined free (old ++ lines) a c b) sides.a_is ∙ ap (λ b. combined free (old ++ lines) left.operand c b) sides.b_is in
    let last_is = k.0 ∙ ap (λ (w : Worked). w.last) both ∙ combined_last free (old ++ lines) lines left.operand c (right left.free).operand in
    let lines_are = k.1 ∙ ap (λ (w : Worked). w.lines) both ∙ combined_behind free old lines left.operand c (right left.free).operand in
    subst (λ w. (last ≡ w.last) × (new ≡ old ++ w.lines)) (sym is) (last_is, lines_are)
combined_answers (Err fault) free c left right whole a b next old mid behind new is h g k = tt

-- one bit less is left to do
less_left : (free : ℕ) (q : Bool) (size bit : ℕ) (old new : List Line) → new ≡ old ++ bit_taken_off free q size bit → new ++ all_taken_off free q size bit ≡ old ++ all_taken_off free q size (suc bit)
unfolding all_taken_off
less_left free q size bit old new is =
    ap (λ new. new ++ all_taken_off free q size bit) is ∙ append_assoc old (bit_taken_off free q size bit) (all_taken_off free q size bit)

pub bit_step : (free : ℕ) (q : Bool) (size bit : ℕ) (old new total : List Line) → 0 < bit → old ++ all_taken_off free q size bit ≡ total → new ≡ old ++ bit_taken_off free q size (bit - 1) →
    new ++ all_taken_off free q size (bit - 1) ≡ total
bit_step free q size zero old new total some before is = absurd (omega arith)
bit_step free q size (suc bit) old new total some before is =
    let same : suc bit - 1 ≡ bit = omega arith in
    let is' : new ≡ old ++ bit_taken_off free q size bit = is ∙ ap (λ bit. old ++ bit_taken_off free q size bit) same in
    ap (λ bit. new ++ all_taken_off free q size bit) same ∙ less_left free q size bit old new is' ∙ before

-- no bit is left
pub bit_end : (free : ℕ) (q : Bool) (size bit : ℕ) (lines total : List Line) → bit ≡ 0 → lines ++ all_taken_off free q size bit ≡ total → lines ≡ total
unfolding all_taken_off
bit_end free q size zero lines total none is = sym (append-nil lines) ∙ is
bit_end free q size (suc bit) lines total none is = absurd (omega arith)

-- the lines of a division, part by part
pub divided_done : (free : ℕ) (q : Bool) (d : ℤ) (size : ℕ) (lower : Bool) (value : Expression) (line : Line) (state : ℕ) (old first second third new : List Line) → size ≡ unsigned_abs d → nat_lt size 2 ≡ false →
    lower ≡ int_lt d (pos 0) → state ≡ answer_state free q → line ≡ assigned free value → first ≡ old ++ line ∷ [] → second ≡ first ++ begun free q → third ≡ second ++ all_taken_off free q size 63 →
    new ≡ third ++ turned free q lower → (Binary (State state) Plus (Number (pos 0)) ≡ divided_last free q d) × (new ≡ old ++ (assigned free value ∷ divided_lines free q d))
divided_done free q d size lower value line state old first second third new size_is some lower_is state_is line_is one two three four =
    let many : nat_lt (unsigned_abs d) 2 ≡ false = sym (ap (λ n. nat_lt n 2) size_is) ∙ some in
    let all = begun free q ++ (all_taken_off free q (unsigned_abs d) 63 ++ turned free q (int_lt d (pos 0))) in
    let last_is = ap (λ k. Binary (State k) Plus (Number (pos 0))) state_is
    ∙ sym (ap (λ few. cond few (Binary (State free) Times (Number (factor d q))) (Binary (State (answer_state free q)) Plus (Number (pos 0)))) many) in
    let together : new ≡ (((old ++ assigned free value ∷ []) ++ begun free q) ++ all_taken_off free q (unsigned_abs d) 63) ++ turned free q (int_lt d (pos 0)) =
    four ∙ ap (λ lower. third ++ turned free q lower) lower_is ∙ ap (λ third. third ++ turned free q (int_lt d (pos 0))) three
    ∙ ap (λ n. (second ++ all_taken_off free q n 63) ++ turned free q (int_lt d (pos 0))) size_is
    ∙ ap (λ second. (second ++ all_taken_off free q (unsigned_abs d) 63) ++ turned free q (int_lt d (pos 0))) two
    ∙ ap (λ first. ((first ++ begun free q) ++ all_taken_off free q (unsigned_abs d) 63) ++ turned free q (int_lt d (pos 0))) one
    ∙ ap (λ line. (((old ++ line ∷ []) ++ begun free q) ++ all_taken_off free q (unsigned_abs d) 63) ++ turned free q (int_lt d (pos 0))) line_is in
    let flat = ap (λ lines. (lines ++ all_taken_off free q (unsigned_abs d) 63) ++ turned free q (int_lt d (pos 0))) (append_assoc old (assigned free value ∷ []) (begun free q))
    ∙ ap (λ lines. lines ++ turned free q (int_lt d (pos 0))) (append_assoc old (assigned free value ∷ begun free q) (all_taken_off free q (unsigned_abs d) 63))
    ∙ append_assoc old (assigned free value ∷ (begun free q ++ all_taken_off free q (unsigned_abs d) 63)) (turned free q (int_lt d (pos 0)))
    ∙ ap (λ lines. old ++ (assigned free value ∷ lines)) (append_assoc (begun free q) (all_taken_off free q (unsigned_abs d) 63) (turned free q (int_lt d (pos 0)))) in
    (last_is, together ∙ flat ∙ sym (ap (λ few. old ++ (assigned free value ∷ cond few [] all)) many))
