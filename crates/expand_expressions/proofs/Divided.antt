-- A division gives its quotient or its remainder.
use Rattle.std.proofs.Common.{◌≡◌, ℕ, ◌+◌, ◌/◌, ◌%◌, ◌^◌, ◌*◌, ◌<◌, ◌≤◌, ℤ, pos, Bool, true, false, cond, List, [], ◌∷◌, ◌++◌, length, get_or, Option, Some, refl, sym, ap, ◌∙◌, subst, arith}
use Rattle.std.specs.Prelude.{nat_lt, int_lt, slice_get, unsigned_abs, FitsSigned}
use Rattle.std.specs.Int.{w64, int_min, int_wrapping_add, int_wrapping_sub, int_wrapping_mul}
use Rattle.std.proofs.lemmas.Option.{slice_get-get_or}
use Rattle.network.specs.Network.{Effect}
use Rattle.reactor_program.specs.declared.program.Operand.TheVariants.{Number, State}
use Rattle.reactor_program.specs.declared.program.Operator.TheVariants.{Plus, Minus, Times, Minimum, Less}
use Rattle.reactor_program.specs.declared.program.Expression.{Expression}
use Rattle.reactor_program.specs.declared.program.Expression.TheVariants.{Binary}
use Rattle.reactor_program.specs.declared.program.Line.{Line}
use Rattle.reactor.specs.Effect.{truth_value, operand_value, expression_value, after_line}
use Rattle.expand_expressions.specs.Meaning.{quotient_value, remainder_value}
use Rattle.expand_expressions.specs.Division.{assigned, assigned_where, begun, all_taken_off, turned, factor, divided_lines, divided_last}
use Rattle.expand_expressions.specs.Working.{Worked, divided}
use Rattle.expand_expressions.specs.Laws.{AssignBelow, KeepsBelow, after_lines}
use Rattle.expand_expressions.proofs.Keeping.{get_set_same, with_state, with_state_keeps, keeps_trans, assign_back, after_both}
use Rattle.expand_expressions.proofs.DividedStates.{Room, Dividing, Marked, mark, rest_set, quotient_set, state_read, where_line}
use Rattle.expand_expressions.proofs.DividedNumbers.{lowered, begun_is, turned_is, plus_none, less_left, few_is, some_is, size_fits, rest_fits, either_fits, quotient_turned, quotient_is, remainder_is, small_quotient, small_remainder}
use Rattle.expand_expressions.proofs.DividedLines.{all_taken}
use Rattle.expand_expressions.proofs.Parts.{GivesIn, IsLow}

-- the scratch states that the lines assign are there
room_of : (n free : ℕ) (q lower : Bool) (all : List Line) → AssignBelow n (begun free q ++ (all ++ turned free q lower)) → Room free q n
room_of n free true lower all h = record {
  rest = h.0;
  more = (assign_back n all (turned free true lower) (assign_back n (begun free true) (all ++ turned free true lower) h)).0;
  quotient = λ yes. h.1.1.0;
}
room_of n free false lower all h = record {
  rest = h.0;
  more = (assign_back n all (turned free false lower) (assign_back n (begun free false) (all ++ turned free false lower) h)).0;
  quotient = λ yes. absurd cc;
}

-- the lines' expressions
abbrev zero_less : ℕ → Expression
zero_less free = Binary (Number (pos 0)) Minus (State free)

abbrev lower_of : ℕ → Expression
lower_of free = Binary (State (free + 1)) Minimum (State free)

-- all of the number is left
begun_divides : (present : ℕ → Option ℤ) (free : ℕ) (q : Bool) (begin e : Effect) (z : ℤ) → FitsSigned w64 z → KeepsBelow free begin e → slice_get e.states free ≡ Some z → Room free q (length begin.states) →
    Dividing free q begin (after_lines present e (begun free q)) z (lowered (unsigned_abs z)) (lowered 0)
begun_divides present free q begin e z fits keeps is room = by_kind q room
  where
    rests : (q : Bool) → Room free q (length begin.states) → (quotient : ℤ) → (q ≡ true → slice_get e.states (free + 3) ≡ Some quotient) →
        Dividing free q begin (after_lines present e (assigned (free + 1) (zero_less free) ∷ assigned (free + 1) (lower_of free) ∷ [])) z (lowered (unsigned_abs z)) quotient
    rests q room quotient quotient_is =
        let there : free + 1 < length e.states = omega (arith, keeps.count, room.rest) in
        let first : Dividing free q begin e z (get_or e.states (free + 1) (pos 0)) quotient = record {
          keeps = keeps;
          number_is = is;
          rest_is = slice_get-get_or e.states (free + 1) (pos 0) there;
          quotient_is = quotient_is;
        } in
        let v = expression_value e.states present (zero_less free) in
        let v_is : v ≡ int_wrapping_sub w64 (pos 0) z = ap (λ z. int_wrapping_sub w64 (pos 0) z) (state_read present e free z is) in
        let second = rest_set free q begin e z (get_or e.states (free + 1) (pos 0)) quotient v (int_wrapping_sub w64 (pos 0) z) room v_is first in
        let after = with_state e (free + 1) v in
        let w = expression_value after.states present (lower_of free) in
        let w_is : w ≡ lowered (unsigned_abs z) =
        ap (λ r. int_min r (operand_value after.states present (State free))) (state_read present after (free + 1) (int_wrapping_sub w64 (pos 0) z) second.rest_is)
        ∙ ap (λ n. int_min (int_wrapping_sub w64 (pos 0) z) n) (state_read present after free z second.number_is)
        ∙ begun_is z fits in
        rest_set free q begin after z (int_wrapping_sub w64 (pos 0) z) quotient w (lowered (unsigned_abs z)) room w_is second

    by_kind : (q : Bool) → Room free q (length begin.states) → Dividing free q begin (after_lines present e (begun free q)) z (lowered (unsigned_abs z)) (lowered 0)
    by_kind true room =
        let here : free + 3 < length begin.states = room.quotient refl in
        let there : free + 3 < length e.states = omega (arith, keeps.count, here) in
        quotient_set free true begin (after_lines present e (assigned (free + 1) (zero_less free) ∷ assigned (free + 1) (lower_of free) ∷ [])) z (lowered (unsigned_abs z)) (get_or e.states (free + 3) (pos 0)) (pos 0) (lowered 0) room refl refl
        (rests true room (get_or e.states (free + 3) (pos 0)) (λ yes. slice_get-get_or e.states (free + 3) (pos 0) there))
    by_kind false room = rests false room (lowered 0) (λ yes. absurd cc)

-- the sign is set right
test_value : (present : ℕ → Option ℤ) (free : ℕ) (e : Effect) (z : ℤ) (c : Bool) → slice_get e.states free ≡ Some z →
    expression_value e.states present (cond c (Binary (State free) Less (Number (pos 0))) (Binary (Number (pos 0)) Less (State free))) ≡ truth_value (cond c (int_lt z (pos 0)) (int_lt (pos 0) z))
test_value present free e z true is = ap (λ z. truth_value (int_lt z (pos 0))) (state_read present e free z is)
test_value present free e z false is = ap (λ z. truth_value (int_lt (pos 0) z)) (state_read present e free z is)

-- what is in a state at the end
record Ends (free : ℕ) (begin e : Effect) (k : ℕ) (value : ℤ) : Type 0 where
  keeps : KeepsBelow free begin e
  value_is : slice_get e.states k ≡ Some value

turned_quotient : (present : ℕ → Option ℤ) (free : ℕ) (begin e : Effect) (z rest x : ℤ) (lower : Bool) → Room free true (length begin.states) → Dividing free true begin e z rest x →
    Ends free begin (after_lines present e (turned free true lower)) (free + 3) (cond (cond lower (int_lt z (pos 0)) (int_lt (pos 0) z)) (int_wrapping_sub w64 (pos 0) x) x)
turned_quotient present free begin e z rest x lower room d =
    let v = expression_value e.states present (cond lower (Binary (State free) Less (Number (pos 0))) (Binary (Number (pos 0)) Less (State free))) in
    let b = cond lower (int_lt z (pos 0)) (int_lt (pos 0) z) in
    let m = mark free true begin e z rest x v b room (test_value present free e z lower d.number_is) d in
    by_test (with_state e (free + 2) v) b m
  where
    by_test : (f : Effect) (b : Bool) → Marked free true begin f z rest x b → Ends free begin (after_line present f (assigned_where (free + 2) (free + 3) (zero_less (free + 3)))) (free + 3) (cond b (int_wrapping_sub w64 (pos 0) x) x)
    by_test f true m =
        let v = expression_value f.states present (zero_less (free + 3)) in
        let v_is : v ≡ int_wrapping_sub w64 (pos 0) x = ap (λ x. int_wrapping_sub w64 (pos 0) x) (state_read present f (free + 3) x (m.dividing.quotient_is refl)) in
        let done = quotient_set free true begin f z rest x v (int_wrapping_sub w64 (pos 0) x) room refl v_is m.dividing in
        subst (λ e. Ends free begin e (free + 3) (int_wrapping_sub w64 (pos 0) x)) (sym (where_line present f (free + 2) (free + 3) (zero_less (free + 3)) true m.more_is))
        (record { keeps = done.keeps; value_is = done.quotient_is refl })
    by_test f false m =
        subst (λ e. Ends free begin e (free + 3) x) (sym (where_line present f (free + 2) (free + 3) (zero_less (free + 3)) false m.more_is))
        (record { keeps = m.dividing.keeps; value_is = m.dividing.quotient_is refl })

turned_rest : (present : ℕ → Option ℤ) (free : ℕ) (begin e : Effect) (z rest x : ℤ) (lower : Bool) → Room free false (length begin.states) → Dividing free false begin e z rest x →
    Ends free begin (after_lines present e (turned free false lower)) (free + 1) (cond (int_lt (pos 0) z) (int_wrapping_sub w64 (pos 0) rest) rest)
turned_rest present free begin e z rest x lower room d =
    let v = expression_value e.states present (Binary (Number (pos 0)) Less (State free)) in
    let m = mark free false begin e z rest x v (int_lt (pos 0) z) room (test_value present free e z false d.number_is) d in
    by_test (with_state e (free + 2) v) (int_lt (pos 0) z) m
  where
    by_test : (f : Effect) (b : Bool) → Marked free false begin f z rest x b → Ends free begin (after_line present f (assigned_where (free + 2) (free + 1) (zero_less (free + 1)))) (free + 1) (cond b (int_wrapping_sub w64 (pos 0) rest) rest)
    by_test f true m =
        let v = expression_value f.states present (zero_less (free + 1)) in
        let v_is : v ≡ int_wrapping_sub w64 (pos 0) rest = ap (λ x. int_wrapping_sub w64 (pos 0) x) (state_read present f (free + 1) rest m.dividing.rest_is) in
        let done = rest_set free false begin f z rest x v (int_wrapping_sub w64 (pos 0) rest) room v_is m.dividing in
        subst (λ e. Ends free begin e (free + 1) (int_wrapping_sub w64 (pos 0) rest)) (sym (where_line present f (free + 2) (free + 1) (zero_less (free + 1)) true m.more_is))
        (record { keeps = done.keeps; value_is = done.rest_is })
    by_test f false m =
        subst (λ e. Ends free begin e (free + 1) rest) (sym (where_line present f (free + 2) (free + 1) (zero_less (free + 1)) false m.more_is))
        (record { keeps = m.dividing.keeps; value_is = m.dividing.rest_is })

-- 0 is added at the end
ends_give : (present : ℕ → Option ℤ) (free : ℕ) (begin e : Effect) (k : ℕ) (value : ℤ) → FitsSigned w64 value → Ends free begin e k value →
    KeepsBelow free begin e × (expression_value e.states present (Binary (State k) Plus (Number (pos 0))) ≡ value)
ends_give present free begin e k value fits ends =
    (ends.keeps, ap (λ v. int_wrapping_add w64 v (pos 0)) (state_read present e k value ends.value_is) ∙ plus_none value fits)

-- from the number in its state to the last operator
abbrev Given : (ℕ → Option ℤ) → ℕ → Effect → Effect → List Line → Expression → ℤ → Type 0
Given present free begin e lines last value =
    KeepsBelow free begin (after_lines present e lines) × (expression_value (after_lines present e lines).states present last ≡ value)

three_parts : (present : ℕ → Option ℤ) (e : Effect) (xs ys zs : List Line) →
    after_lines present e (xs ++ (ys ++ zs)) ≡ after_lines present (after_lines present (after_lines present e xs) ys) zs
three_parts present e xs ys zs = after_both present e xs (ys ++ zs) ∙ after_both present (after_lines present e xs) ys zs

all_off : (present : ℕ → Option ℤ) (free : ℕ) (q : Bool) (begin e : Effect) (z divisor : ℤ) → FitsSigned w64 z → 1 < unsigned_abs divisor → KeepsBelow free begin e → slice_get e.states free ≡ Some z →
    Room free q (length begin.states) →
    Dividing free q begin (after_lines present (after_lines present e (begun free q)) (all_taken_off free q (unsigned_abs divisor) 63)) z (lowered (unsigned_abs z % unsigned_abs divisor))
    (lowered (unsigned_abs z / unsigned_abs divisor))
all_off present free q begin e z divisor fits some keeps is room =
    let size = unsigned_abs divisor in
    let n = unsigned_abs z in
    let most : n ≤ 2 ^ 63 = size_fits z fits in
    let below : n < size * 2 ^ 63 = omega arith in
    let less : n / size < 2 ^ 63 = less_left size n some most in
    let none : 0 + n / size ≡ n / size = omega arith in
    let fits_all : 0 + n / size ≤ 2 ^ 63 = omega (arith, less, none) in
    let here : 0 < size = omega arith in
    let h = all_taken present free q begin z size here room 63 (omega arith) (after_lines present e (begun free q)) n 0 below most fits_all (begun_divides present free q begin e z fits keeps is room) in
    subst (λ x. Dividing free q begin (after_lines present (after_lines present e (begun free q)) (all_taken_off free q size 63)) z (lowered (n % size)) (lowered x)) none h

quotient_from : (present : ℕ → Option ℤ) (free : ℕ) (begin e : Effect) (z divisor : ℤ) → FitsSigned w64 z → KeepsBelow free begin e → slice_get e.states free ≡ Some z →
    (few : Bool) → nat_lt (unsigned_abs divisor) 2 ≡ few →
    AssignBelow (length begin.states) (cond few [] (begun free true ++ (all_taken_off free true (unsigned_abs divisor) 63 ++ turned free true (int_lt divisor (pos 0))))) →
    Given present free begin e (cond few [] (begun free true ++ (all_taken_off free true (unsigned_abs divisor) 63 ++ turned free true (int_lt divisor (pos 0)))))
    (cond few (Binary (State free) Times (Number (factor divisor true))) (Binary (State (free + 3)) Plus (Number (pos 0)))) (quotient_value z divisor)
quotient_from present free begin e z divisor fits keeps is true f room =
    let few : unsigned_abs divisor < 2 = few_is (unsigned_abs divisor) f in
    (keeps, ap (λ v. int_wrapping_mul w64 v (factor divisor true)) (state_read present e free z is) ∙ small_quotient z divisor fits few)
quotient_from present free begin e z divisor fits keeps is false f h =
    let some : 1 < unsigned_abs divisor = some_is (unsigned_abs divisor) f in
    let size = unsigned_abs divisor in
    let x = unsigned_abs z / size in
    let lower = int_lt divisor (pos 0) in
    let all = all_taken_off free true size 63 in
    let room = room_of (length begin.states) free true lower all h in
    let d = all_off present free true begin e z divisor fits some keeps is room in
    let ends = turned_quotient present free begin _ z (lowered (unsigned_abs z % size)) (lowered x) lower room d in
    let less : x < 2 ^ 63 = less_left size (unsigned_abs z) some (size_fits z fits) in
    let value_is : cond (quotient_turned z divisor) (int_wrapping_sub w64 (pos 0) (lowered x)) (lowered x) ≡ quotient_value z divisor =
    ap (λ v. cond (quotient_turned z divisor) v (lowered x)) (turned_is x less) ∙ quotient_is z divisor fits some in
    let fits_value : FitsSigned w64 (quotient_value z divisor) = subst (λ v. FitsSigned w64 v) (quotient_is z divisor fits some) (either_fits (quotient_turned z divisor) x less) in
    let e3 = after_lines present (after_lines present (after_lines present e (begun free true)) all) (turned free true lower) in
    let ends_as : Ends free begin e3 (free + 3) (quotient_value z divisor) = subst (λ v. Ends free begin e3 (free + 3) v) value_is ends in
    let P : Effect → Type 0 = λ e. KeepsBelow free begin e × (expression_value e.states present (Binary (State (free + 3)) Plus (Number (pos 0))) ≡ quotient_value z divisor) in
    subst P (sym (three_parts present e (begun free true) all (turned free true lower))) (ends_give present free begin e3 (free + 3) (quotient_value z divisor) fits_value ends_as)

remainder_from : (present : ℕ → Option ℤ) (free : ℕ) (begin e : Effect) (z divisor : ℤ) → FitsSigned w64 divisor → FitsSigned w64 z → KeepsBelow free begin e → slice_get e.states free ≡ Some z →
    (few : Bool) → nat_lt (unsigned_abs divisor) 2 ≡ few →
    AssignBelow (length begin.states) (cond few [] (begun free false ++ (all_taken_off free false (unsigned_abs divisor) 63 ++ turned free false (int_lt divisor (pos 0))))) →
    Given present free begin e (cond few [] (begun free false ++ (all_taken_off free false (unsigned_abs divisor) 63 ++ turned free false (int_lt divisor (pos 0)))))
    (cond few (Binary (State free) Times (Number (factor divisor false))) (Binary (State (free + 1)) Plus (Number (pos 0)))) (remainder_value z divisor)
remainder_from present free begin e z divisor fits_divisor fits keeps is true f room =
    let few : unsigned_abs divisor < 2 = few_is (unsigned_abs divisor) f in
    (keeps, ap (λ v. int_wrapping_mul w64 v (factor divisor false)) (state_read present e free z is) ∙ small_remainder z divisor fits few)
remainder_from present free begin e z divisor fits_divisor fits keeps is false f h =
    let some : 1 < unsigned_abs divisor = some_is (unsigned_abs divisor) f in
    let size = unsigned_abs divisor in
    let r = unsigned_abs z % size in
    let lower = int_lt divisor (pos 0) in
    let all = all_taken_off free false size 63 in
    let room = room_of (length begin.states) free false lower all h in
    let d = all_off present free false begin e z divisor fits some keeps is room in
    let ends = turned_rest present free begin _ z (lowered r) (lowered (unsigned_abs z / size)) lower room d in
    let less : r < 2 ^ 63 = rest_fits z size some (size_fits divisor fits_divisor) in
    let value_is : cond (int_lt (pos 0) z) (int_wrapping_sub w64 (pos 0) (lowered r)) (lowered r) ≡ remainder_value z divisor =
    ap (λ v. cond (int_lt (pos 0) z) v (lowered r)) (turned_is r less) ∙ remainder_is z divisor some in
    let fits_value : FitsSigned w64 (remainder_value z divisor) = subst (λ v. FitsSigned w64 v) (remainder_is z divisor some) (either_fits (int_lt (pos 0) z) r less) in
    let e3 = after_lines present (after_lines present (after_lines present e (begun free false)) all) (turned free false lower) in
    let ends_as : Ends free begin e3 (free + 1) (remainder_value z divisor) = subst (λ v. Ends free begin e3 (free + 1) v) value_is ends in
    let P : Effect → Type 0 = λ e. KeepsBelow free begin e × (expression_value e.states present (Binary (State (free + 1)) Plus (Number (pos 0))) ≡ remainder_value z divisor) in
    subst P (sym (three_parts present e (begun free false) all (turned free false lower))) (ends_give present free begin e3 (free + 1) (remainder_value z divisor) fits_value ends_as)

-- behind the lines of the value
number_set : (present : ℕ → Option ℤ) (free : ℕ) (e : Effect) (w : Worked) (value : ℤ) → GivesIn present free e w value → free < length e.states →
    (KeepsBelow free e (with_state (after_lines present e w.lines) free (expression_value (after_lines present e w.lines).states present w.last)))
    × (slice_get (with_state (after_lines present e w.lines) free (expression_value (after_lines present e w.lines).states present w.last)).states free ≡ Some value)
number_set present free e w value gives room =
    let after = after_lines present e w.lines in
    let v = expression_value after.states present w.last in
    let there : free < length after.states = omega (arith, gives.law.keeps.count) in (
      keeps_trans free free e after (with_state after free v) (omega arith) gives.law.keeps (with_state_keeps free after free v (omega arith)),
      get_set_same after.states free v there ∙ ap Some gives.law.gives,
    )

behind_value : (present : ℕ → Option ℤ) (free : ℕ) (e : Effect) (w : Worked) (lines : List Line) →
    after_lines present e (w.lines ++ (assigned free w.last ∷ lines)) ≡ after_lines present (with_state (after_lines present e w.lines) free (expression_value (after_lines present e w.lines).states present w.last)) lines
behind_value present free e w lines = after_both present e w.lines (assigned free w.last ∷ lines)

pub quotient_gives : (present : ℕ → Option ℤ) (free : ℕ) (e : Effect) (w : Worked) (value divisor : ℤ) → FitsSigned w64 value → GivesIn present free e w value →
    AssignBelow (length e.states) (divided free true divisor w).lines → GivesIn present free e (divided free true divisor w) (quotient_value value divisor)
quotient_gives present free e w value divisor fits gives room =
    let lines = divided_lines free true divisor in
    let back = assign_back (length e.states) w.lines (assigned free w.last ∷ lines) room in
    let set = number_set present free e w value gives back.0 in
    let begin = with_state (after_lines present e w.lines) free (expression_value (after_lines present e w.lines).states present w.last) in
    let h = quotient_from present free e begin value divisor fits set.0 set.1 (nat_lt (unsigned_abs divisor) 2) refl back.1 in
    let P : Effect → Type 0 = λ e'. KeepsBelow free e e' × (expression_value e'.states present (divided_last free true divisor) ≡ quotient_value value divisor) in
    let g : P (after_lines present e (divided free true divisor w).lines) = subst P (sym (behind_value present free e w lines)) h in
    record { law = record { keeps = g.0; gives = g.1 }; low = last_low (nat_lt (unsigned_abs divisor) 2) }
  where
    last_low : (few : Bool) → IsLow free (cond few (Binary (State free) Times (Number (factor divisor true))) (Binary (State (free + 3)) Plus (Number (pos 0))))
    last_low true = tt
    last_low false = tt

pub remainder_gives : (present : ℕ → Option ℤ) (free : ℕ) (e : Effect) (w : Worked) (value divisor : ℤ) → FitsSigned w64 divisor → FitsSigned w64 value → GivesIn present free e w value →
    AssignBelow (length e.states) (divided free false divisor w).lines → GivesIn present free e (divided free false divisor w) (remainder_value value divisor)
remainder_gives present free e w value divisor fits_divisor fits gives room =
    let lines = divided_lines free false divisor in
    let back = assign_back (length e.states) w.lines (assigned free w.last ∷ lines) room in
    let set = number_set present free e w value gives back.0 in
    let begin = with_state (after_lines present e w.lines) free (expression_value (after_lines present e w.lines).states present w.last) in
    let h = remainder_from present free e begin value divisor fits_divisor fits set.0 set.1 (nat_lt (unsigned_abs divisor) 2) refl back.1 in
    let P : Effect → Type 0 = λ e'. KeepsBelow free e e' × (expression_value e'.states present (divided_last free false divisor) ≡ remainder_value value divisor) in
    let g : P (after_lines present e (divided free false divisor w).lines) = subst P (sym (behind_value present free e w lines)) h in
    record { law = record { keeps = g.0; gives = g.1 }; low = last_low (nat_lt (unsigned_abs divisor) 2) }
  where
    last_low : (few : Bool) → IsLow free (cond few (Binary (State free) Times (Number (factor divisor false))) (Binary (State (free + 1)) Plus (Number (pos 0))))
    last_low true = tt
    last_low false = tt
