-- The lines of a formula give its value.
use Rattle.std.proofs.Common.{◌≡◌, ℕ, ◌<◌, ℤ, pos, Bool, true, false, cond, lit<, List, [], ◌∷◌, ◌++◌, length, Option, Some, refl, sym, ap, ◌∙◌, subst, arith}
use Rattle.std.specs.Prelude.{◌+◌, ◌-◌, ◌*◌, ◌/◌, ◌%◌, nat_lt, slice_get, unsigned_abs, ◌^◌, not, int_lt, ◌&&◌, ◌||◌, FitsSigned}
use Rattle.std.specs.Int.{w64, cast_signed, cast_unsigned, int_wrap}
use Rattle.std.proofs.lemmas.Int.{SFits-int_wrap}
use Rattle.std.specs.Ordering.{int_eq}
use Rattle.std.specs.Option.{is_some}
use Rattle.network.specs.Network.{Effect}
use Rattle.reactor_program.specs.declared.program.Operand.{Operand}
use Rattle.reactor_program.specs.declared.program.Operand.TheVariants.{Number, State, Value, Presence}
use Rattle.std.proofs.lemmas.List.{length-set}
use Rattle.reactor.specs.Effect.{truth_value, operand_value, expression_value}
use Rattle.expand_expressions.specs.declared.formula.Combination.{Combination}
use Rattle.expand_expressions.specs.declared.formula.Combination.TheVariants.{Sum, Difference, Product, Least, Greatest, IsLess, IsAtMost, IsGreater, IsAtLeast, IsEqual, IsDifferent, Both, Either}
use Rattle.expand_expressions.specs.declared.formula.Formula.{Formula}
use Rattle.expand_expressions.specs.declared.formula.Formula.TheVariants.{Leaf, Negative', Not', Combined', Quotient', Remainder'}
use Rattle.expand_expressions.specs.Meaning.{is_true, combination_value, quotient_value, remainder_value, value_of, gives_truth, is_presence, is_truth, IsBelow, IsWithin, AreWithin}
use Rattle.expand_expressions.specs.Division.{assigned, assigned_where, factor, divided_lines}
use Rattle.expand_expressions.specs.Working.{Worked, Kept, keeping_lines, negated, sided, worked_out}
use Rattle.expand_expressions.specs.Laws.{AssignBelow, KeepsBelow, after_lines, Gives, Sets, setting_lines, guarded_lines, Guards}
use Rattle.expand_expressions.proofs.Keeping.{get_set_same, get_set_other, with_state, keeps_refl, keeps_trans, operand_kept, value_kept, formula_below, assign_front, assign_back, after_both}
use Rattle.expand_expressions.proofs.DividedStates.{where_line}
use Rattle.expand_expressions.proofs.DividedNumbers.{few_is, some_is, size_fits, rest_fits, either_fits, less_left, quotient_turned, quotient_is, remainder_is, small_quotient, small_remainder}
use Rattle.expand_expressions.proofs.Divided.{quotient_gives, remainder_gives}
use Rattle.expand_expressions.proofs.Parts.{GivesIn, Holds, Reads, side_value, truth_again, not_not, negated_gives, subtracted_gives, sided_holds, sided_front, combined_front, combined_gives}

combination_truth : (c : Combination) (x y : ℤ) → gives_truth c ≡ true → truth_value (is_true (combination_value c x y)) ≡ combination_value c x y
combination_truth Sum x y is = absurd cc
combination_truth Difference x y is = absurd cc
combination_truth Product x y is = absurd cc
combination_truth Least x y is = absurd cc
combination_truth Greatest x y is = absurd cc
combination_truth IsLess x y is = truth_again (int_lt x y)
combination_truth IsAtMost x y is = truth_again (not (int_lt y x))
combination_truth IsGreater x y is = truth_again (int_lt y x)
combination_truth IsAtLeast x y is = truth_again (not (int_lt x y))
combination_truth IsEqual x y is = truth_again (int_eq x y)
combination_truth IsDifferent x y is = truth_again (not (int_eq x y))
combination_truth Both x y is = truth_again (is_true x && is_true y)
combination_truth Either x y is = truth_again (is_true x || is_true y)

leaf_truth : (a : Operand) (states : List ℤ) (present : ℕ → Option ℤ) → is_presence a ≡ true → truth_value (is_true (operand_value states present a)) ≡ operand_value states present a
leaf_truth (Number n) states present is = absurd cc
leaf_truth (State k) states present is = absurd cc
leaf_truth (Value slot) states present is = absurd cc
leaf_truth (Presence slot) states present is = truth_again (is_some (present slot))

pub formula_truth : (formula : Formula) (states : List ℤ) (present : ℕ → Option ℤ) → is_truth formula ≡ true → truth_value (is_true (value_of states present formula)) ≡ value_of states present formula
formula_truth (Leaf a) states present is = leaf_truth a states present is
formula_truth (Negative' p x) states present is = absurd cc
formula_truth (Not' p x) states present is = truth_again (not (is_true (value_of states present x)))
formula_truth (Combined' p x c q y) states present is = combination_truth c (value_of states present x) (value_of states present y) is
formula_truth (Quotient' p x d) states present is = absurd cc
formula_truth (Remainder' p x d) states present is = absurd cc

-- what is divided has 64 bits, and so has what it is divided by
abbrev pub Dividends : List ℤ → (ℕ → Option ℤ) → Formula → Type 0
Dividends states present (Leaf a) = Unit {0}
Dividends states present (Negative' p x) = Dividends states present x
Dividends states present (Not' p x) = Dividends states present x
Dividends states present (Combined' p x c q y) = Dividends states present x × Dividends states present y
Dividends states present (Quotient' p x d) = Dividends states present x × FitsSigned w64 (value_of states present x) × FitsSigned w64 d
Dividends states present (Remainder' p x d) = Dividends states present x × FitsSigned w64 (value_of states present x) × FitsSigned w64 d

pub dividends_kept : (formula : Formula) (free : ℕ) (a b : Effect) (present : ℕ → Option ℤ) → IsBelow free formula → KeepsBelow free a b → Dividends a.states present formula → Dividends b.states present formula
dividends_kept (Leaf o) free a b present below keeps fits = tt
dividends_kept (Negative' p x) free a b present below keeps fits = dividends_kept x free a b present below keeps fits
dividends_kept (Not' p x) free a b present below keeps fits = dividends_kept x free a b present below keeps fits
dividends_kept (Combined' p x c q y) free a b present below keeps fits = (dividends_kept x free a b present below.0 keeps fits.0, dividends_kept y free a b present below.1 keeps fits.1)
dividends_kept (Quotient' p x d) free a b present below keeps fits =
    (dividends_kept x free a b present below keeps fits.0, subst (λ v. FitsSigned w64 v) (sym (value_kept x free a b present below keeps)) fits.1, fits.2)
dividends_kept (Remainder' p x d) free a b present below keeps fits =
    (dividends_kept x free a b present below keeps fits.0, subst (λ v. FitsSigned w64 v) (sym (value_kept x free a b present below keeps)) fits.1, fits.2)

-- two sides, one after the other
sides_read : (present : ℕ → Option ℤ) (free : ℕ) (e : Effect) (left right : Kept) (x y : ℤ) → Holds present free e left x →
    Holds present left.free (after_lines present e left.lines) right y → Reads present free e (left.lines ++ right.lines) left.operand right.operand x y
sides_read present free e left right x y hx hy =
    let first = after_lines present e left.lines in
    let second = after_lines present first right.lines in
    let same : after_lines present e (left.lines ++ right.lines) ≡ second = after_both present e left.lines right.lines in
    record {
      keeps = subst (λ after. KeepsBelow free e after) (sym same) (keeps_trans free left.free e first second hx.grows hx.keeps hy.keeps);
      left = ap (λ (after : Effect). operand_value after.states present left.operand) same ∙ operand_kept left.free first second present left.operand hx.low hy.keeps ∙ hx.reads;
      right = ap (λ (after : Effect). operand_value after.states present right.operand) same ∙ hy.reads;
    }

pub formula_gives : (formula : Formula) (present : ℕ → Option ℤ) (free : ℕ) (e : Effect) → IsBelow free formula → Dividends e.states present formula →
    AssignBelow (length e.states) (worked_out free formula).lines → GivesIn present free e (worked_out free formula) (value_of e.states present formula)
formula_gives (Leaf a) present free e below fits room = record { law = record { keeps = keeps_refl free e; gives = refl }; low = below }
formula_gives (Negative' p x) present free e below fits room =
    let w = worked_out free x in
    subtracted_gives present free e w (value_of e.states present x) (formula_gives x present free e below fits (assign_front (length e.states) w.lines (keeping_lines free w.last) room)) room
formula_gives (Not' p x) present free e below fits room =
    let w = worked_out free x in
    let value = value_of e.states present x in
    let h = negated_gives present free e w value (formula_gives x present free e below fits (assign_front (length e.states) w.lines (keeping_lines free w.last) room)) room in
    subst (λ v. GivesIn present free e (negated free w) v) (ap truth_value (sym (not_not (int_eq value (pos 0))))) h
formula_gives (Combined' p x c q y) present free e below fits room =
    let n = length e.states in
    let wx = worked_out free x in
    let left = sided free c (is_truth x) wx in
    let wy = worked_out left.free y in
    let right = sided left.free c (is_truth y) wy in
    let lines = left.lines ++ right.lines in
    let vx = value_of e.states present x in
    let vy = value_of e.states present y in
    let room_both : AssignBelow n lines = combined_front n free lines left.operand c right.operand room in
    let room_left : AssignBelow n left.lines = assign_front n left.lines right.lines room_both in
    let hx = formula_gives x present free e below.0 fits.0 (sided_front n free c (is_truth x) wx room_left) in
    let holds_left = sided_holds present free e c (is_truth x) wx vx (formula_truth x e.states present) hx room_left in
    let first = after_lines present e left.lines in
    let same : vy ≡ value_of first.states present y = sym (value_kept y free e first present below.1 holds_left.keeps) in
    let room_right : AssignBelow (length first.states) right.lines =
    subst (λ n. AssignBelow n right.lines) (sym holds_left.keeps.count) (assign_back n left.lines right.lines room_both) in
    let hy = formula_gives y present left.free first (formula_below y free left.free holds_left.grows below.1) (dividends_kept y free e first present below.1 holds_left.keeps fits.1) (sided_front (length first.states) left.free c (is_truth y) wy room_right) in
    let holds_right = sided_holds present left.free first c (is_truth y) wy (value_of first.states present y) (formula_truth y first.states present) hy room_right in
    let holds_same : Holds present left.free first right (side_value c vy) = subst (λ v. Holds present left.free first right (side_value c v)) (sym same) holds_right in
    combined_gives present free e lines left.operand c right.operand vx vy (sides_read present free e left right (side_value c vx) (side_value c vy) holds_left holds_same) room
formula_gives (Quotient' p x d) present free e below fits room =
    let w = worked_out free x in
    let h = formula_gives x present free e below fits.0 (assign_front (length e.states) w.lines (assigned free w.last ∷ divided_lines free true d) room) in
    quotient_gives present free e w (value_of e.states present x) d fits.1 h room
formula_gives (Remainder' p x d) present free e below fits room =
    let w = worked_out free x in
    let h = formula_gives x present free e below fits.0 (assign_front (length e.states) w.lines (assigned free w.last ∷ divided_lines free false d) room) in
    remainder_gives present free e w (value_of e.states present x) d fits.2 fits.1 h room

-- where all that is read has 64 bits, so has every value
wrapped_fits : (n : ℕ) → FitsSigned w64 (cast_signed w64 (n % 2 ^ 64))
unfolding int_wrap
wrapped_fits n = SFits-int_wrap w64 (pos n)

truth_fits : (b : Bool) → FitsSigned w64 (truth_value b)
truth_fits true = record { sfits = lit< tt }
truth_fits false = record { sfits = lit< tt }

chosen_fits : (b : Bool) (x y : ℤ) → FitsSigned w64 x → FitsSigned w64 y → FitsSigned w64 (cond b x y)
chosen_fits true x y fx fy = fx
chosen_fits false x y fx fy = fy

combination_fits : (c : Combination) (x y : ℤ) → FitsSigned w64 x → FitsSigned w64 y → FitsSigned w64 (combination_value c x y)
combination_fits Sum x y fx fy = wrapped_fits (cast_unsigned w64 x + cast_unsigned w64 y)
combination_fits Difference x y fx fy = wrapped_fits (cast_unsigned w64 x + (2 ^ 64 - cast_unsigned w64 y))
combination_fits Product x y fx fy = wrapped_fits (cast_unsigned w64 x * cast_unsigned w64 y)
combination_fits Least x y fx fy = chosen_fits (int_lt y x) y x fy fx
combination_fits Greatest x y fx fy = chosen_fits (int_lt y x) x y fx fy
combination_fits IsLess x y fx fy = truth_fits (int_lt x y)
combination_fits IsAtMost x y fx fy = truth_fits (not (int_lt y x))
combination_fits IsGreater x y fx fy = truth_fits (int_lt y x)
combination_fits IsAtLeast x y fx fy = truth_fits (not (int_lt x y))
combination_fits IsEqual x y fx fy = truth_fits (int_eq x y)
combination_fits IsDifferent x y fx fy = truth_fits (not (int_eq x y))
combination_fits Both x y fx fy = truth_fits (is_true x && is_true y)
combination_fits Either x y fx fy = truth_fits (is_true x || is_true y)

none_fits : FitsSigned w64 (pos 0)
none_fits = record { sfits = lit< tt }

quotient_fits : (z d : ℤ) → FitsSigned w64 z → FitsSigned w64 d → FitsSigned w64 (quotient_value z d)
quotient_fits z d fz fd = by_size (nat_lt (unsigned_abs d) 2) refl
  where
    by_size : (few : Bool) → nat_lt (unsigned_abs d) 2 ≡ few → FitsSigned w64 (quotient_value z d)
    by_size true f =
        subst (λ v. FitsSigned w64 v) (small_quotient z d fz (few_is (unsigned_abs d) f)) (wrapped_fits (cast_unsigned w64 z * cast_unsigned w64 (factor d true)))
    by_size false f =
        let some = some_is (unsigned_abs d) f in
        let less = less_left (unsigned_abs d) (unsigned_abs z) some (size_fits z fz) in
        subst (λ v. FitsSigned w64 v) (quotient_is z d fz some) (either_fits (quotient_turned z d) (unsigned_abs z / unsigned_abs d) less)

remainder_fits : (z d : ℤ) → FitsSigned w64 z → FitsSigned w64 d → FitsSigned w64 (remainder_value z d)
remainder_fits z d fz fd = by_size (nat_lt (unsigned_abs d) 2) refl
  where
    by_size : (few : Bool) → nat_lt (unsigned_abs d) 2 ≡ few → FitsSigned w64 (remainder_value z d)
    by_size true f =
        subst (λ v. FitsSigned w64 v) (small_remainder z d fz (few_is (unsigned_abs d) f)) (wrapped_fits (cast_unsigned w64 z * cast_unsigned w64 (factor d false)))
    by_size false f =
        let some = some_is (unsigned_abs d) f in
        let less = rest_fits z (unsigned_abs d) some (size_fits d fd) in
        subst (λ v. FitsSigned w64 v) (remainder_is z d some) (either_fits (int_lt (pos 0) z) (unsigned_abs z % unsigned_abs d) less)

pub value_fits : (formula : Formula) (states : List ℤ) (present : ℕ → Option ℤ) → AreWithin states present → IsWithin formula → FitsSigned w64 (value_of states present formula)
value_fits (Leaf a) states present all within = all a within
value_fits (Negative' p x) states present all within = wrapped_fits (cast_unsigned w64 (pos 0) + (2 ^ 64 - cast_unsigned w64 (value_of states present x)))
value_fits (Not' p x) states present all within = truth_fits (not (is_true (value_of states present x)))
value_fits (Combined' p x c q y) states present all within = combination_fits c _ _ (value_fits x states present all within.0) (value_fits y states present all within.1)
value_fits (Quotient' p x d) states present all within = quotient_fits _ d (value_fits x states present all within.0) within.1
value_fits (Remainder' p x d) states present all within = remainder_fits _ d (value_fits x states present all within.0) within.1

pub dividends_fit : (formula : Formula) (states : List ℤ) (present : ℕ → Option ℤ) → AreWithin states present → IsWithin formula → Dividends states present formula
dividends_fit (Leaf a) states present all within = tt
dividends_fit (Negative' p x) states present all within = dividends_fit x states present all within
dividends_fit (Not' p x) states present all within = dividends_fit x states present all within
dividends_fit (Combined' p x c q y) states present all within = (dividends_fit x states present all within.0, dividends_fit y states present all within.1)
dividends_fit (Quotient' p x d) states present all within = (dividends_fit x states present all within.0, value_fits x states present all within.0, within.1)
dividends_fit (Remainder' p x d) states present all within = (dividends_fit x states present all within.0, value_fits x states present all within.0, within.1)

-- the last operator's value goes into a state
value_set : (present : ℕ → Option ℤ) (free target : ℕ) (e : Effect) (w : Worked) (value : ℤ) → Gives present free e w value → target < length e.states →
    Sets free target e (with_state (after_lines present e w.lines) target (expression_value (after_lines present e w.lines).states present w.last)) value
value_set present free target e w value law there =
    let after = after_lines present e w.lines in
    let x = expression_value after.states present w.last in
    let here : target < length after.states = omega (arith, law.keeps.count, there) in
    record {
      value_is = get_set_same after.states target x here ∙ ap Some law.gives;
      others = λ k within other. get_set_other after.states target k x other ∙ law.keeps.states k within;
      count = length-set after.states target x ∙ law.keeps.count;
      outputs = law.keeps.outputs;
      schedulings = law.keeps.schedulings;
    }

pub formula_sets : (formula : Formula) (present : ℕ → Option ℤ) (free target : ℕ) (e : Effect) → IsBelow free formula → Dividends e.states present formula →
    AssignBelow (length e.states) (worked_out free formula).lines → target < length e.states → Sets free target e (after_lines present e (setting_lines free target formula)) (value_of e.states present formula)
formula_sets formula present free target e below fits room there =
    let w = worked_out free formula in
    let value = value_of e.states present formula in
    subst (λ after. Sets free target e after value) (sym (after_both present e w.lines (assigned target w.last ∷ [])))
    (value_set present free target e w value (formula_gives formula present free e below fits room).law there)

-- the same, where a guard says so
guarded_by : (present : ℕ → Option ℤ) (free guard target : ℕ) (e : Effect) (w : Worked) (value : ℤ) (b : Bool) → Gives present free e w value → target < length e.states →
    Guards free target b e (cond b (with_state (after_lines present e w.lines) target (expression_value (after_lines present e w.lines).states present w.last)) (after_lines present e w.lines)) value
guarded_by present free guard target e w value true law there = value_set present free target e w value law there
guarded_by present free guard target e w value false law there = law.keeps

pub formula_guarded : (formula : Formula) (present : ℕ → Option ℤ) (free guard target : ℕ) (e : Effect) (b : Bool) → IsBelow free formula → Dividends e.states present formula →
    AssignBelow (length e.states) (worked_out free formula).lines → target < length e.states → guard < free → slice_get e.states guard ≡ Some (truth_value b) →
    Guards free target b e (after_lines present e (guarded_lines free guard target formula)) (value_of e.states present formula)
formula_guarded formula present free guard target e b below fits room there within is =
    let w = worked_out free formula in
    let value = value_of e.states present formula in
    let law = (formula_gives formula present free e below fits room).law in
    let after = after_lines present e w.lines in
    let kept : slice_get after.states guard ≡ Some (truth_value b) = law.keeps.states guard within ∙ is in
    let line = where_line present after guard target w.last b kept in
    subst (λ after. Guards free target b e after value) (sym (after_both present e w.lines (assigned_where guard target w.last ∷ []) ∙ line))
    (guarded_by present free guard target e w value b law there)
