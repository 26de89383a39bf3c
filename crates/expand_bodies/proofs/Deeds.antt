-- What the lines of a single statement, of a condition and of a guard do.
use Rattle.std.proofs.Common.{◌≡◌, ℕ, ◌+◌, ◌<◌, ◌≤◌, ◌%◌, ◌^◌, ℤ, pos, Bool, true, false, cond, ◌&&◌, List, [], ◌∷◌, length, Option, None, Some, refl, sym, ap, ◌∙◌, subst, arith}
use Rattle.std.specs.Prelude.{slice_get}
use Rattle.std.specs.Int.{w64, cast_signed, cast_unsigned, int_wrapping_sub, int_wrapping_mul}
use Rattle.std.proofs.Math.Nat.{mul-zero}
use Rattle.network.specs.Network.{Effect}
use Rattle.reactor_program.specs.declared.program.Operand.{Operand}
use Rattle.reactor_program.specs.declared.program.Operand.TheVariants.{State}
use Rattle.reactor_program.specs.declared.program.Statement.TheVariants.{Assign, Output, Schedule}
use Rattle.reactor_program.specs.declared.program.Line.{Line}
use Rattle.reactor.specs.Effect.{truth_value, operand_value, expression_value}
use Rattle.expand_expressions.specs.declared.formula.Formula.{Formula}
use Rattle.expand_expressions.specs.Meaning.{is_true, value_of, is_truth, AreWithin, IsReadable}
use Rattle.expand_expressions.specs.Division.{assigned}
use Rattle.expand_expressions.specs.Working.{Worked, keeping_lines, kept_operand, kept, worked_out}
use Rattle.expand_expressions.specs.Laws.{AssignBelow, KeepsBelow, after_lines}
use Rattle.expand_expressions.proofs.Keeping.{get_set_same, with_state_keeps, keeps_trans, formula_below, value_kept, assign_front, assign_back, after_both}
use Rattle.expand_expressions.proofs.DividedStates.{state_read}
use Rattle.expand_expressions.proofs.Parts.{GivesIn, Holds, kept_holds, truth_gives, truth_front}
use Rattle.expand_expressions.proofs.FormulaLines.{Dividends, dividends_kept, dividends_fit, formula_truth, formula_gives}
use Rattle.expand_bodies.specs.declared.block.Target.{Target}
use Rattle.expand_bodies.specs.declared.block.Target.TheVariants.{ToState, ToOutput, ToAction}
use Rattle.expand_bodies.specs.Body.{with_value, after_deed}
use Rattle.expand_bodies.specs.Lines.{line, deed_lines, guard_of, truth_of, within, asked, branched, stored_lines, around_operand, turned_guard}
use Rattle.expand_bodies.proofs.Assigned.{AssignFrom, assign_keeps, both_from, kept_from, truth_from, worked_from}
use Rattle.expand_bodies.proofs.Related.{IsMet, IsConditionBelow, next_related, chosen_related, line_met, met_kept, set_below}
use Rattle.expand_bodies.proofs.GuardTruths.{times}

-- a formula that reads no free state has the value that it had before lines of free states alone
pub formula_at : (present : ℕ → Option ℤ) (free next : ℕ) (old e : Effect) (f : Formula) → free ≤ next → IsReadable free f → AreWithin old.states present → KeepsBelow free old e →
    AssignBelow (length e.states) (worked_out next f).lines → GivesIn present next e (worked_out next f) (value_of old.states present f)
formula_at present free next old e f above readable all keeps room =
    let fits : Dividends e.states present f = dividends_kept f free old e present readable.0 keeps (dividends_fit f old.states present all readable.1) in
    subst (λ v. GivesIn present next e (worked_out next f) v) (value_kept f free old e present readable.0 keeps)
    (formula_gives f present next e (formula_below f free next above readable.0) fits room)

-- a value goes where it is to go
pub deed_done : (present : ℕ → Option ℤ) (free next : ℕ) (old e : Effect) (condition : Option Operand) (target : Target) (w : Worked) (v : ℤ) (b : Bool) → free ≤ next → KeepsBelow free old e →
    GivesIn present next e w v → AssignBelow (length e.states) (deed_lines next condition target w) → IsConditionBelow next condition → IsMet present e condition b →
    KeepsBelow free (cond b (after_deed old target v) old) (after_lines present e (deed_lines next condition target w))
deed_done present free next old e condition (ToState k) w v b above h gives room low met =
    let after = after_lines present e w.lines in
    let x = expression_value after.states present w.last in
    let met' = met_kept present next e after condition b low gives.law.keeps met in
    let ends = after_both present e w.lines (line condition (Assign k w.last) ∷ []) ∙ line_met present after condition (Assign k w.last) b met' in
    let same : KeepsBelow free old after = keeps_trans free next old e after above h gives.law.keeps in
    subst (λ f. KeepsBelow free (cond b (after_deed old (ToState k) v) old) f) (sym ends) (chosen_related b free old after (ToState k) v x same gives.law.gives)
deed_done present free next old e condition (ToOutput port) w v b above h gives room low met =
    let k = kept next w in
    let holds = kept_holds present next e w.lines w.last v gives (assign_front (length e.states) k.lines (line condition (Output port k.operand) ∷ []) room) in
    let after = after_lines present e k.lines in
    let x = operand_value after.states present k.operand in
    let met' = met_kept present next e after condition b low holds.keeps met in
    let ends = after_both present e k.lines (line condition (Output port k.operand) ∷ []) ∙ line_met present after condition (Output port k.operand) b met' in
    let same : KeepsBelow free old after = keeps_trans free next old e after above h holds.keeps in
    subst (λ f. KeepsBelow free (cond b (after_deed old (ToOutput port) v) old) f) (sym ends) (chosen_related b free old after (ToOutput port) v x same holds.reads)
deed_done present free next old e condition (ToAction slot delay) w v b above h gives room low met =
    let k = kept next w in
    let holds = kept_holds present next e w.lines w.last v gives (assign_front (length e.states) k.lines (line condition (Schedule slot delay k.operand) ∷ []) room) in
    let after = after_lines present e k.lines in
    let x = operand_value after.states present k.operand in
    let met' = met_kept present next e after condition b low holds.keeps met in
    let ends = after_both present e k.lines (line condition (Schedule slot delay k.operand) ∷ []) ∙ line_met present after condition (Schedule slot delay k.operand) b met' in
    let same : KeepsBelow free old after = keeps_trans free next old e after above h holds.keeps in
    subst (λ f. KeepsBelow free (cond b (after_deed old (ToAction slot delay) v) old) f) (sym ends) (chosen_related b free old after (ToAction slot delay) v x same holds.reads)

-- where the condition is 0, none but free states change, whatever the values are
pub deed_skipped : (present : ℕ → Option ℤ) (next : ℕ) (e : Effect) (condition : Option Operand) (target : Target) (w : Worked) → AssignFrom next w.lines → IsConditionBelow next condition →
    IsMet present e condition false → KeepsBelow next e (after_lines present e (deed_lines next condition target w))
deed_skipped present next e condition (ToState k) w above low met =
    let after = after_lines present e w.lines in
    let keeps = assign_keeps present next w.lines e above in
    let ends = after_both present e w.lines (line condition (Assign k w.last) ∷ []) ∙ line_met present after condition (Assign k w.last) false (met_kept present next e after condition false low keeps met) in
    subst (λ f. KeepsBelow next e f) (sym ends) keeps
deed_skipped present next e condition (ToOutput port) w above low met =
    let k = kept next w in
    let after = after_lines present e k.lines in
    let keeps = assign_keeps present next k.lines e (kept_from next w above) in
    let ends = after_both present e k.lines (line condition (Output port k.operand) ∷ []) ∙ line_met present after condition (Output port k.operand) false (met_kept present next e after condition false low keeps met) in
    subst (λ f. KeepsBelow next e f) (sym ends) keeps
deed_skipped present next e condition (ToAction slot delay) w above low met =
    let k = kept next w in
    let after = after_lines present e k.lines in
    let keeps = assign_keeps present next k.lines e (kept_from next w above) in
    let ends = after_both present e k.lines (line condition (Schedule slot delay k.operand) ∷ []) ∙ line_met present after condition (Schedule slot delay k.operand) false (met_kept present next e after condition false low keeps met) in
    subst (λ f. KeepsBelow next e f) (sym ends) keeps

-- a truth within a branch
and_true : (b : Bool) → (b && true) ≡ b
and_true true = refl
and_true false = refl

truth_is : (b : Bool) → is_true (truth_value b) ≡ b
truth_is true = refl
truth_is false = refl

times_none : (v : ℤ) → int_wrapping_mul w64 v (pos 0) ≡ pos 0
times_none v = ap (λ n. cast_signed w64 (n % 2 ^ 64)) (mul-zero (cast_unsigned w64 v))

within_runs : (present : ℕ → Option ℤ) (free guard : ℕ) (e : Effect) (w : Worked) (t : Bool) → GivesIn present free e w (truth_value t) → guard < free → slice_get e.states guard ≡ Some (pos 1) →
    AssignBelow (length e.states) (within free guard w).lines → GivesIn present free e (within free guard w) (truth_value t)
within_runs present free guard e w t gives below is room =
    let holds = kept_holds present free e w.lines w.last (truth_value t) gives room in
    let after = after_lines present e (kept free w).lines in
    let guard_is : slice_get after.states guard ≡ Some (pos 1) = holds.keeps.states guard below ∙ is in
    record {
      law = record {
        keeps = holds.keeps;
        gives =
            ap (λ v. int_wrapping_mul w64 v (operand_value after.states present (State guard))) holds.reads
            ∙ ap (λ v. int_wrapping_mul w64 (truth_value t) v) (state_read present after guard (pos 1) guard_is)
            ∙ times t true ∙ ap truth_value (and_true t);
      };
      low = tt;
    }

within_skips : (present : ℕ → Option ℤ) (free guard : ℕ) (e : Effect) (w : Worked) → AssignFrom free w.lines → guard < free → slice_get e.states guard ≡ Some (pos 0) →
    expression_value (after_lines present e (within free guard w).lines).states present (within free guard w).last ≡ pos 0
within_skips present free guard e w above below is =
    let after = after_lines present e (kept free w).lines in
    let keeps = assign_keeps present free (kept free w).lines e (kept_from free w above) in
    let v = operand_value after.states present (kept_operand free w.last) in
    let guard_is : slice_get after.states guard ≡ Some (pos 0) = keeps.states guard below ∙ is in
    ap (λ x. int_wrapping_mul w64 v x) (state_read present after guard (pos 0) guard_is) ∙ times_none v

-- the branch around: none, or one whose guard is 1
abbrev pub IsRunning : ℕ → ℕ → Option ℕ → Effect → Type 0
IsRunning own free None e = Unit {0}
IsRunning own free (Some guard) e = (own ≤ guard) × (guard < free) × (slice_get e.states guard ≡ Some (pos 1))

truth_at : (present : ℕ → Option ℤ) (free : ℕ) (old e : Effect) (c : Formula) → IsReadable free c → AreWithin old.states present → KeepsBelow free old e →
    AssignBelow (length e.states) (truth_of free c).lines → GivesIn present free e (truth_of free c) (truth_value (is_true (value_of old.states present c)))
truth_at present free old e c readable all keeps room =
    let above : free ≤ free = omega arith in
    let front = truth_front (length e.states) free (is_truth c) (worked_out free c) room in
    truth_gives present free e (worked_out free c) (value_of old.states present c) (is_truth c) (formula_truth c old.states present)
    (formula_at present free free old e c above readable all keeps front) room

-- the guard of a branch is set where it runs
pub branched_runs : (present : ℕ → Option ℤ) (own free : ℕ) (around : Option ℕ) (old e : Effect) (c : Formula) → IsReadable free c → AreWithin old.states present → KeepsBelow free old e →
    IsRunning own free around old → AssignBelow (length e.states) (branched free around c).lines → GivesIn present free e (branched free around c) (truth_value (is_true (value_of old.states present c)))
branched_runs present own free None old e c readable all keeps running room = truth_at present free old e c readable all keeps room
branched_runs present own free (Some guard) old e c readable all keeps running room =
    let w = truth_of free c in
    let t = is_true (value_of old.states present c) in
    let truth = truth_at present free old e c readable all keeps (assign_front (length e.states) w.lines (keeping_lines free w.last) room) in
    let guard_is : slice_get e.states guard ≡ Some (pos 1) = keeps.states guard running.1 ∙ running.2 in
    within_runs present free guard e w t truth running.1 guard_is room

-- the condition of a single statement can be read behind its lines
pub record Asks (present : ℕ → Option ℤ) (own free : ℕ) (around : Option ℕ) (e : Effect) (c : Formula) (b : Bool) : Type 0 where
  pub value : ℤ
  pub is : is_true value ≡ b
  pub holds : Holds present free e (kept free (asked free around c)) value

pub asked_runs : (present : ℕ → Option ℤ) (own free : ℕ) (around : Option ℕ) (old e : Effect) (c : Formula) → IsReadable free c → AreWithin old.states present → KeepsBelow free old e →
    IsRunning own free around old → AssignBelow (length e.states) (kept free (asked free around c)).lines → Asks present own free around e c (is_true (value_of old.states present c))
asked_runs present own free None old e c readable all keeps running room =
    let above : free ≤ free = omega arith in
    let w = worked_out free c in
    let v = value_of old.states present c in
    let gives = formula_at present free free old e c above readable all keeps (assign_front (length e.states) w.lines (keeping_lines free w.last) room) in
    record { value = v; is = refl; holds = kept_holds present free e w.lines w.last v gives room }
asked_runs present own free (Some guard) old e c readable all keeps running room =
    let w = asked free (Some guard) c in
    let t = is_true (value_of old.states present c) in
    let gives = branched_runs present own free (Some guard) old e c readable all keeps running (assign_front (length e.states) w.lines (keeping_lines free w.last) room) in
    record { value = truth_value t; is = truth_is t; holds = kept_holds present free e w.lines w.last (truth_value t) gives room }

-- a value goes to the first free state
stored_after : (present : ℕ → Option ℤ) (free : ℕ) (e : Effect) (w : Worked) →
    after_lines present e (stored_lines free w) ≡ with_value (after_lines present e w.lines) free (expression_value (after_lines present e w.lines).states present w.last)
stored_after present free e w = after_both present e w.lines (assigned free w.last ∷ [])

pub stored_room : (n free : ℕ) (w : Worked) → AssignBelow n (stored_lines free w) → free < n
stored_room n free w room = (assign_back n w.lines (assigned free w.last ∷ []) room).0

pub stored_related : (present : ℕ → Option ℤ) (free : ℕ) (old e : Effect) (w : Worked) (v : ℤ) → KeepsBelow free old e → GivesIn present free e w v → free < length e.states →
    KeepsBelow (free + 1) (with_value old free v) (after_lines present e (stored_lines free w))
stored_related present free old e w v h gives there =
    let after = after_lines present e w.lines in
    let x = expression_value after.states present w.last in
    let above : free ≤ free = omega arith in
    let same : KeepsBelow free old after = keeps_trans free free old e after above h gives.law.keeps in
    let here : free < length after.states = omega (arith, gives.law.keeps.count, there) in
    subst (λ f. KeepsBelow (free + 1) (with_value old free v) f) (sym (stored_after present free e w)) (next_related free old after v x same gives.law.gives here)

pub stored_is : (present : ℕ → Option ℤ) (free : ℕ) (e : Effect) (w : Worked) (v : ℤ) → AssignFrom free w.lines → expression_value (after_lines present e w.lines).states present w.last ≡ v →
    free < length e.states → slice_get (after_lines present e (stored_lines free w)).states free ≡ Some v
stored_is present free e w v above is there =
    let after = after_lines present e w.lines in
    let keeps = assign_keeps present free w.lines e above in
    let here : free < length after.states = omega (arith, keeps.count, there) in
    let x = expression_value after.states present w.last in
    ap (λ (f : Effect). slice_get f.states free) (stored_after present free e w) ∙ get_set_same after.states free x here ∙ ap Some is

pub stored_from : (free : ℕ) (w : Worked) → AssignFrom free w.lines → AssignFrom free (stored_lines free w)
stored_from free w above = both_from free w.lines (assigned free w.last ∷ []) above (omega arith, tt)

pub branched_from : (free : ℕ) (around : Option ℕ) (c : Formula) → AssignFrom free (branched free around c).lines
branched_from free None c = truth_from free (is_truth c) (worked_out free c) (worked_from c free)
branched_from free (Some guard) c = kept_from free (truth_of free c) (truth_from free (is_truth c) (worked_out free c) (worked_from c free))

pub guard_skips : (present : ℕ → Option ℤ) (free guard : ℕ) (e : Effect) (c : Formula) → guard < free → slice_get e.states guard ≡ Some (pos 0) → free < length e.states →
    slice_get (after_lines present e (stored_lines free (branched free (Some guard) c))).states free ≡ Some (pos 0)
guard_skips present free guard e c below is there =
    let w = truth_of free c in
    let above = truth_from free (is_truth c) (worked_out free c) (worked_from c free) in
    stored_is present free e (branched free (Some guard) c) (pos 0) (branched_from free (Some guard) c) (within_skips present free guard e w above below is) there

-- from the guard of a branch to that of the other one
pub record Turns (free : ℕ) (e after : Effect) (v : ℤ) : Type 0 where
  pub keeps : KeepsBelow free e after
  pub is : slice_get after.states free ≡ Some v

pub guard_turned : (present : ℕ → Option ℤ) (free : ℕ) (around : Option ℕ) (e : Effect) (x y : ℤ) → operand_value e.states present (around_operand around) ≡ x → slice_get e.states free ≡ Some y →
    free < length e.states → Turns free e (after_lines present e (turned_guard free around ∷ [])) (int_wrapping_sub w64 x y)
guard_turned present free around e x y x_is y_is there =
    let v = int_wrapping_sub w64 (operand_value e.states present (around_operand around)) (operand_value e.states present (State free)) in
    let v_is : v ≡ int_wrapping_sub w64 x y = ap (λ x. int_wrapping_sub w64 x (operand_value e.states present (State free))) x_is ∙ ap (λ y. int_wrapping_sub w64 x y) (state_read present e free y y_is) in
    let above : free ≤ free = omega arith in
    record { keeps = with_state_keeps free e free v above; is = get_set_same e.states free v there ∙ ap Some v_is }

-- what is around is 1 where it runs
pub around_is : (present : ℕ → Option ℤ) (own free : ℕ) (around : Option ℕ) (old e : Effect) → KeepsBelow free old e → IsRunning own free around old → operand_value e.states present (around_operand around) ≡ pos 1
around_is present own free None old e keeps running = refl
around_is present own free (Some guard) old e keeps running = state_read present e guard (pos 1) (keeps.states guard running.1 ∙ running.2)

-- what is around runs still
pub running_kept : (own free : ℕ) (around : Option ℕ) (old new : Effect) → ((k : ℕ) → own ≤ k → k < free → slice_get new.states k ≡ slice_get old.states k) → IsRunning own free around old →
    IsRunning own free around new
running_kept own free None old new same running = tt
running_kept own free (Some guard) old new same running = (running.0, running.1, same guard running.0 running.1 ∙ running.2)

pub running_next : (own free : ℕ) (around : Option ℕ) (old : Effect) (v : ℤ) → IsRunning own free around old → IsRunning own (free + 1) around (with_value old free v)
running_next own free None old v running = tt
running_next own free (Some guard) old v running =
    let below : guard < free = running.1 in
    (running.0, omega arith, set_below old free guard v below ∙ running.2)

pub guard_below : (own free : ℕ) (around : Option ℕ) (old : Effect) → IsRunning own free around old → IsConditionBelow free (guard_of around)
guard_below own free None old running = tt
guard_below own free (Some guard) old running = running.1

pub guard_met : (present : ℕ → Option ℤ) (own free : ℕ) (around : Option ℕ) (old e : Effect) → KeepsBelow free old e → IsRunning own free around old → IsMet present e (guard_of around) true
guard_met present own free None old e keeps running = refl
guard_met present own free (Some guard) old e keeps running = ap is_true (state_read present e guard (pos 1) (keeps.states guard running.1 ∙ running.2))

-- the lines that work a value out are among those that use it
pub deed_front : (n next : ℕ) (condition : Option Operand) (target : Target) (w : Worked) → AssignBelow n (deed_lines next condition target w) → AssignBelow n w.lines
deed_front n next condition (ToState k) w room = assign_front n w.lines (line condition (Assign k w.last) ∷ []) room
deed_front n next condition (ToOutput port) w room =
    let k = kept next w in assign_front n w.lines (keeping_lines next w.last) (assign_front n k.lines (line condition (Output port k.operand) ∷ []) room)
deed_front n next condition (ToAction slot delay) w room =
    let k = kept next w in assign_front n w.lines (keeping_lines next w.last) (assign_front n k.lines (line condition (Schedule slot delay k.operand) ∷ []) room)

pub room_at : (n : ℕ) (e : Effect) (lines : List Line) → length e.states ≡ n → AssignBelow n lines → AssignBelow (length e.states) lines
room_at n e lines count room = subst (λ m. AssignBelow m lines) (sym count) room
