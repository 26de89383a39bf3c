-- A refusal agrees with the reader of schedules.
use Rattle.std.proofs.Common.{◌≡◌, ℕ, ◌<◌, ◌≤◌, List, length, Some, None, Result, Ok, Err, refl, sym, subst, ◌∙◌, arith}
use Rattle.std.specs.Prelude.{◌≢◌, ◌↔◌}
use Rattle.plan.specs.declared.draft.Draft.{Draft}
use Rattle.files_script.specs.Scripts.{Script, IsScriptOf, IsFaultOf}
use Rattle.files_script.specs.declared.fault.ScriptFault.{ScriptFault}
use Rattle.files_script.specs.declared.fault.ScriptFault.TheVariants.{OverLimit, ScheduleLine, Memory}
use Rattle.files_script.specs.declared.script.TheConstants.{MOST_BYTES}
use Rattle.fedrun_lint_schedule.specs.declared.refusal.ScheduleRefusal.{ScheduleRefusal}
use Rattle.fedrun_lint_schedule.specs.Refused.{IsScheduleFile, IsRefused}

-- a file that is read is a schedule, as one that is too long isn't read
pub taken : (d : Draft) (bytes : List ℕ) (script : Script) (r : Result Script ScriptFault) → r ≡ Ok script → IsScriptOf d bytes script
    → (r ≡ Err OverLimit) ↔ (MOST_BYTES < length bytes) → IsScheduleFile d bytes
taken d bytes script r is says over = record {
  few = (let long : MOST_BYTES < length bytes → ⊥ = (λ many. let no : Ok script ≡ Err OverLimit = sym is ∙ over.1 many in cc) in omega arith);
  good = says.good;
}

-- what is answered of a file isn't answered of a schedule
refused_none : (d : Draft) (bytes : List ℕ) (fault : ScriptFault) → IsFaultOf d bytes fault → fault ≢ Memory → IsScheduleFile d bytes → ⊥
refused_none d bytes OverLimit stands other is = let few : length bytes ≤ MOST_BYTES = is.few in let many : MOST_BYTES < length bytes = stands in omega arith
refused_none d bytes (ScheduleLine number) stands other is = let no : None ≡ Some number = sym is.good ∙ stands.0 in cc
refused_none d bytes Memory stands other is = let same : Memory ≡ Memory = refl in other same

-- a refusal whose first fault is the one that is answered
pub refused : (d : Draft) (bytes : List ℕ) (fault : ScriptFault) (refusal : ScheduleRefusal) → refusal.first.fault ≡ fault → IsFaultOf d bytes fault → fault ≢ Memory
    → IsRefused d bytes refusal
refused d bytes fault refusal first stands other = record {
  first = subst (λ (x : ScriptFault). IsFaultOf d bytes x) (sym first) stands;
  not_memory = subst (λ (x : ScriptFault). x ≢ Memory) (sym first) other;
  none = refused_none d bytes fault stands other;
}
