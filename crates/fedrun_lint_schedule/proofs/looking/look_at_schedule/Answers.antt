use Rattle.std.proofs.Common.{◌≡◌, rules, arith}
use Rattle.files_script.specs.declared.fault.ScriptFault.TheVariants.{Memory}
use Rattle.fedrun_lint_schedule.proofs.Agreement.{taken, refused}
use Rattle.fedrun_lint_schedule.proofs.looking.look_at_schedule.Goals as goal
use Rattle.fedrun_lint_schedule.proofs.looking.look_at_schedule.Goals.{in-Ok, in-Err-Memory, in-Err+in_ok-refusal_of_schedule-in-Err}

pub returns : goal.returns
returns c =
    let d = c.args.plan.now in
    let bytes = c.args.schedule.now in
    elim c.match-read_script.branch [
      | in-Ok w ↦ rw w.result-is (taken d bytes w.in-Ok.field-0 c.read_script.result w.in-Ok.is w.in-Ok.ensures.ok c.read_script.ensures.over)
      | in-Err-Memory w ↦ rw w.result-is tt
      | in-Err+in_ok-refusal_of_schedule-in-Err w ↦
          let other : w.in-Err.fault ≡ Memory → ⊥ = first_of (search rules, grind arith) in
          rw w.result-is (refused d bytes w.in-Err.fault _ w.in_ok-refusal_of_schedule-in-Err.ensures w.in-Err.ensures.refused other)
    ]
