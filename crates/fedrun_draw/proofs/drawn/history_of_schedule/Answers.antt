use Rattle.std.proofs.Common.{◌≡◌, IfOk, IfErr, OnOk, length, vec_len, rules}
use Rattle.fedrun_frames.specs.Shown.{AreStepsOf}
use Rattle.fedrun_draw.specs.Excerpts.{steps_in}
use Rattle.fedrun_draw.specs.Drawn.{made_lines, moment_lines, IsWithin, IsInterrupted, IsUndrawn}
use Rattle.fedrun_draw.proofs.Drawing.{has_few, are_lines, is_undrawn, is_interrupted}
use Rattle.fedrun_draw.proofs.drawn.history_of_schedule.Goals as goal

pub returns-in_err-made-clause-stands : goal.returns-in_err-made-clause-stands
returns-in_err-made-clause-stands c =
    let outside : IfErr c.from_residual.result IsInterrupted = search rules in
    is_interrupted c.args.plan.now c.args.programs.now c.args.inputs.now c.args.script.now c.args.closing c.args.excerpt c.from_residual.result outside

pub returns-clause-short : goal.returns-clause-short
returns-clause-short c =
    let made = c.in_ok-made.made.items in
    let are : AreStepsOf c.args.plan.now c.args.programs.now c.args.inputs.now c.args.script.now c.args.closing made = search rules in
    let few : OnOk c.recorded.result (IsWithin (length (steps_in c.args.excerpt made))) = search rules in
    let each : IfOk c.recorded.result (λ history. vec_len history.steps ≡ length (steps_in c.args.excerpt made)) = search rules in
    has_few c.args.plan.now c.args.programs.now c.args.inputs.now c.args.script.now c.args.closing c.args.excerpt (λ history. vec_len history.steps) made c.recorded.result
    are few each

pub returns-clause-lines : goal.returns-clause-lines
returns-clause-lines c =
    let made = c.in_ok-made.made.items in
    let are : AreStepsOf c.args.plan.now c.args.programs.now c.args.inputs.now c.args.script.now c.args.closing made = search rules in
    let each : IfOk c.recorded.result (λ history. moment_lines history.steps.items ≡ made_lines (steps_in c.args.excerpt made)) = search rules in
    are_lines c.args.plan.now c.args.programs.now c.args.inputs.now c.args.script.now c.args.closing c.args.excerpt (λ history. moment_lines history.steps.items) made
    c.recorded.result are each

pub returns-clause-stands : goal.returns-clause-stands
returns-clause-stands c =
    let made = c.in_ok-made.made.items in
    let are : AreStepsOf c.args.plan.now c.args.programs.now c.args.inputs.now c.args.script.now c.args.closing made = search rules in
    let undrawn : IfErr c.recorded.result (IsUndrawn (length (steps_in c.args.excerpt made))) = search rules in
    is_undrawn c.args.plan.now c.args.programs.now c.args.inputs.now c.args.script.now c.args.closing c.args.excerpt made c.recorded.result are undrawn
