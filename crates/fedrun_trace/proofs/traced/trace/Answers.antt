use Rattle.std.proofs.Common.{◌≡◌, Err, rules}
use Rattle.world_stations.specs.Federation.{initial_world}
use Rattle.fedrun_frames.specs.Shown.{AreStepsOf}
use Rattle.fedrun_trace.specs.Traced.{trace_text, HasTraced}
use Rattle.fedrun_trace.proofs.Following.{none_written, failed_early, all_traced, some_traced}
use Rattle.fedrun_trace.proofs.traced.trace.Goals as goal

pub returns-in_err-made-clause-broken_off : goal.returns-in_err-made-clause-broken_off
returns-in_err-made-clause-broken_off g c =
    let fault = c.in_err-made.field-0.0 in
    let failed : c.from_residual.result ≡ Err fault = search rules in
    failed_early c.args.plan.now c.args.programs.now c.args.inputs.now c.args.script.now c.args.closing c.from_residual.result fault
    (g.W.Write.contents c.args.out.now) failed

pub returns-in-Err-clause-broken_off : goal.returns-in-Err-clause-broken_off
returns-in-Err-clause-broken_off g c =
    none_written c.args.plan.now c.args.programs.now c.args.inputs.now c.args.script.now c.args.closing (g.W.Write.contents c.args.out.now)

pub returns-clause-traced : goal.returns-clause-traced
returns-clause-traced g c =
    let d = c.args.plan.now in
    let programs = c.args.programs.now in
    let inputs = c.args.inputs.now in
    let made = c.in_ok-made.made.items in
    let before = g.W.Write.contents c.args.out.now in
    let after = g.W.Write.contents c.trace_steps.new.out in
    let are : AreStepsOf d programs inputs c.args.script.now c.args.closing made = search rules in
    let traced : HasTraced c.trace_steps.result (trace_text d (initial_world d programs inputs) made) before after = search rules in
    all_traced d programs inputs c.args.script.now c.args.closing c.trace_steps.result made before after are traced

pub returns-clause-broken_off : goal.returns-clause-broken_off
returns-clause-broken_off g c =
    let d = c.args.plan.now in
    let programs = c.args.programs.now in
    let inputs = c.args.inputs.now in
    let made = c.in_ok-made.made.items in
    let before = g.W.Write.contents c.args.out.now in
    let after = g.W.Write.contents c.trace_steps.new.out in
    let are : AreStepsOf d programs inputs c.args.script.now c.args.closing made = search rules in
    let traced : HasTraced c.trace_steps.result (trace_text d (initial_world d programs inputs) made) before after = search rules in
    some_traced d programs inputs c.args.script.now c.args.closing c.trace_steps.result made before after are traced
