use Rattle.std.proofs.Common.{◌≡◌, Err, rules, codes}
use Rattle.std.specs.Io.KnownBytes.{Appends}
use Rattle.world.specs.World.{stations_of}
use Rattle.fedrun_trace.specs.Steps.{steps_text}
use Rattle.fedrun_trace.specs.Traced.{heading, trace_text}
use Rattle.fedrun_trace.proofs.Following.{behind_failed}
use Rattle.fedrun_trace.proofs.tracing.trace_steps.Goals as goal

pub returns-in_err-trace_each : goal.returns-in_err-trace_each
unfolding trace_text
returns-in_err-trace_each g c =
    let d = c.args.plan.now in
    let made = c.args.made.now in
    let fault = c.in_err-trace_each.field-0.0 in
    let before = g.W.Write.contents c.args.out.now in
    let mid = g.W.Write.contents c.write_heading.new.out in
    let after = g.W.Write.contents c.trace_each.new.out in
    let failed : c.trace_each.result ≡ Err fault = search rules in
    let fails : c.from_residual-in_err-trace_each.result ≡ Err fault = search rules in
    let first : Appends before mid (heading d) = search rules in
    behind_failed c.from_residual-in_err-trace_each.result c.trace_each.result fault (heading d) (steps_text d made 1 (stations_of c.args.world.now) made)
    (codes "\n]\n") before mid after failed fails first c.trace_each.ensures
