use Rattle.fedrun_trace.specs.Traced.{TracesSchedule, IsBrokenOff}
use Rattle.fedrun_commands.specs.Played.{no_memory, unwritten, IsPlayFault}
use Rattle.fedrun_commands.specs.declared.play.PlayOutput.TheVariants.{Trace}
use Rattle.fedrun_commands.proofs.Kept.{traced_kept, some_traced_kept}
use Rattle.fedrun_commands.proofs.SentOn.{played_and_sent, broken_off_and_sent}
use Rattle.fedrun_commands.proofs.printing.print_trace.Goals as goal

pub returns-clause-ok : goal.returns-clause-ok
returns-clause-ok g c =
    let s = c.args.scheduled.now in
    let before = g.O.Write.contents c.args.out.now in
    let mid = g.O.Write.contents c.trace-played.new.out in
    let after = g.O.Write.contents c.sent_on.new.out in
    played_and_sent c.sent_on.result c.trace-played.result
    (TracesSchedule s.sources.plan s.sources.programs s.sources.inputs s.script s.until_stuck before mid)
    (TracesSchedule s.sources.plan s.sources.programs s.sources.inputs s.script s.until_stuck before after)
    (λ traced. traced_kept s.sources.plan s.sources.programs s.sources.inputs s.script s.until_stuck before mid after traced c.sent_on.ensures.kept)
    c.sent_on.ensures.ok c.trace-played.ensures.traced

pub returns-clause-stands : goal.returns-clause-stands
returns-clause-stands g c =
    let s = c.args.scheduled.now in
    let before = g.O.Write.contents c.args.out.now in
    let mid = g.O.Write.contents c.trace-played.new.out in
    let after = g.O.Write.contents c.sent_on.new.out in
    broken_off_and_sent c.sent_on.result c.trace-played.result
    (IsBrokenOff s.sources.plan s.sources.programs s.sources.inputs s.script s.until_stuck before mid)
    (IsPlayFault Trace s.sources s.script s.until_stuck before after)
    (λ fault is. unwritten is)
    (λ fault memory is broken. no_memory memory is
    (some_traced_kept s.sources.plan s.sources.programs s.sources.inputs s.script s.until_stuck before mid after broken c.sent_on.ensures.kept))
    c.sent_on.ensures.fault c.trace-played.ensures.broken_off
