use Rattle.fedrun_frames.specs.Shown.{ShowsSchedule, IsBrokenOff}
use Rattle.fedrun_commands.specs.Played.{no_memory, unwritten, IsPlayFault}
use Rattle.fedrun_commands.specs.declared.play.PlayOutput.TheVariants.{Frames}
use Rattle.fedrun_commands.proofs.Kept.{shown_kept, some_shown_kept}
use Rattle.fedrun_commands.proofs.SentOn.{played_and_sent, broken_off_and_sent}
use Rattle.fedrun_commands.proofs.printing.print_frames.Goals as goal

pub returns-clause-ok : goal.returns-clause-ok
returns-clause-ok g c =
    let s = c.args.scheduled.now in
    let before = g.O.Write.contents c.args.out.now in
    let mid = g.O.Write.contents c.frames-played.new.out in
    let after = g.O.Write.contents c.sent_on.new.out in
    played_and_sent c.sent_on.result c.frames-played.result
    (ShowsSchedule s.sources.plan s.sources.programs s.sources.inputs s.script s.until_stuck before mid)
    (ShowsSchedule s.sources.plan s.sources.programs s.sources.inputs s.script s.until_stuck before after)
    (λ shown. shown_kept s.sources.plan s.sources.programs s.sources.inputs s.script s.until_stuck before mid after shown c.sent_on.ensures.kept)
    c.sent_on.ensures.ok c.frames-played.ensures.shown

pub returns-clause-stands : goal.returns-clause-stands
returns-clause-stands g c =
    let s = c.args.scheduled.now in
    let before = g.O.Write.contents c.args.out.now in
    let mid = g.O.Write.contents c.frames-played.new.out in
    let after = g.O.Write.contents c.sent_on.new.out in
    broken_off_and_sent c.sent_on.result c.frames-played.result
    (IsBrokenOff s.sources.plan s.sources.programs s.sources.inputs s.script s.until_stuck before mid)
    (IsPlayFault Frames s.sources s.script s.until_stuck before after)
    (λ fault is. unwritten is)
    (λ fault memory is broken. no_memory memory is
    (some_shown_kept s.sources.plan s.sources.programs s.sources.inputs s.script s.until_stuck before mid after broken c.sent_on.ensures.kept))
    c.sent_on.ensures.fault c.frames-played.ensures.broken_off
