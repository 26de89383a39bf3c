use Rattle.fedrun_replay.specs.AsCsv.{IsReplayedIn, IsBrokenOffIn}
use Rattle.fedrun_replay.proofs.Kept.{replayed_in_kept, broken_off_in_kept}
use Rattle.fedrun_replay.specs.declared.fault.ReplayFault.TheVariants.{World}
use Rattle.fedrun_commands.specs.Played.{no_memory, unwritten, IsPlayFault}
use Rattle.fedrun_commands.specs.declared.play.PlayOutput.TheVariants.{Rows}
use Rattle.fedrun_commands.proofs.SentOn.{played_and_sent, broken_off_and_sent}
use Rattle.fedrun_commands.proofs.printing.print_replay.Goals as goal

pub returns-clause-ok : goal.returns-clause-ok
returns-clause-ok g c =
    let s = c.args.scheduled.now in
    let before = g.O.Write.contents c.args.out.now in
    let mid = g.O.Write.contents c.replay_in-played.new.out in
    let after = g.O.Write.contents c.sent_on.new.out in
    played_and_sent c.sent_on.result c.replay_in-played.result
    (IsReplayedIn c.args.format s.sources.plan s.sources.programs s.sources.inputs s.script s.until_stuck before mid)
    (IsReplayedIn c.args.format s.sources.plan s.sources.programs s.sources.inputs s.script s.until_stuck before after)
    (λ played. replayed_in_kept c.args.format s.sources.plan s.sources.programs s.sources.inputs s.script s.until_stuck before mid after played c.sent_on.ensures.kept)
    c.sent_on.ensures.ok c.replay_in-played.ensures.printed

pub returns-clause-stands : goal.returns-clause-stands
returns-clause-stands g c =
    let s = c.args.scheduled.now in
    let before = g.O.Write.contents c.args.out.now in
    let mid = g.O.Write.contents c.replay_in-played.new.out in
    let after = g.O.Write.contents c.sent_on.new.out in
    broken_off_and_sent c.sent_on.result c.replay_in-played.result
    (IsBrokenOffIn c.args.format s.sources.plan s.sources.programs s.sources.inputs s.script s.until_stuck before mid)
    (IsPlayFault (Rows c.args.format) s.sources s.script s.until_stuck before after)
    (λ fault is. unwritten is)
    (λ fault memory is broken. no_memory memory is
    (broken_off_in_kept c.args.format s.sources.plan s.sources.programs s.sources.inputs s.script s.until_stuck (World memory) before mid after broken c.sent_on.ensures.kept))
    c.sent_on.ensures.fault c.replay_in-played.ensures.broken_off
