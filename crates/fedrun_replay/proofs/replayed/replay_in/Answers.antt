use Rattle.std.proofs.Common.{OnOk, sym, subst}
use Rattle.files_text.specs.declared.row_format.RowFormat.{RowFormat}
use Rattle.fedrun_replay.specs.AsCsv.{IsReplayedIn}
use Rattle.fedrun_replay.proofs.replayed.replay_in.Goals as goal

pub returns-in-Text-clause-printed : goal.returns-in-Text-clause-printed
returns-in-Text-clause-printed g c =
    subst (λ (format : RowFormat). OnOk c.replay.result (IsReplayedIn format c.args.plan.now c.args.programs.now c.args.inputs.now c.args.script.now c.args.closing
    (g.W.Write.contents c.args.out.now) (g.W.Write.contents c.replay.new.out))) (sym c.in-Text.is) c.replay.ensures.printed

pub returns-in-Csv-clause-printed : goal.returns-in-Csv-clause-printed
returns-in-Csv-clause-printed g c =
    subst (λ (format : RowFormat). OnOk c.replay_as_csv.result (IsReplayedIn format c.args.plan.now c.args.programs.now c.args.inputs.now c.args.script.now c.args.closing
    (g.W.Write.contents c.args.out.now) (g.W.Write.contents c.replay_as_csv.new.out))) (sym c.in-Csv.is) c.replay_as_csv.ensures.printed
