use Rattle.std.proofs.Common.{◌++◌, ◌<◌, ◌^◌, OnOk, rules}
use Rattle.std.proofs.lemmas.Result.{on_ok_weaker}
use Rattle.std.specs.Io.KnownBytes.{Appends}
use Rattle.plan.specs.Legal.{IsLegal}
use Rattle.world.specs.Faithful.{IsFaithful}
use Rattle.files_text.specs.declared.row_format.RowFormat.TheVariants.{Csv}
use Rattle.files_text.specs.CsvText.{csv_header}
use Rattle.fedrun_replay.specs.Play.{unasked_player}
use Rattle.fedrun_replay.specs.Closing.{most_rounds}
use Rattle.fedrun_replay.specs.Replayed.{each_history}
use Rattle.fedrun_replay.specs.AsCsv.{HasPlayedUnseen}
use Rattle.fedrun_replay.proofs.Enough.{replayed_as_csv}
use Rattle.fedrun_replay.proofs.replayed.replay_as_csv.Goals as goal

pub returns-clause-printed : goal.returns-clause-printed
returns-clause-printed g c =
    let d = c.args.plan.now in
    let programs = c.args.programs.now in
    let inputs = c.args.inputs.now in
    let s = c.args.script.now in
    let closing = c.args.closing in
    let last = c.play_on.new.self.world in
    let before = g.W.Write.contents c.args.out.now in
    let after = g.W.Write.contents c.write_csv_histories.new.out in
    let legal : IsLegal d = search rules in
    let few : most_rounds closing < 2 ^ 32 = search rules in
    let plays : HasPlayedUnseen s closing (unasked_player d programs inputs) last = search rules in
    let printed : OnOk c.map_err.result (Appends before after (csv_header ++ each_history Csv last)) = search rules in
    let faithful : IsFaithful last = search rules in
    on_ok_weaker c.map_err.result
    (λ printed. replayed_as_csv d programs inputs s closing last before after legal c.requires.programs c.requires.inputs few plays printed faithful) printed
