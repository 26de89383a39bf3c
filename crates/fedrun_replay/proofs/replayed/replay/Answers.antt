use Rattle.std.proofs.Common.{◌<◌, ◌^◌, OnOk, rules}
use Rattle.std.proofs.lemmas.Result.{on_ok_weaker}
use Rattle.plan.specs.Legal.{IsLegal}
use Rattle.world.specs.Faithful.{IsFaithful}
use Rattle.fedrun_replay.specs.Play.{unasked, unasked_player}
use Rattle.fedrun_replay.specs.Closing.{most_rounds, PlaysSchedule}
use Rattle.fedrun_replay.specs.Replayed.{IsEnded}
use Rattle.fedrun_replay.proofs.Closed.{played_none}
use Rattle.fedrun_replay.proofs.Enough.{replayed}
use Rattle.fedrun_replay.proofs.replayed.replay.Goals as goal

pub returns-in-Err-clause-broken_off : goal.returns-in-Err-clause-broken_off
returns-in-Err-clause-broken_off g c = (
  unasked c.args.plan.now c.args.programs.now c.args.inputs.now,
  played_none c.args.script.now c.args.closing c.args.plan.now c.args.programs.now c.args.inputs.now (g.W.Write.contents c.args.out.now),
)

pub returns-clause-printed : goal.returns-clause-printed
returns-clause-printed g c =
    let d = c.args.plan.now in
    let programs = c.args.programs.now in
    let inputs = c.args.inputs.now in
    let s = c.args.script.now in
    let closing = c.args.closing in
    let last = c.play_on.new.self.world in
    let before = g.W.Write.contents c.args.out.now in
    let played = g.W.Write.contents c.play_on.new.out in
    let after = g.W.Write.contents c.write_end.new.out in
    let legal : IsLegal d = search rules in
    let few : most_rounds closing < 2 ^ 32 = search rules in
    let plays : PlaysSchedule s closing (unasked_player d programs inputs) last before played = search rules in
    let ended : OnOk c.map_err.result (IsEnded closing last played after) = search rules in
    let faithful : IsFaithful last = search rules in
    on_ok_weaker c.map_err.result
    (λ printed. replayed d programs inputs s closing last before played after legal c.requires.programs c.requires.inputs few plays printed faithful) ended
