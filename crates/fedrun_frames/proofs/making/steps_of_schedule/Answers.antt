use Rattle.std.proofs.Common.{[], rules}
use Rattle.fedrun_replay.specs.Play.{unasked_player}
use Rattle.fedrun_frames.specs.Making.{ListsLines, ListsClosing}
use Rattle.fedrun_frames.proofs.Listing.{steps_listed}
use Rattle.fedrun_frames.proofs.making.steps_of_schedule.Goals as goal

pub returns : goal.returns
returns c =
    let d = c.args.plan.now in
    let programs = c.args.programs.now in
    let inputs = c.args.inputs.now in
    let s = c.args.script.now in
    let mid = c.make_lines.new.player in
    let between = c.make_lines.new.made.items in
    let made = c.close.new.made.items in
    let lists : ListsLines s.lines (unasked_player d programs inputs) mid [] between = search rules in
    let closes : ListsClosing s c.args.closing mid between made = search rules in
    steps_listed d programs inputs s c.args.closing mid between made lists closes
