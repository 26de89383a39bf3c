use Rattle.std.proofs.Common.{◌≡◌, List, take, subst}
use Rattle.std.proofs.lemmas.List.{take_all}
use Rattle.files_script.specs.declared.script.ScheduleLine.{ScheduleLine}
use Rattle.fedrun_frames.specs.Making.{ListsLines}
use Rattle.fedrun_frames.proofs.Listing.{lines_none, lines_next}
use Rattle.fedrun_frames.proofs.making.make_lines.Goals as goal

pub loop-line-init : goal.loop-line-init
loop-line-init c = lines_none c.args.player.now c.args.made.now.items

pub loop-line-preserved : goal.loop-line-preserved
loop-line-preserved c =
    lines_next c.args.lines.now c.loop-line.line-index _ c.args.player.now c.loop-line.player c.make_line.new.player c.args.made.now.items
    c.loop-line.made.items c.make_line.new.made.items c.loop-line-test.true c.loop-line.invariant c.in_ok-make_line.ensures

pub returns : goal.returns
returns c =
    let lines = c.args.lines.now in
    let all : take c.loop-line.line-index lines ≡ lines = take_all c.loop-line.line-index lines c.loop-line-test.false in
    subst (λ (front : List ScheduleLine). ListsLines front c.args.player.now c.loop-line.player c.args.made.now.items c.loop-line.made.items) all
    c.loop-line.invariant
