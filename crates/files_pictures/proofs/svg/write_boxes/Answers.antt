use Rattle.files_pictures.specs.Svg.{box_text}
use Rattle.files_pictures.proofs.Texts.{one_more}
use Rattle.files_pictures.proofs.svg.write_boxes.Goals as goal

pub loop-area-preserved : goal.loop-area-preserved
loop-area-preserved g c =
    one_more box_text c.args.boxes.now c.loop-area.area-index _
    (g.W.Write.contents c.args.out.now) (g.W.Write.contents c.loop-area.out) (g.W.Write.contents c.write_box.new.out)
    c.loop-area-test.true c.loop-area.invariant c.in_ok-write_box.ensures
