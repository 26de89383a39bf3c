use Rattle.files_pictures.specs.Svg.{mark_text}
use Rattle.files_pictures.proofs.Texts.{one_more}
use Rattle.files_pictures.proofs.svg.write_marks.Goals as goal

pub loop-mark-preserved : goal.loop-mark-preserved
loop-mark-preserved g c =
    one_more mark_text c.args.marks.now c.loop-mark.mark-index _
    (g.W.Write.contents c.args.out.now) (g.W.Write.contents c.loop-mark.out) (g.W.Write.contents c.write_mark.new.out)
    c.loop-mark-test.true c.loop-mark.invariant c.in_ok-write_mark.ensures
