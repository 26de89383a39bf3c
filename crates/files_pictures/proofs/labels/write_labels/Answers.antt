use Rattle.files_pictures.specs.Svg.{label_text}
use Rattle.files_pictures.proofs.Texts.{next_more}
use Rattle.files_pictures.proofs.labels.write_labels.Goals as goal

pub loop-label-preserved : goal.loop-label-preserved
loop-label-preserved g c =
    next_more label_text c.args.labels.now c.loop-label.label-index c.label-item.result
    (g.W.Write.contents c.args.out.now) (g.W.Write.contents c.loop-label.out) (g.W.Write.contents c.write_label.new.out)
    c.loop-label-test.true c.label-item.is c.loop-label.invariant c.in_ok-write_label.ensures
