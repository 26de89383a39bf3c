use Rattle.files_pictures.specs.Svg.{arrow_head_text}
use Rattle.files_pictures.proofs.Texts.{one_more}
use Rattle.files_pictures.proofs.svg.write_arrow_heads.Goals as goal

pub loop-ink-preserved : goal.loop-ink-preserved
loop-ink-preserved g c =
    one_more arrow_head_text c.args.inks.now c.loop-ink.ink-index _
    (g.W.Write.contents c.args.out.now) (g.W.Write.contents c.loop-ink.out) (g.W.Write.contents c.write_arrow_head.new.out)
    c.loop-ink-test.true c.loop-ink.invariant c.in_ok-write_arrow_head.ensures
