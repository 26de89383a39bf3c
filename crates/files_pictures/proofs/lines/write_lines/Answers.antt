use Rattle.files_pictures.specs.Svg.{line_text}
use Rattle.files_pictures.proofs.Texts.{next_more}
use Rattle.files_pictures.proofs.lines.write_lines.Goals as goal

pub loop-line-preserved : goal.loop-line-preserved
loop-line-preserved g c =
    next_more line_text c.args.lines.now c.loop-line.line-index c.line-item.result
    (g.W.Write.contents c.args.out.now) (g.W.Write.contents c.loop-line.out) (g.W.Write.contents c.write_line.new.out)
    c.loop-line-test.true c.line-item.is c.loop-line.invariant c.in_ok-write_line.ensures
