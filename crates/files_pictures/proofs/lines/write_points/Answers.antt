use Rattle.std.proofs.Common.{◌≡◌, ◌+◌, ℕ, suc, sym, subst, arith}
use Rattle.std.specs.Io.KnownBytes.{Appends}
use Rattle.std.proofs.KnownBytes.{Appends-trans}
use Rattle.files_pictures.specs.Svg.{point_text, first_texts}
use Rattle.files_pictures.proofs.lines.write_points.Goals as goal

pub loop-place-preserved : goal.loop-place-preserved
loop-place-preserved g c =
    let text = point_text c.args.bends c.args.points.now in
    let before = g.W.Write.contents c.args.out.now in
    let after = g.W.Write.contents c.write_point.new.out in
    let next : c.loop-place.place + 1 ≡ suc c.loop-place.place = omega arith in
    subst (λ (count : ℕ). Appends before after (first_texts text count)) (sym next)
    (Appends-trans before (g.W.Write.contents c.loop-place.out) after (first_texts text c.loop-place.place) (text c.loop-place.place)
    c.loop-place.invariant c.in_ok-write_point.ensures)
