use Rattle.std.proofs.Common.{sym, subst, arith, ◌≤◌, ◌<◌, length}
use Rattle.std.proofs.KnownBytes.{Appends-trans}
use Rattle.std.specs.Io.KnownBytes.{Appends}
use Rattle.files_text.proofs.Lines.{one_more}
use Rattle.files_text.proofs.rows.write_lines.Goals as goal

pub loop-place-preserved : goal.loop-place-preserved
loop-place-preserved g c =
    let test = c.loop-place-test.true in
    let end = c.requires.there in
    let from : c.args.first ≤ c.loop-place.place = (let range = c.loop-place.auto.place in omega (arith, range)) in
    let there : c.loop-place.place < length c.args.rows.now = omega (arith, test, end) in
    subst (λ text. Appends (g.W.Write.contents c.args.out.now) (g.W.Write.contents c.write_row.new.out) text)
    (sym (one_more c.args.format c.args.federates.now c.args.rows.now c.args.first c.loop-place.place c.row.result from there c.row.ensures))
    (Appends-trans (g.W.Write.contents c.args.out.now) (g.W.Write.contents c.loop-place.out) (g.W.Write.contents c.write_row.new.out) _ _ c.loop-place.invariant c.in_ok-write_row.ensures)
