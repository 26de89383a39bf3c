use Rattle.std.proofs.Common.{◌≡◌, ◌+◌, ◌++◌, ◌∷◌, [], take, flat_map, rules, arith, ap, sym, ◌∙◌}
use Rattle.std.proofs.lemmas.List.{take_more, flat_map_more}
use Rattle.fedrun_watch.specs.Picture.{row_line}
use Rattle.fedrun_watch.proofs.picture.lines_of.Goals as goal

pub loop-standing-preserved : goal.loop-standing-preserved
loop-standing-preserved c =
    let line = row_line c.args.names.now c.args.stop.now in
    let rows = c.args.rows.now in
    let index = c.loop-standing.standing-index in
    let standing = c.standing-item.result in
    let more : take (index + 1) rows ≡ take index rows ++ standing ∷ [] =
    grind (arith, take_more rows index standing, c.standing-item.is) in
    let appended : c.extend_from_slice.new.self.items ≡ c.loop-standing.lines.items ++ line standing = search rules in
    appended ∙ ap (λ lines. lines ++ line standing) c.loop-standing.invariant
    ∙ flat_map_more line [] (take index rows) standing ∙ sym (ap (flat_map line) more)
