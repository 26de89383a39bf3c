use Rattle.std.proofs.Common.{◌≡◌, take, flat_map}
use Rattle.fedrun_watch.specs.Picture.{row_line}
use Rattle.fedrun_watch.proofs.picture.lines_of.Given as goal

abbrev pub invariant-loop-standing : goal.invariant-loop-standing
invariant-loop-standing l = l.lines.items ≡ flat_map (row_line l.names l.stop) (take l.standing-index l.rows)
