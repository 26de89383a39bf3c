use Rattle.std.proofs.Common.{◌≡◌, ◌≤◌, ◌-◌, take, length}
use Rattle.std.specs.Io.KnownBytes.{Appends}
use Rattle.files_text.specs.Formats.{formatted_rows}
use Rattle.files_text.proofs.rows.write_rows.Given as goal

abbrev pub invariant-loop-first : goal.invariant-loop-first
invariant-loop-first g l =
    (l.count ≡ length l.rows) × (l.first ≤ l.count) × Appends (g.W.Write.contents l.initial.out) (g.W.Write.contents l.out) (formatted_rows l.format l.plan.federates (take l.first l.rows))

abbrev pub decreases-loop-first : goal.decreases-loop-first
decreases-loop-first g l = l.count - l.first
