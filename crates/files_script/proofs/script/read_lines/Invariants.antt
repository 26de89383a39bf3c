use Rattle.std.proofs.Common.{◌≡◌, ◌≤◌, ◌+◌, ◌++◌, length, map}
use Rattle.files_script.specs.Scripts.{lines_of, line_count, asking, spelled, first_bad, AreLinesOf}
use Rattle.files_script.proofs.script.read_lines.Given as goal

abbrev pub invariant-loop-line : goal.invariant-loop-line
invariant-loop-line l = record {
  made : AreLinesOf l.plan l.last l.lines.items;
  every : map (λ line. line.number) l.lines.items ++ asking (l.last + 1) (lines_of l.rest) ≡ asking 1 (lines_of l.bytes);
  spells : l.lines.items ++ spelled l.plan (l.last + 1) (lines_of l.rest) ≡ spelled l.plan 1 (lines_of l.bytes);
  good : first_bad l.plan (l.last + 1) (lines_of l.rest) ≡ first_bad l.plan 1 (lines_of l.bytes);
  counted : l.last + line_count l.rest ≡ line_count l.bytes;
  room : l.last + length l.rest ≤ length l.bytes;
}

abbrev pub decreases-loop-line : goal.decreases-loop-line
decreases-loop-line l = length l.rest
