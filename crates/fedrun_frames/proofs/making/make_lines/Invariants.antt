use Rattle.std.proofs.Common.{take}
use Rattle.fedrun_frames.specs.Making.{ListsLines}
use Rattle.fedrun_frames.proofs.making.make_lines.Given as goal

-- the lines so far are done
abbrev pub invariant-loop-line : goal.invariant-loop-line
invariant-loop-line l = ListsLines (take l.line-index l.lines) l.initial.player l.player l.initial.made.items l.made.items
