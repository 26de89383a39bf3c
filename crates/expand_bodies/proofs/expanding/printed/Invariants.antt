use Rattle.std.proofs.Common.{◌≡◌, map, take}
use Rattle.expand_bodies.specs.Printing.{printed_line}
use Rattle.expand_bodies.proofs.expanding.printed.Given as goal

abbrev pub invariant-loop-line : goal.invariant-loop-line
invariant-loop-line l =
    l.texts.items ≡ map (printed_line l.printing.names.now l.printing.scratch.now) (take l.line-index l.lines)
