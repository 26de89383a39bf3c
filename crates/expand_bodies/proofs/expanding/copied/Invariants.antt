use Rattle.std.proofs.Common.{◌≡◌, take}
use Rattle.expand_bodies.proofs.expanding.copied.Given as goal

abbrev pub invariant-loop-line : goal.invariant-loop-line
invariant-loop-line l = l.texts.items ≡ take l.line-index l.lines
