use Rattle.std.proofs.Common.{◌<◌}
use Rattle.whole.specs.Next.{IsFirstAmong}
use Rattle.whole.proofs.nexts.first_among.Given as goal

abbrev pub invariant-loop-place : goal.invariant-loop-place
invariant-loop-place l = (l.low < l.place) × IsFirstAmong l.nexts l.low l.place l.first
