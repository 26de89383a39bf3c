use Rattle.std.proofs.Common.{take, flat_map}
use Rattle.std.specs.Fmt.{HasWritten, IsPlainFormatter}
use Rattle.fedrun_lint_findings.specs.Printed.{printed_oddity}
use Rattle.fedrun_lint_findings.proofs.oddity.OddityLinesDisplay.fmt.Given as goal

abbrev pub invariant-loop-oddity : goal.invariant-loop-oddity
invariant-loop-oddity g l =
    IsPlainFormatter l.initial.f
    → HasWritten g.W.Write.write_str_gives l.initial.f (flat_map (printed_oddity l.federation l.inputs) (take l.oddity-index l.odd)) l.f
