use Rattle.std.proofs.Common.{take, flat_map}
use Rattle.std.specs.Fmt.{HasWritten, IsPlainFormatter}
use Rattle.fedrun_lint_findings.specs.Printed.{printed_finding}
use Rattle.fedrun_lint_findings.proofs.finding.FindingLinesDisplay.fmt.Given as goal

abbrev pub invariant-loop-finding : goal.invariant-loop-finding
invariant-loop-finding g l =
    IsPlainFormatter l.initial.f
    → HasWritten g.W.Write.write_str_gives l.initial.f (flat_map (printed_finding l.file) (take l.finding-index l.findings)) l.f
