use Rattle.std.proofs.Common.{take, flat_map}
use Rattle.std.specs.Fmt.{HasWritten, IsPlainFormatter}
use Rattle.fedrun_lint_schedule.specs.Printed.{printed_schedule_finding}
use Rattle.fedrun_lint_schedule.proofs.refusal.ScheduleFindingLinesDisplay.fmt.Given as goal

abbrev pub invariant-loop-finding : goal.invariant-loop-finding
invariant-loop-finding g l =
    IsPlainFormatter l.initial.f
    → HasWritten g.W.Write.write_str_gives l.initial.f (flat_map (printed_schedule_finding l.file) (take l.finding-index l.findings)) l.f
