use Rattle.std.proofs.Common.{take, flat_map}
use Rattle.std.specs.Fmt.{HasWritten, IsPlainFormatter}
use Rattle.fedrun_help.specs.Usage.{further_argument}
use Rattle.fedrun_help.proofs.usage.FurtherArgumentsDisplay.fmt.Given as goal

abbrev pub invariant-loop-argument : goal.invariant-loop-argument
invariant-loop-argument g l =
    IsPlainFormatter l.initial.f
    → HasWritten g.W.Write.write_str_gives l.initial.f (flat_map further_argument (take l.argument-index l.arguments)) l.f
