use Rattle.std.proofs.Common.{take, flat_map}
use Rattle.std.specs.Fmt.{HasWritten, IsPlainFormatter}
use Rattle.fedrun_help.specs.Manual.{command_part}
use Rattle.fedrun_help.proofs.manual.CommandsDisplay.fmt.Given as goal

abbrev pub invariant-loop-command : goal.invariant-loop-command
invariant-loop-command g l =
    IsPlainFormatter l.initial.f
    → HasWritten g.W.Write.write_str_gives l.initial.f (flat_map command_part (take l.command-index l.commands)) l.f
