use Rattle.std.proofs.Common.{take, flat_map}
use Rattle.std.specs.Fmt.{HasWritten, IsPlainFormatter}
use Rattle.fedrun_help.specs.Completions.{bash_option}
use Rattle.fedrun_help.proofs.completions.BashOptionsDisplay.fmt.Given as goal

abbrev pub invariant-loop-option : goal.invariant-loop-option
invariant-loop-option g l =
    IsPlainFormatter l.initial.f
    → HasWritten g.W.Write.write_str_gives l.initial.f (flat_map bash_option (take l.option-index l.options)) l.f
