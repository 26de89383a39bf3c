use Rattle.std.specs.Prelude.{Contains, IfSome}
use Rattle.fedrun_lint_schedule.proofs.names.meant_name.Given as goal

abbrev pub invariant-loop-name : goal.invariant-loop-name
invariant-loop-name l = IfSome l.meant (Contains l.names)
