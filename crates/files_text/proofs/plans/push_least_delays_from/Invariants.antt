use Rattle.std.proofs.Common.{◌≡◌, ◌++◌}
use Rattle.std.specs.Prelude.{string_bytes}
use Rattle.files_text.specs.PlanText.{printed_least, printed_each}
use Rattle.files_text.proofs.plans.push_least_delays_from.Given as goal

abbrev pub invariant-loop-to : goal.invariant-loop-to
invariant-loop-to l = string_bytes l.text ≡ string_bytes l.initial.text ++ printed_each (printed_least l.plan l.from) l.to
