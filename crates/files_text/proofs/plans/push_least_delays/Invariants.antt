use Rattle.std.proofs.Common.{◌≡◌, ◌++◌, length}
use Rattle.std.specs.Prelude.{string_bytes}
use Rattle.files_text.specs.PlanText.{printed_least, printed_each}
use Rattle.files_text.proofs.plans.push_least_delays.Given as goal

abbrev pub invariant-loop-from : goal.invariant-loop-from
invariant-loop-from l =
    string_bytes l.text ≡ string_bytes l.initial.text ++ printed_each (λ i. printed_each (printed_least l.plan i) (length l.plan.federates)) l.from
