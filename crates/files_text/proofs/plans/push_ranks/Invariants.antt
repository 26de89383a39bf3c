use Rattle.std.proofs.Common.{◌≡◌, ◌++◌}
use Rattle.std.specs.Prelude.{string_bytes}
use Rattle.files_text.specs.PlanText.{printed_rank, printed_each}
use Rattle.files_text.proofs.plans.push_ranks.Given as goal

abbrev pub invariant-loop-federate : goal.invariant-loop-federate
invariant-loop-federate l = string_bytes l.text ≡ string_bytes l.initial.text ++ printed_each (printed_rank l.plan) l.federate
