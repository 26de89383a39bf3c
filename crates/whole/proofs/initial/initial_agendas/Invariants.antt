use Rattle.std.proofs.Common.{◌≡◌, ℕ, length, [], Some, slice_get}
use Rattle.reactor_agenda.specs.Agenda.{Agenda}
use Rattle.whole.specs.Initial.{IsOpenWith}
use Rattle.whole.proofs.initial.initial_agendas.Given as goal

abbrev pub invariant-loop-federate : goal.invariant-loop-federate
invariant-loop-federate l =
    (length l.agendas.items ≡ l.federate-index) ×
    ((federate : ℕ) (a : Agenda) → slice_get l.agendas.items federate ≡ Some a → IsOpenWith l.plan [] federate a)
