-- Agendas before the first turn.
use Rattle.std.specs.Prelude.{◌≡◌, ℕ, List, length, slice_get, Some}
use Rattle.tag.specs.LogicalTime.{LogicalTime}
use Rattle.network.specs.Undone.{look}
use Rattle.plan.specs.declared.draft.Draft.{Draft}
use Rattle.plan.specs.declared.input.Input.{Input}
use Rattle.plan.specs.Federation.{federate_count, stop_of}
use Rattle.reactor_agenda.specs.Agenda.{Agenda}
use Rattle.whole.specs.Agendas.{initial_undone, IsAgendaUpTo}

-- the agenda of a federate, with these recorded inputs
pub record IsOpenWith (d : Draft) (inputs : List Input) (federate : ℕ) (a : Agenda) : Type 0 where
  pub up_to : IsAgendaUpTo (stop_of d) a
  pub undone : (tag : LogicalTime) (slot : ℕ)
      → look a.undone tag slot ≡ look (initial_undone d inputs federate) tag slot

-- an agenda for each federate, with these recorded inputs
pub record AreOpenWith (d : Draft) (inputs : List Input) (agendas : List Agenda) : Type 0 where
  pub count : length agendas ≡ federate_count d
  pub each : (federate : ℕ) (a : Agenda) → slice_get agendas federate ≡ Some a → IsOpenWith d inputs federate a
