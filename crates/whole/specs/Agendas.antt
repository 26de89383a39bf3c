-- What is undone of each federate, and when each is next.
use Rattle.std.specs.Prelude.{◌≡◌, ℕ, ◌<◌, ℤ, false, ◌&&◌, not, nat_eq, nat_lt, if◌then◌else◌, List, [], map, filter}
use Rattle.std.specs.Prelude.{length, slice_get, Option, None, Some}
use Rattle.tag.specs.LogicalTime.{LogicalTime, is_before}
use Rattle.network.specs.Connection.{Connection}
use Rattle.network.specs.Undivided.{comes_before}
use Rattle.network.specs.Undone.{PendingEvent, look, put_all, pending_event_of}
use Rattle.plan.specs.declared.draft.Draft.{Draft}
use Rattle.plan.specs.declared.input.Input.{Input}
use Rattle.plan.specs.External.{external_of, is_for}
use Rattle.plan.specs.Federation.{federate_count, connections_of, rank_of, stop_of}
use Rattle.reactor_agenda.specs.Agenda.{Agenda, IsAgenda, in_time}
use Rattle.whole.specs.declared.nexts.Next.{Next}
use Rattle.whole.specs.Targets.{between, targets_below}
use Rattle.whole.specs.Construction.{TurnMade, put_to, least_on}

-- of a federation, what is undone of each federate
pub record Agendas : Type 0 where
  pub draft : Draft
  pub undone : List (List PendingEvent)

-- a list, if it is there
abbrev pub list_or_empty : Option (List PendingEvent) → List PendingEvent
list_or_empty None = []
list_or_empty (Some undone) = undone

-- what is undone of one federate
abbrev pub undone_of : Agendas → ℕ → List PendingEvent
undone_of s federate = list_or_empty (slice_get s.undone federate)

-- what comes to a federate from outside, up to stop
abbrev pub initial_undone : Draft → List Input → ℕ → List PendingEvent
initial_undone d inputs federate = put_all (map pending_event_of (filter (is_for federate) (external_of d inputs))) []

-- something is present for the federate at the tag, and nothing for an earlier turn
pub record IsDueFirst (s : Agendas) (federate : ℕ) (tag : LogicalTime) : Type 0 where
  pub there : federate < federate_count s.draft
  pub something : (slot : ℕ) × (value : ℤ) × (look (undone_of s federate) tag slot ≡ Some value)
  pub first : (other : ℕ) (earlier : LogicalTime) (slot : ℕ) (value : ℤ) → other < federate_count s.draft
      → look (undone_of s other) earlier slot ≡ Some value →
      comes_before (rank_of s.draft) other earlier federate tag ≡ false

-- nothing is undone
abbrev pub IsDone : Agendas → Type 0
IsDone s = (federate : ℕ) (tag : LogicalTime) (slot : ℕ) → look (undone_of s federate) tag slot ≡ None

-- which turn is first, if anything is undone
abbrev pub IsFirstDue : Agendas → Option Next → Type 0
IsFirstDue s None = IsDone s
IsFirstDue s (Some next) = IsDueFirst s next.federate next.tag

-- what is found after a turn. Its own federate has nothing left up to its tag. Elsewhere an event that the turn made
-- replaces an older one
abbrev pub found_after : TurnMade → Draft → List PendingEvent → ℕ → LogicalTime → ℕ → Option ℤ
found_after t d undone federate tag slot =
    if nat_eq federate t.federate && not (is_before t.tag tag) then None
    else look (put_all (in_time (stop_of d) (put_to t (federate, between t.federate federate (connections_of d))))
    undone) tag slot

pub record IsAfterTurn (t : TurnMade) (old new : Agendas) : Type 0 where
  pub draft : new.draft ≡ old.draft
  pub undone : (federate : ℕ) (tag : LogicalTime) (slot : ℕ) → federate < federate_count old.draft →
      look (undone_of new federate) tag slot ≡ found_after t old.draft (undone_of old federate) federate tag slot

-- when a federate is next
abbrev pub next_on : Draft → List Agenda → ℕ → Next
next_on d agendas federate =
    record { federate = federate; tag = least_on (slice_get agendas federate); rank = rank_of d federate }

-- the agenda is of this stop, and keeps what every agenda keeps
pub record IsAgendaUpTo (stop : LogicalTime) (a : Agenda) : Type 0 where
  pub up_to : a.stop ≡ stop
  pub agenda : IsAgenda a

-- a value for each federate
abbrev pub for_each : {A : Type 0} → Draft → (ℕ → A) → ℕ → Option A
for_each d value federate = if nat_lt federate (federate_count d) then Some (value federate) else None

-- an agenda for each federate, when each is next, and the targets of each
pub record AreAgendas (d : Draft) (agendas : List Agenda) (nexts : List Next)
    (targets : List (List (ℕ × List Connection))) : Type 0 where
  pub count : length agendas ≡ federate_count d
  pub each : (federate : ℕ) (a : Agenda) → slice_get agendas federate ≡ Some a → IsAgendaUpTo (stop_of d) a
  pub next : (federate : ℕ) → slice_get nexts federate ≡ for_each d (next_on d agendas) federate
  pub wired : (federate : ℕ) → slice_get targets federate
      ≡ for_each d (λ f. targets_below (connections_of d) f (federate_count d)) federate
