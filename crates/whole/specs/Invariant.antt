-- What an undivided program keeps, as code: reactors, what is undone, and rows are those after its turns.
use Rattle.std.specs.Prelude.{◌≡◌, ℕ, ◌+◌, ◌<◌, ◌≤◌, ◌^◌, ℤ, List, [], ◌++◌, length, map, slice_get, Option, None, Some}
use Rattle.std.specs.Option.{option_map}
use Rattle.tag.specs.LogicalTime.{LogicalTime}
use Rattle.network.specs.Event.{present_at}
use Rattle.network.specs.Lawful.{IsLawful}
use Rattle.network.specs.Undone.{look}
use Rattle.network.specs.Undivided.{Undivided, Row, undivided_after}
use Rattle.plan.specs.declared.draft.Draft.{Draft}
use Rattle.plan.specs.declared.input.Input.{Input}
use Rattle.plan.specs.Federation.{federate_count}
use Rattle.reactor_program.specs.Behaviour.{Behaviour}
use Rattle.reactor_programs.specs.Programs.{HaveSlotsOf}
use Rattle.plan_network.specs.Network.{network_of}
use Rattle.reactor.specs.Turn.{Reactor}
use Rattle.whole.specs.Agendas.{Agendas, undone_of}

-- a reactor's states, if it is there
abbrev pub states_of : Option Reactor → List ℤ
states_of None = []
states_of (Some r) = r.states

-- the states of reactors, by number
abbrev pub states_in : List Reactor → ℕ → List ℤ
states_in reactors j = states_of (slice_get reactors j)

-- the programs of reactors, by number
abbrev pub programs_in : List Reactor → List Behaviour
programs_in reactors = map (λ r. r.behaviour) reactors

-- what is undone of each federate is what is pending for it: the same is found for each slot at each tag
abbrev pub HoldsPending : Draft → Agendas → Undivided → Type 0
HoldsPending d s u =
    (federate : ℕ) (tag : LogicalTime) (slot : ℕ) → federate < federate_count d
    → look (undone_of s federate) tag slot ≡ present_at u.pending federate tag slot

-- reactors, what is undone, and rows are those after as many turns as there are rows and rows let go
pub record IsAfterTurns (d : Draft) (inputs : List Input) (reactors : List Reactor) (agendas : Agendas)
    (discarded : ℕ) (rows : List Row) : Type 0 where
  pub programs : HaveSlotsOf d.federates (programs_in reactors)
  pub lawful : IsLawful (network_of d (programs_in reactors) inputs)
  pub draft : agendas.draft ≡ d
  pub discard : List Row
  pub as_many : length discard ≡ discarded
  pub states : (undivided_after (network_of d (programs_in reactors) inputs) (discarded + length rows)).states
      ≡ states_in reactors
  pub all_rows : (undivided_after (network_of d (programs_in reactors) inputs) (discarded + length rows)).rows
      ≡ discard ++ rows
  pub pending : HoldsPending d agendas
      (undivided_after (network_of d (programs_in reactors) inputs) (discarded + length rows))
  -- at most 2^6 federates and 2^94 tags, and one turn for each: so the count fits in u128
  pub few : discarded + length rows ≤ 2 ^ 100

-- the reactor's slots are those of the federate of this number
abbrev pub HasSlotsOf : Draft → ℕ → Reactor → Type 0
HasSlotsOf d federate r = option_map (λ f. f.slots) (slice_get d.federates federate) ≡ Some r.behaviour.slots
