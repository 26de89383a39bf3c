-- The network of a federation: its plan, a program for each federate, and recorded inputs.
use Rattle.std.specs.Prelude.{ℕ, ℤ, List, [], length, slice_get, Option, None, Some}
use Rattle.network.specs.Network.{Network, Effect}
use Rattle.plan.specs.declared.draft.Federate.{Federate}
use Rattle.plan.specs.declared.draft.Draft.{Draft}
use Rattle.plan.specs.declared.input.Input.{Input}
use Rattle.plan_slots.specs.Numbering.{slot_count}
use Rattle.plan.specs.Federation.{federate_count, connections_of, rank_of, stop_of}
use Rattle.plan.specs.External.{external_of}
use Rattle.reactor_program.specs.Behaviour.{Behaviour}
use Rattle.reactor.specs.Effect.{effect_of, effect_before, initial_states}

-- a federate's number of slots
abbrev pub slots_of : Option Federate → ℕ
slots_of None = 0
slots_of (Some f) = slot_count f.slots

-- a federate's number of output ports
abbrev pub ports_of : Option Federate → ℕ
ports_of None = 0
ports_of (Some f) = length f.slots.outputs

-- the states at first of the reactor with this program
abbrev pub initial_by : Option Behaviour → List ℤ
initial_by None = []
initial_by (Some b) = initial_states b

-- the effect of a turn of the reactor with this program
abbrev pub effect_by : Option Behaviour → List ℤ → (ℕ → Option ℤ) → Effect
effect_by None states present = effect_before states
effect_by (Some b) states present = effect_of b states present

-- the network of a federation with the programs of its federates, in their order, and recorded inputs
abbrev pub network_of : Draft → List Behaviour → List Input → Network
network_of d programs inputs =
    record {
      reactors = federate_count d;
      slots = λ j. slots_of (slice_get d.federates j);
      ports = λ j. ports_of (slice_get d.federates j);
      connections = connections_of d;
      rank = rank_of d;
      stop = stop_of d;
      external = external_of d inputs;
      initial = λ j. initial_by (slice_get programs j);
      effect = λ j. effect_by (slice_get programs j);
    }
