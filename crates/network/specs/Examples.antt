-- Two inputs that meet: a gateway's messages of (0, 2^32 - 1) and of (1 ns, 0), each a microstep later, arrive at (1
-- ns, 0) and at (1 ns, 1), since the first one's microstep carries.
use Rattle.std.specs.Prelude.{ℕ, ℤ, pos, List, [], ◌∷◌, Option, None, nat_eq, if◌then◌else◌}
use Rattle.tag.specs.LogicalTime.{LogicalTime, one_microstep}
use Rattle.network.specs.Event.{Entry, outside}
use Rattle.network.specs.Network.{Network, Effect}
use Rattle.network.specs.Undivided.{Row}

-- a tag
abbrev pub at : ℕ → ℕ → LogicalTime
at time microstep = record { time = time; microstep = microstep }

-- the gateway hands on what comes from outside at its slot 1; the other reactor does nothing
abbrev pub gateway_effect : ℕ → List ℤ → (ℕ → Option ℤ) → Effect
gateway_effect reactor states inputs =
    record { states = []; outputs = λ port. if nat_eq reactor 0 then inputs 1 else None; schedulings = [] }

abbrev pub gateway : Network
gateway =
    record {
      reactors = 2;
      slots = λ reactor. if nat_eq reactor 0 then 2 else 3;
      ports = λ reactor. if nat_eq reactor 0 then 1 else 0;
      connections = record { source = 0; port = 0; target = 1; slot = 1; delay = one_microstep } ∷ [];
      rank = λ reactor. reactor;
      stop = at 10000000 0;
      external =
          outside (at 10000000 0) 1 2 (pos 0) ∷ outside (at 0 4294967295) 0 1 (pos 1)
          ∷ outside (at 1 0) 0 1 (pos 2) ∷ [];
      initial = λ reactor. [];
      effect = gateway_effect;
    }

abbrev pub row_of : ℕ → LogicalTime → List Entry → List Entry → Row
row_of reactor tag inputs outputs = record { reactor = reactor; tag = tag; inputs = inputs; outputs = outputs }

abbrev pub entry : ℕ → ℤ → Entry
entry place value = record { place = place; value = value }

-- the rows of the gateway and of the reactor behind it
abbrev pub gateway_rows : List Row
gateway_rows =
    row_of 0 (at 0 4294967295) (entry 1 (pos 1) ∷ []) (entry 0 (pos 1) ∷ []) ∷
    row_of 0 (at 1 0) (entry 1 (pos 2) ∷ []) (entry 0 (pos 2) ∷ []) ∷
    row_of 1 (at 1 0) (entry 1 (pos 1) ∷ []) [] ∷
    row_of 1 (at 1 1) (entry 1 (pos 2) ∷ []) [] ∷
    row_of 1 (at 10000000 0) (entry 2 (pos 0) ∷ []) [] ∷ []
