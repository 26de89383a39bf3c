-- Three reactors in a ring: 0 to 1 and 1 to 2 without delay, 2 to 0 with 5 ns. From outside come (0, 0) and (5 ns, 0)
-- at reactor 0, the second together with what comes round. Each hands on one more than it gets.
use Rattle.std.specs.Prelude.{ℕ, zero, suc, ℤ, pos, ◌+ℤ◌, List, [], ◌∷◌, ◌++◌, Option, None, Some, unwrap_or}
use Rattle.network.specs.Network.{Network, Effect}
use Rattle.network.specs.Examples.{at}
use Rattle.network.specs.Tables.{Table}
use Rattle.network.specs.Event.{outside}
use Rattle.protocol.specs.Examples.{first_of}
use Rattle.protocol.specs.Grant.{grant_next}
use Rattle.protocol.specs.Machine.{Move, ToCoordinator, ToFederate, Announce, Advance, Member, after_moves}

-- it counts its turns, and hands on one more than it gets
abbrev pub ring_effect : ℕ → List ℤ → (ℕ → Option ℤ) → Effect
ring_effect reactor states inputs =
    record {
      states = (first_of states +ℤ pos 1) ∷ [];
      outputs = λ port. Some (unwrap_or (inputs 0) (pos 0) +ℤ pos 1);
      schedulings = [];
    }

abbrev pub ring : Network
ring =
    record {
      reactors = 3;
      slots = λ reactor. 2;
      ports = λ reactor. 1;
      connections =
          record { source = 0; port = 0; target = 1; slot = 0; delay = at 0 0 } ∷
          record { source = 1; port = 0; target = 2; slot = 0; delay = at 0 0 } ∷
          record { source = 2; port = 0; target = 0; slot = 0; delay = at 5 0 } ∷ [];
      rank = λ reactor. reactor;
      stop = at 10 0;
      external = outside (at 0 0) 0 1 (pos 0) ∷ outside (at 5 0) 0 1 (pos 0) ∷ [];
      initial = λ reactor. pos 0 ∷ [];
      effect = ring_effect;
    }

-- up the ring there is no delay, round it there are 5 ns
abbrev pub ring_table : Table
ring_table zero zero = Some (at 5 0)
ring_table zero (suc zero) = Some (at 0 0)
ring_table zero (suc (suc zero)) = Some (at 0 0)
ring_table (suc zero) zero = Some (at 5 0)
ring_table (suc zero) (suc zero) = Some (at 5 0)
ring_table (suc zero) (suc (suc zero)) = Some (at 0 0)
ring_table (suc (suc zero)) zero = Some (at 5 0)
ring_table (suc (suc zero)) (suc zero) = Some (at 5 0)
ring_table (suc (suc zero)) (suc (suc zero)) = Some (at 5 0)
ring_table i j = None

-- a federate announces, both sides take what there is, and it advances
abbrev pub turn_moves : ℕ → List Move
turn_moves i =
    ToCoordinator i ∷ ToCoordinator i ∷ Advance i ∷ ToFederate i ∷ ToFederate i ∷ ToCoordinator i ∷ Announce i ∷ []

-- that of each federate, this many times
abbrev pub round_moves : ℕ → List Move
round_moves zero = []
round_moves (suc rounds) = turn_moves 2 ++ turn_moves 1 ++ turn_moves 0 ++ round_moves rounds

-- its members after these moves, of which the first in the list is the newest
unfoldable pub ring_after : List Move → ℕ → Member
ring_after = after_moves ring (λ move. grant_next ring ring_table)

-- reactor 1 has announced, and then reactor 0 runs (0, 0)
abbrev pub first_moves : List Move
first_moves = turn_moves 0 ++ ToCoordinator 1 ∷ Announce 1 ∷ []

-- eight rounds
abbrev pub all_moves : List Move
all_moves = round_moves 8
