-- A counter and a sum: `counter` sends 1, 2, 3 at (0, 0), (10 ms, 0), (20 ms, 0), over a zero-delay connection.
use Rattle.std.specs.Prelude.{ℕ, ℤ, pos, ◌+ℤ◌, List, [], ◌∷◌, Option, None, Some, nat_eq, if◌then◌else◌, unwrap_or}
use Rattle.tag.specs.LogicalTime.{origin}
use Rattle.network.specs.Network.{Network, Effect}
use Rattle.network.specs.Undivided.{Row}
use Rattle.network.specs.Examples.{at, row_of, entry}
use Rattle.network.specs.Tables.{Table}
use Rattle.network.specs.Event.{outside}
use Rattle.protocol.specs.Grant.{grant_next}
use Rattle.protocol.specs.Machine.{Move, ToCoordinator, ToFederate, Announce, Advance, Member, after_moves}

-- the first state of a list, or 0
abbrev pub first_of : List ℤ → ℤ
first_of [] = pos 0
first_of (x ∷ rest) = x

-- reactor 0 counts and sends the count; reactor 1 adds what comes to its sum
abbrev pub counter_effect : ℕ → List ℤ → (ℕ → Option ℤ) → Effect
counter_effect reactor states inputs =
    if nat_eq reactor 0
    then record {
      states = (first_of states +ℤ pos 1)
          ∷ [];
      outputs = λ port. Some (first_of states +ℤ pos 1);
      schedulings = [];
    }
    else record {
      states = (first_of states +ℤ unwrap_or (inputs 0) (pos 0))
          ∷ [];
      outputs = λ port. None;
      schedulings = [];
    }

abbrev pub counter : Network
counter =
    record {
      reactors = 2;
      slots = λ reactor. 1;
      ports = λ reactor. if nat_eq reactor 0 then 1 else 0;
      connections = record { source = 0; port = 0; target = 1; slot = 0; delay = origin } ∷ [];
      rank = λ reactor. reactor;
      stop = at 20000000 0;
      external =
          outside (at 0 0) 0 0 (pos 0) ∷ outside (at 10000000 0) 0 0 (pos 0) ∷ outside (at 20000000 0) 0 0 (pos 0) ∷ [];
      initial = λ reactor. pos 0 ∷ [];
      effect = counter_effect;
    }

-- the one path is the connection
abbrev pub counter_table : Table
counter_table i j = if nat_eq i 0 then (if nat_eq j 1 then Some origin else None) else None

-- after moves that are given oldest first
abbrev pub moved_by : List Move → List Move → ℕ → Member
moved_by earlier [] = after_moves counter (λ number. grant_next counter counter_table) earlier
moved_by earlier (move ∷ rest) = moved_by (move ∷ earlier) rest

-- both announce, and the coordinator takes both NETs
abbrev pub announced : ℕ → Member
announced = moved_by [] (Announce 0 ∷ Announce 1 ∷ ToCoordinator 1 ∷ ToCoordinator 0 ∷ [])

-- then the counter runs (0, 0), and the coordinator takes its message
abbrev pub routed : ℕ → Member
routed =
    moved_by [] (Announce 0 ∷ Announce 1 ∷ ToCoordinator 1 ∷ ToCoordinator 0 ∷ ToFederate 0 ∷ Advance 0
    ∷ ToCoordinator 0 ∷ [])

-- then also its LTC
abbrev pub counted : ℕ → Member
counted =
    moved_by []
    (Announce 0 ∷ Announce 1 ∷ ToCoordinator 1 ∷ ToCoordinator 0 ∷ ToFederate 0 ∷ Advance 0 ∷ ToCoordinator 0
    ∷ ToCoordinator 0 ∷ [])

-- then the sum runs (0, 0)
abbrev pub summed : ℕ → Member
summed =
    moved_by []
    (Announce 0 ∷ Announce 1 ∷ ToCoordinator 1 ∷ ToCoordinator 0 ∷ ToFederate 0 ∷ Advance 0 ∷ ToCoordinator 0 ∷
    ToCoordinator 0 ∷ ToFederate 1 ∷ ToFederate 1 ∷ Advance 1 ∷ [])

-- its first row
abbrev pub first_sum : List Row
first_sum = row_of 1 (at 0 0) (entry 0 (pos 1) ∷ []) [] ∷ []
