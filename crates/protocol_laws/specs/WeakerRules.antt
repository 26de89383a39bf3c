-- Weaker rules, by which a grant comes too early; and three reactors in a line, on which each of them lets a message
-- come too late.
use Rattle.std.specs.Prelude.{ℕ, zero, suc, Bool, true, false, ◌&&◌, ◌||◌, nat_eq, if◌then◌else◌, List, [], ◌∷◌, Option}
use Rattle.std.specs.Prelude.{None, Some, pos}
use Rattle.std.specs.List.{list_all}
use Rattle.tag.specs.LogicalTime.{LogicalTime, is_before, is_at_most, sum_of, is_past}
use Rattle.network.specs.Event.{Event, outside}
use Rattle.network.specs.Network.{Network}
use Rattle.network.specs.Examples.{at}
use Rattle.network.specs.Tables.{Table}
use Rattle.protocol.specs.Outcome.{Outcome}
use Rattle.protocol.specs.FederateRecord.{FederateRecord}
use Rattle.protocol.specs.Grant.{Rule, all_below, passes_paths, passes_connections}
use Rattle.protocol.specs.Machine.{Member, Move, ToCoordinator, ToFederate, Announce, Advance, outcome_of, after_moves}
use Rattle.protocol_laws.specs.Ring.{ring_effect}

-- next tags that pass this test
abbrev pub grant_by : Network → ((ℕ → FederateRecord) → ℕ → LogicalTime → Bool) → Rule
grant_by n passes federate_records j =
    if (federate_records j).announced && is_past (federate_records j).granted (federate_records j).next
    && is_at_most (federate_records j).next n.stop &&
    passes federate_records j (federate_records j).next
    then Some (federate_records j).next
    else None

-- at or below what comes this delay after the last LTC, in place of below what comes after its successor
abbrev pub is_reached_from : Option LogicalTime → LogicalTime → LogicalTime → Bool
is_reached_from None delay tag = false
is_reached_from (Some completed) delay tag = is_at_most tag (sum_of completed delay)

abbrev pub passes_last_ltcs : Network → (ℕ → FederateRecord) → ℕ → LogicalTime → Bool
passes_last_ltcs n federate_records j tag =
    list_all (λ c. if nat_eq c.target j then is_reached_from (federate_records c.source).completed c.delay tag
    else true) n.connections

-- at or below what comes from the next tags, in place of below it
abbrev pub is_at_most_arrival : LogicalTime → LogicalTime → Option LogicalTime → Bool
is_at_most_arrival tag next None = true
is_at_most_arrival tag next (Some delay) = is_at_most tag (sum_of next delay)

abbrev pub passes_equal_paths : Network → Table → (ℕ → FederateRecord) → ℕ → LogicalTime → Bool
passes_equal_paths n table federate_records j tag =
    all_below n.reactors (λ i. is_at_most_arrival tag (federate_records i).next (table i j))

-- below what comes from the next tags of those with a direct connection alone
abbrev pub passes_direct : Network → (ℕ → FederateRecord) → ℕ → LogicalTime → Bool
passes_direct n federate_records j tag =
    list_all (λ c. if nat_eq c.target j then is_before tag (sum_of (federate_records c.source).next c.delay)
    else true) n.connections

-- 0 to 1 with this delay, 1 to 2 without
abbrev pub line : LogicalTime → List Event → Network
line delay external =
    record {
      reactors = 3;
      slots = λ reactor. 2;
      ports = λ reactor. 1;
      connections =
          record { source = 0; port = 0; target = 1; slot = 0; delay = delay } ∷
          record { source = 1; port = 0; target = 2; slot = 0; delay = at 0 0 } ∷ [];
      rank = λ reactor. reactor;
      stop = at 10 0;
      external = external;
      initial = λ reactor. pos 0 ∷ [];
      effect = ring_effect;
    }

-- two events of reactor 0, a microstep apart, and 10 ns to reactor 1
abbrev pub two_microsteps : Network
two_microsteps = line (at 10 0) (outside (at 0 0) 0 1 (pos 0) ∷ outside (at 0 1) 0 1 (pos 0) ∷ [])

-- reactors 0 and 1 begin at one tag
abbrev pub one_tag : Network
one_tag = line (at 0 0) (outside (at 0 0) 0 1 (pos 0) ∷ outside (at 0 0) 1 1 (pos 0) ∷ [])

-- the first and the last have an event at one tag, the one between them has none
abbrev pub both_ends : Network
both_ends = line (at 0 0) (outside (at 10 0) 0 1 (pos 0) ∷ outside (at 10 0) 2 1 (pos 0) ∷ [])

-- the delays along the line
abbrev pub line_table : LogicalTime → Table
line_table delay zero (suc zero) = Some delay
line_table delay zero (suc (suc zero)) = Some delay
line_table delay (suc zero) (suc (suc zero)) = Some (at 0 0)
line_table delay i j = None

-- the first rule: by paths, or by last LTCs
abbrev pub by_last_ltcs : Rule
by_last_ltcs =
    grant_by two_microsteps
    (λ federate_records j tag. passes_paths two_microsteps (line_table (at 10 0)) federate_records j tag
    || passes_last_ltcs two_microsteps federate_records j tag)

-- the second: by equal paths, or by connections
abbrev pub by_equal_paths : Rule
by_equal_paths =
    grant_by one_tag
    (λ federate_records j tag. passes_equal_paths one_tag (line_table (at 0 0)) federate_records j tag
    || passes_connections one_tag federate_records j tag)

-- the third: by next tags over direct connections, or by connections
abbrev pub by_direct : Rule
by_direct =
    grant_by both_ends (λ federate_records j tag. passes_direct both_ends federate_records j tag
    || passes_connections both_ends federate_records j tag)

-- all three announce
abbrev pub announce_all : List Move
announce_all = ToCoordinator 0 ∷ Announce 0 ∷ ToCoordinator 2 ∷ Announce 2 ∷ ToCoordinator 1 ∷ Announce 1 ∷ []

-- how the coordinator takes a signal of federate i after these moves
unfoldable pub next_taken : Network → Rule → List Move → ℕ → Outcome (ℕ → Member)
next_taken n rule moves i = outcome_of n rule (after_moves n (λ move. rule) moves) (ToCoordinator i)

-- reactor 0 runs both microsteps; its message of the second is still to be taken
abbrev pub both_microsteps : List Move
both_microsteps =
    Advance 0 ∷ ToFederate 0 ∷ ToCoordinator 0 ∷ Announce 0 ∷ ToCoordinator 0 ∷ ToCoordinator 0 ∷ Advance 0
    ∷ ToFederate 0 ∷ announce_all

-- reactor 0 runs its tag; its message is still to be taken
abbrev pub first_turn : List Move
first_turn = Advance 0 ∷ ToFederate 0 ∷ announce_all

-- reactor 0 runs its tag, then reactor 1, whose message is still to be taken
abbrev pub second_turn : List Move
second_turn = Advance 1 ∷ ToFederate 1 ∷ ToFederate 1 ∷ ToCoordinator 0 ∷ ToCoordinator 0 ∷ first_turn
