-- All federates, the coordinator, and the queues between them.
use Rattle.std.specs.Prelude.{ℕ, Bool, true, false, nat_eq, if◌then◌else◌, List, [], ◌∷◌, ◌++◌, length, map, filter}
use Rattle.network.specs.Network.{Network, with_one}
use Rattle.signal.specs.declared.signal.Signal.{Signal}
use Rattle.protocol.specs.Outcome.{Outcome, Nothing, Done, made_or, with_made}
use Rattle.protocol.specs.Federate.{Federate, Stepped, initial_federate, federate_accepts, federate_announces}
use Rattle.protocol.specs.Federate.{federate_advances}
use Rattle.protocol.specs.FederateRecord.{FederateRecord, initial_federate_record}
use Rattle.protocol.specs.declared.post.Post.{Post}
use Rattle.protocol.specs.Coordinator.{Coordinated, coordinator_accepts}
use Rattle.protocol.specs.Grant.{Rule}

-- one federate, its record with the coordinator, and what was offered and not yet taken, oldest first: up, of what it
-- sends, and down, of what is sent to it. A lost federate does nothing more
pub record Member : Type 0 where
  pub federate_record : FederateRecord
  pub federate : Federate
  pub up : List Signal
  pub down : List Signal
  pub lost : Bool

-- what may happen next: the coordinator takes a federate's oldest signal, the federate takes its oldest, announces,
-- advances, is lost. Moves of numbers that no federate has may happen too, and the laws hold of them
pub data Move : Type 0 where
  ToCoordinator : (from : ℕ) → Move
  ToFederate : (to : ℕ) → Move
  Announce : (by : ℕ) → Move
  Advance : (by : ℕ) → Move
  Lose : (which : ℕ) → Move

abbrev pub initial_member : Network → ℕ → Member
initial_member n j =
    record {
      federate_record = initial_federate_record;
      federate = initial_federate n j;
      up = [];
      down = [];
      lost = false;
    }

-- with one member replaced
abbrev pub with_member : (ℕ → Member) → ℕ → Member → ℕ → Member
with_member members i mine = with_one members i mine

-- all records
abbrev pub federate_records_of : (ℕ → Member) → ℕ → FederateRecord
federate_records_of members j = (members j).federate_record

-- what is sent to one federate
abbrev pub sent_to : ℕ → List Post → List Signal
sent_to j posts = map (λ p. p.signal) (filter (λ p. nat_eq j p.peer) posts)

-- a member after a step of the coordinator
abbrev pub coordinated : Coordinated → ℕ → Member → Member
coordinated made j m = record m { federate_record = made.after j; down = m.down ++ sent_to j made.sent }

-- the coordinator takes the oldest signal of federate i
abbrev pub coordinator_takes_from : Network → Rule → (ℕ → Member) → ℕ → List Signal → Outcome (ℕ → Member)
coordinator_takes_from n rule members i [] = Nothing
coordinator_takes_from n rule members i (signal ∷ rest) =
    with_made (λ made. λ j. coordinated made j (with_member members i (record (members i) { up = rest }) j))
    (coordinator_accepts n rule (federate_records_of members) i signal)

-- a member after a step of its federate, with this left to take
abbrev pub stepped : Member → List Signal → Stepped → Member
stepped m rest made = record m { federate = made.after; up = m.up ++ made.sent; down = rest }

-- federate i takes its oldest signal
abbrev pub federate_takes_from : Network → ℕ → Member → List Signal → Outcome Member
federate_takes_from n i m [] = Nothing
federate_takes_from n i m (signal ∷ rest) = with_made (stepped m rest) (federate_accepts n i m.federate signal)

-- what a federate does, unless it is lost
abbrev pub unless_lost : (ℕ → Member) → ℕ → Outcome Member → Outcome (ℕ → Member)
unless_lost members i outcome = if (members i).lost then Nothing else with_made (with_member members i) outcome

-- how a move ends
abbrev pub outcome_of : Network → Rule → (ℕ → Member) → Move → Outcome (ℕ → Member)
outcome_of n rule members (ToCoordinator i) = coordinator_takes_from n rule members i (members i).up
outcome_of n rule members (ToFederate i) = unless_lost members i (federate_takes_from n i (members i) (members i).down)
outcome_of n rule members (Announce i) =
    unless_lost members i (with_made (stepped (members i) (members i).down) (federate_announces (members i).federate))
outcome_of n rule members (Advance i) =
    unless_lost members i (with_made (stepped (members i) (members i).down)
    (federate_advances n i (members i).federate))
outcome_of n rule members (Lose i) = Done (with_member members i (record (members i) { lost = true }))

-- after these moves, listed newest first. The rule may be another at each move: it goes by how many there were before
abbrev pub after_moves : Network → (ℕ → Rule) → List Move → ℕ → Member
after_moves n rules [] = initial_member n
after_moves n rules (move ∷ earlier) =
    made_or (after_moves n rules earlier) (outcome_of n (rules (length earlier)) (after_moves n rules earlier) move)
