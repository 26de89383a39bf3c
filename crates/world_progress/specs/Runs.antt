-- Runs in which nobody is lost, by rules that grant sparingly: how many of their moves do something, how many signals
-- they send, and where they end.
use Rattle.std.specs.Prelude.{◌≡◌, ℕ, ◌+◌, ◌<◌, ◌≤◌, ◌++◌, Bool, true, false, IsTrue, if◌then◌else◌, List, [], ◌∷◌}
use Rattle.std.specs.Prelude.{length, Some}
use Rattle.tag.specs.LogicalTime.{LogicalTime, IsLogicalTime, is_at_most, is_past}
use Rattle.network.specs.Network.{Network}
use Rattle.protocol.specs.Outcome.{Outcome, Refused, Nothing, Done}
use Rattle.protocol.specs.FederateRecord.{FederateRecord}
use Rattle.protocol.specs.Grant.{Rule}
use Rattle.protocol.specs.Machine.{Member, Move, ToCoordinator, ToFederate, Announce, Advance, Lose, outcome_of}
use Rattle.protocol.specs.Machine.{after_moves}
use Rattle.protocol_laws.specs.Runs.{IsStuck}
use Rattle.world_progress.specs.Fuel.{sum_below}

-- a rule that grants nothing to a federate whose next tag is granted already, and never less than the next tag
abbrev pub IsSparing : Rule → Type 0
IsSparing rule =
    (federate_records : ℕ → FederateRecord) → ((i : ℕ) → IsLogicalTime (federate_records i).next)
    → (j : ℕ) (tag : LogicalTime) → rule federate_records j ≡ Some tag →
    IsTrue (is_past (federate_records j).granted (federate_records j).next)
    × IsTrue (is_at_most (federate_records j).next tag)

-- a move of a federate that is there, and none by which one is lost
abbrev pub IsOfMember : Network → Move → Type 0
IsOfMember n (ToCoordinator i) = i < n.reactors
IsOfMember n (ToFederate i) = i < n.reactors
IsOfMember n (Announce i) = i < n.reactors
IsOfMember n (Advance i) = i < n.reactors
IsOfMember n (Lose i) = ⊥

-- each of these moves is such a one
abbrev pub AreOfMembers : Network → List Move → Type 0
AreOfMembers n [] = Unit {0}
AreOfMembers n (move ∷ earlier) = IsOfMember n move × AreOfMembers n earlier

-- how many signals a move takes, if it does something
abbrev pub takes : Move → ℕ
takes (ToCoordinator i) = 1
takes (ToFederate i) = 1
takes (Announce i) = 0
takes (Advance i) = 0
takes (Lose i) = 0

-- something was done
abbrev pub is_done : {A : Type 0} → Outcome A → Bool
is_done (Refused refusal) = false
is_done Nothing = false
is_done (Done made) = true

-- how a move ends after these moves, listed newest first
abbrev pub outcome_after : Network → (ℕ → Rule) → List Move → Move → Outcome (ℕ → Member)
outcome_after n rules moves move = outcome_of n (rules (length moves)) (after_moves n rules moves) move

-- how many of these moves, listed newest first, did something
abbrev pub count_done : Network → (ℕ → Rule) → List Move → ℕ
count_done n rules [] = 0
count_done n rules (move ∷ earlier) =
    (if is_done (outcome_after n rules earlier move) then 1 else 0) + count_done n rules earlier

-- how many signals they took
abbrev pub count_taken : Network → (ℕ → Rule) → List Move → ℕ
count_taken n rules [] = 0
count_taken n rules (move ∷ earlier) =
    (if is_done (outcome_after n rules earlier move) then takes move else 0) + count_taken n rules earlier

-- how many signals wait in all queues
abbrev pub count_waiting : Network → (ℕ → Member) → ℕ
count_waiting n members = sum_below n.reactors (λ j. length (members j).up + length (members j).down)

-- no move of a federate that is there does anything after these moves
abbrev pub NothingDoes : Network → (ℕ → Rule) → List Move → Type 0
NothingDoes n rules moves = (move : Move) → IsOfMember n move → is_done (outcome_after n rules moves move) ≡ false

-- after at most this many more moves every federate is stuck
pub record EndsStuck (n : Network) (rules : ℕ → Rule) (moves : List Move) (most : ℕ) : Type 0 where
  pub more : List Move
  pub there : AreOfMembers n (more ++ moves)
  pub few : length more ≤ most
  pub stuck : (j : ℕ) → j < n.reactors → IsStuck n j (after_moves n rules (more ++ moves) j)
