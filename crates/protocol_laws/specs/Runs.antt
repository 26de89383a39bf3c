-- Runs of the machine: nothing is refused; and a federate is quiet where its next tag is FOREVER, or where all are
-- stuck.
use Rattle.std.specs.Prelude.{◌≡◌, ◌≢◌, ℕ, ◌<◌, Bool, true, false, IsTrue, List, [], length, IsSomeAnd}
use Rattle.std.specs.List.{list_any}
use Rattle.tag.specs.LogicalTime.{IsLogicalTime, forever, is_at_most}
use Rattle.network.specs.Network.{Network}
use Rattle.network.specs.Tables.{Table}
use Rattle.signal.specs.declared.signal.Signal.{Signal}
use Rattle.signal.specs.declared.signal.Signal.TheVariants.{Net, Ltc, Tag, Msg}
use Rattle.protocol.specs.declared.refusal.Refusal.{Refusal}
use Rattle.protocol.specs.Outcome.{Refused, Nothing}
use Rattle.protocol.specs.Federate.{federate_announces, federate_advances}
use Rattle.protocol.specs.FederateRecord.{FederateRecord}
use Rattle.protocol.specs.Grant.{Rule, is_eligible}
use Rattle.protocol.specs.Machine.{Member, Move, outcome_of, after_moves}

-- whatever was done before, whatever comes next isn't refused
abbrev pub RefusesNothing : Network → (ℕ → Rule) → Type 0
RefusesNothing n rules =
    (moves : List Move) (move : Move) (refusal : Refusal)
    → outcome_of n (rules (length moves)) (after_moves n rules moves) move ≢ Refused refusal

-- a message
abbrev pub is_message : Signal → Bool
is_message (Net tag) = false
is_message (Ltc tag) = false
is_message (Tag tag) = false
is_message (Msg connection tag value) = true

-- a federate is quiet: no event of it is undone, no message that it sent waits for the coordinator, and none waits for
-- it on the way down
pub record IsQuiet (m : Member) : Type 0 where
  pub undone : m.federate.undone ≡ []
  pub up : list_any is_message m.up ≡ false
  pub down : list_any is_message m.down ≡ false

-- wherever a federate's next tag is FOREVER, it is quiet
abbrev pub IsQuietWhereNextIsForever : Network → (ℕ → Rule) → Type 0
IsQuietWhereNextIsForever n rules =
    (moves : List Move) (j : ℕ) → (after_moves n rules moves j).federate_record.next ≡ forever
    → IsQuiet (after_moves n rules moves j)

-- a federate is stuck: there is nothing to take, to announce or to advance
pub record IsStuck (n : Network) (j : ℕ) (m : Member) : Type 0 where
  pub up : m.up ≡ []
  pub down : m.down ≡ []
  pub announce : federate_announces m.federate ≡ Nothing
  pub advance : federate_advances n j m.federate ≡ Nothing

-- a rule that leaves no eligible federate without a grant of at least its next tag
abbrev pub IsFullRule : Network → Table → Rule → Type 0
IsFullRule n table rule =
    (federate_records : ℕ → FederateRecord) → ((i : ℕ) → IsLogicalTime (federate_records i).next) → (j : ℕ)
    → IsTrue (is_eligible n table federate_records j) →
    IsSomeAnd (rule federate_records j) (λ tag. IsTrue (is_at_most (federate_records j).next tag))

-- wherever every federate is stuck, all are quiet
abbrev pub IsQuietWhereStuck : Network → (ℕ → Rule) → Type 0
IsQuietWhereStuck n rules =
    (moves : List Move) → ((j : ℕ) → j < n.reactors → IsStuck n j (after_moves n rules moves j)) → (j : ℕ)
    → j < n.reactors → IsQuiet (after_moves n rules moves j)
