-- The coordinator: what it does with a federate's signal, and which TAGs then go out. It knows each federate's record,
-- by number.
use Rattle.std.specs.Prelude.{ℕ, zero, suc, ◌+◌, not, ◌||◌, nat_eq, nat_lt, if◌then◌else◌, List, [], ◌∷◌, ◌++◌}
use Rattle.std.specs.Prelude.{slice_get, Option, None, Some}
use Rattle.tag.specs.LogicalTime.{LogicalTime, forever, is_at_most, is_same, is_past}
use Rattle.network.specs.Connection.{Connection}
use Rattle.network.specs.Network.{Network, with_one}
use Rattle.signal.specs.declared.signal.Signal.{Signal}
use Rattle.signal.specs.declared.signal.Signal.TheVariants.{Net, Ltc, Tag, Msg}
use Rattle.protocol.specs.declared.post.Post.{Post}
use Rattle.protocol.specs.declared.refusal.Refusal.TheVariants.{NotYours, BelowGrant, NotRising, AfterStop}
use Rattle.protocol.specs.declared.refusal.Refusal.TheVariants.{NotForCoordinator}
use Rattle.protocol.specs.Outcome.{Outcome, Refused, Done, with_made}
use Rattle.protocol.specs.FederateRecord.{FederateRecord, after_message, after_net, after_ltc, after_grant}
use Rattle.protocol.specs.Grant.{Rule}

-- what a step makes: all records after it, and the signals to federates, in order
pub record Coordinated : Type 0 where
  pub after : ℕ → FederateRecord
  pub sent : List Post

-- the records with one federate's replaced
abbrev pub with_federate_record : (ℕ → FederateRecord) → ℕ → FederateRecord → ℕ → FederateRecord
with_federate_record federate_records i mine = with_one federate_records i mine

-- a message from federate i over a connection: it goes on to the connection's end
abbrev pub route : Network → (ℕ → FederateRecord) → ℕ → Signal → Option Connection → LogicalTime → Outcome Coordinated
route n federate_records i message None tag = Refused NotYours
route n federate_records i message (Some c) tag =
    if not (nat_eq c.source i) then Refused NotYours
    else if not (is_at_most tag n.stop) then Refused AfterStop
    else if not (is_past (federate_records c.target).granted tag) then Refused BelowGrant
    else Done (record {
      after = with_federate_record federate_records c.target (after_message (federate_records c.target) tag);
      sent = record { peer = c.target; signal = message } ∷ [];
    })

-- federate i's record is replaced, and nothing goes out
abbrev pub noted : (ℕ → FederateRecord) → ℕ → FederateRecord → Coordinated
noted federate_records i mine = record { after = with_federate_record federate_records i mine; sent = [] }

-- what a signal of federate i changes, before any TAG goes out
abbrev pub coordinator_takes : Network → (ℕ → FederateRecord) → ℕ → Signal → Outcome Coordinated
coordinator_takes n federate_records i (Net tag) =
    if not (is_at_most tag n.stop || is_same tag forever) then Refused AfterStop
    else if not (is_past (federate_records i).completed tag) then Refused NotRising
    else Done (noted federate_records i (after_net (federate_records i) tag))
coordinator_takes n federate_records i (Ltc tag) =
    if not (is_at_most tag n.stop) then Refused AfterStop
    else if not (is_past (federate_records i).completed tag) then Refused NotRising
    else Done (noted federate_records i (after_ltc (federate_records i) tag))
coordinator_takes n federate_records i (Tag tag) = Refused NotForCoordinator
coordinator_takes n federate_records i (Msg connection tag value) =
    route n federate_records i (Msg connection tag value) (slice_get n.connections connection) tag

-- which TAG goes out to a federate by a rule, if one does
abbrev pub grant_to : Network → Rule → (ℕ → FederateRecord) → ℕ → Option LogicalTime
grant_to n rule federate_records j = if nat_lt j n.reactors then rule federate_records j else None

-- a TAG to a federate, if there is one
abbrev pub grant_post : ℕ → Option LogicalTime → List Post
grant_post j None = []
grant_post j (Some tag) = record { peer = j; signal = Tag tag } ∷ []

-- the TAGs to these federates, in their order
abbrev pub grants_over : Network → Rule → (ℕ → FederateRecord) → List ℕ → List Post
grants_over n rule federate_records [] = []
grants_over n rule federate_records (j ∷ rest) =
    grant_post j (grant_to n rule federate_records j) ++ grants_over n rule federate_records rest

-- the next `count` numbers from j on
abbrev pub numbers_from : ℕ → ℕ → List ℕ
numbers_from j zero = []
numbers_from j (suc count) = j ∷ numbers_from (j + 1) count

-- the TAGs to the next `count` federates from j on, in number order
abbrev pub grants_from : Network → Rule → (ℕ → FederateRecord) → ℕ → ℕ → List Post
grants_from n rule federate_records j count = grants_over n rule federate_records (numbers_from j count)

-- then the TAGs go out
abbrev pub with_grants : Network → Rule → Coordinated → Coordinated
with_grants n rule made =
    record {
      after = λ j. after_grant (made.after j) (grant_to n rule made.after j);
      sent = made.sent ++ grants_from n rule made.after 0 n.reactors;
    }

-- what the coordinator does with a signal of federate i
abbrev pub coordinator_accepts : Network → Rule → (ℕ → FederateRecord) → ℕ → Signal → Outcome Coordinated
coordinator_accepts n rule federate_records i signal =
    with_made (with_grants n rule) (coordinator_takes n federate_records i signal)
