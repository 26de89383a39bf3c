-- The records of all federates as a list, by their numbers; and whether all is finished.
use Rattle.std.specs.Prelude.{ℕ, zero, suc, Bool, ◌&&◌, List, [], ◌∷◌, get_or}
use Rattle.tag.specs.LogicalTime.{forever, is_same}
use Rattle.network.specs.Network.{Network}
use Rattle.signal.specs.declared.signal.Signal.{Signal}
use Rattle.protocol.specs.Outcome.{Outcome, with_made}
use Rattle.protocol.specs.FederateRecord.{FederateRecord, initial_federate_record}
use Rattle.protocol.specs.Grant.{Rule, all_below}
use Rattle.protocol.specs.declared.post.Post.{Post}
use Rattle.protocol.specs.Coordinator.{Coordinated, coordinator_accepts}

-- a federate's record; beyond the list's end it is the initial one
abbrev pub federate_record_at : List FederateRecord → ℕ → FederateRecord
federate_record_at federate_records j = get_or federate_records j initial_federate_record

-- the records of the first `count` federates
abbrev pub federate_records_listed : ℕ → (ℕ → FederateRecord) → List FederateRecord
federate_records_listed zero federate_records = []
federate_records_listed (suc count) federate_records =
    federate_records 0 ∷ federate_records_listed count (λ j. federate_records (suc j))

-- what a step makes: the list of records after it, and the signals to federates, in order
pub record Listed : Type 0 where
  pub after : List FederateRecord
  pub sent : List Post

abbrev pub listed_after : ℕ → Coordinated → Listed
listed_after reactors made = record { after = federate_records_listed reactors made.after; sent = made.sent }

-- what the coordinator does with a signal of federate i, its records a list
abbrev pub coordinator_accepts_in : Network → Rule → List FederateRecord → ℕ → Signal → Outcome Listed
coordinator_accepts_in n rule federate_records i signal =
    with_made (listed_after n.reactors) (coordinator_accepts n rule (federate_record_at federate_records) i signal)

-- every federate has announced, and the next tag of each is FOREVER
abbrev pub is_finished : Network → (ℕ → FederateRecord) → Bool
is_finished n federate_records =
    all_below n.reactors (λ j. (federate_records j).announced && is_same (federate_records j).next forever)
