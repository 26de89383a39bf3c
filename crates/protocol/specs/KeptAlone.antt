-- What a federate and the coordinator keep by themselves, whatever the other side sends, lying signals too; and what
-- they send.
use Rattle.std.specs.Prelude.{◌≡◌, ℕ, ◌<◌, Bool, true, false, ◌&&◌, List, [], ◌∷◌, All, AllPairs, IsTrue, Option, None}
use Rattle.std.specs.Prelude.{Some, IfSome}
use Rattle.std.specs.Option.{option_map}
use Rattle.std.specs.List.{last_or}
use Rattle.tag.specs.LogicalTime.{LogicalTime, IsLogicalTime, IsFinite, is_before, is_at_most, is_past, is_reached}
use Rattle.network.specs.Network.{Network}
use Rattle.network.specs.Undivided.{Row}
use Rattle.network.specs.Undone.{PendingEvent, is_held_before}
use Rattle.signal.specs.declared.signal.Signal.{Signal}
use Rattle.signal.specs.declared.signal.Signal.TheVariants.{Net, Ltc, Tag, Msg}
use Rattle.protocol.specs.Federate.{Federate}
use Rattle.protocol.specs.FederateRecord.{FederateRecord}

-- the tag of the last row
abbrev pub last_row_tag : List Row → Option LogicalTime
last_row_tag rows = option_map (λ row. row.tag) (last_or None rows)

-- an event that is still to run: later than what is completed, up to stop, at a slot that is there
pub record IsStillToRun (n : Network) (j : ℕ) (completed : Option LogicalTime) (e : PendingEvent) : Type 0 where
  pub finite : IsFinite e.tag
  pub later : IsTrue (is_past completed e.tag)
  pub in_time : IsTrue (is_at_most e.tag n.stop)
  pub slot : e.slot < n.slots j

-- a federate: what is undone rises, by tag and slot, and is still to run; it completed no more than was granted, which
-- is up to stop; and what it completed last is the tag of its last row
pub record IsFederate (n : Network) (j : ℕ) (f : Federate) : Type 0 where
  pub undone : All (IsStillToRun n j f.completed) f.undone
  pub rising : AllPairs (λ d e. IsTrue (is_held_before d e)) f.undone
  pub completed : IfSome f.completed (λ tag. IsFinite tag × IsTrue (is_reached f.granted tag))
  pub granted : IfSome f.granted (λ tag. IsFinite tag × IsTrue (is_at_most tag n.stop))
  pub last_row : last_row_tag f.rows ≡ f.completed

-- what the coordinator knows of a federate are tags, and those in transit strictly rise; FOREVER can be its next tag
-- alone
pub record IsFederateRecord (s : FederateRecord) : Type 0 where
  pub completed : IfSome s.completed IsFinite
  pub granted : IfSome s.granted IsFinite
  pub next : IsLogicalTime s.next
  pub transit : All IsFinite s.transit
  pub rising : AllPairs (λ g h. IsTrue (is_before g h)) s.transit

-- messages, and then one LTC: the signals of a turn
abbrev pub is_of_turn : List Signal → Bool
is_of_turn [] = false
is_of_turn (Net tag ∷ rest) = false
is_of_turn (Ltc tag ∷ []) = true
is_of_turn (Ltc tag ∷ other ∷ rest) = false
is_of_turn (Tag tag ∷ rest) = false
is_of_turn (Msg connection tag value ∷ rest) = is_of_turn rest

-- signals that a federate may send once it has completed this tag: LTCs rise, and each message is later than every LTC
-- before it
abbrev pub may_go_up : Option LogicalTime → List Signal → Bool
may_go_up completed [] = true
may_go_up completed (Net tag ∷ rest) = may_go_up completed rest
may_go_up completed (Ltc tag ∷ rest) = is_past completed tag && may_go_up (Some tag) rest
may_go_up completed (Tag tag ∷ rest) = false
may_go_up completed (Msg connection tag value ∷ rest) = is_past completed tag && may_go_up completed rest

-- what it has completed then: the last of these LTCs, or what it had before
abbrev pub completed_by_ltcs : Option LogicalTime → List Signal → Option LogicalTime
completed_by_ltcs completed [] = completed
completed_by_ltcs completed (Net tag ∷ rest) = completed_by_ltcs completed rest
completed_by_ltcs completed (Ltc tag ∷ rest) = completed_by_ltcs (Some tag) rest
completed_by_ltcs completed (Tag tag ∷ rest) = completed_by_ltcs completed rest
completed_by_ltcs completed (Msg connection tag value ∷ rest) = completed_by_ltcs completed rest

-- signals that may go to a federate once it was granted this tag: TAGs rise, and each message is later than every TAG
-- before it
abbrev pub may_go_down : Option LogicalTime → List Signal → Bool
may_go_down granted [] = true
may_go_down granted (Net tag ∷ rest) = false
may_go_down granted (Ltc tag ∷ rest) = false
may_go_down granted (Tag tag ∷ rest) = is_past granted tag && may_go_down (Some tag) rest
may_go_down granted (Msg connection tag value ∷ rest) = is_past granted tag && may_go_down granted rest

-- what it is granted then: the last of these TAGs, or what it was before
abbrev pub granted_by_tags : Option LogicalTime → List Signal → Option LogicalTime
granted_by_tags granted [] = granted
granted_by_tags granted (Net tag ∷ rest) = granted_by_tags granted rest
granted_by_tags granted (Ltc tag ∷ rest) = granted_by_tags granted rest
granted_by_tags granted (Tag tag ∷ rest) = granted_by_tags (Some tag) rest
granted_by_tags granted (Msg connection tag value ∷ rest) = granted_by_tags granted rest

-- at most one message, and then at most one TAG
abbrev pub is_of_step : List Signal → Bool
is_of_step [] = true
is_of_step (Tag tag ∷ []) = true
is_of_step (Msg connection tag value ∷ []) = true
is_of_step (Msg connection tag value ∷ Tag granted ∷ []) = true
is_of_step (first ∷ rest) = false
