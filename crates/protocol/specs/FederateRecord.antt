-- What the coordinator knows of one federate.
use Rattle.std.specs.Prelude.{Bool, true, false, if◌then◌else◌, List, [], ◌∷◌, filter, Option, None, Some}
use Rattle.tag.specs.LogicalTime.{LogicalTime, origin, is_before, is_same, lesser}

-- completed: its last LTC. granted: the last TAG to it. announced: a NET came. next: before this tag it does nothing,
-- unless a message is routed to it first. transit: the tags of messages routed to it, strictly rising, without those
-- that an LTC of it has reached since
pub record FederateRecord : Type 0 where
  pub completed : Option LogicalTime
  pub granted : Option LogicalTime
  pub announced : Bool
  pub next : LogicalTime
  pub transit : List LogicalTime

abbrev pub initial_federate_record : FederateRecord
initial_federate_record = record { completed = None; granted = None; announced = false; next = origin; transit = [] }

-- the least of a tag and of these
abbrev pub least_with : LogicalTime → List LogicalTime → LogicalTime
least_with tag [] = tag
least_with tag (x ∷ rest) = lesser x (least_with tag rest)

-- with one more tag, in its place
abbrev pub with_tag : LogicalTime → List LogicalTime → List LogicalTime
with_tag tag [] = tag ∷ []
with_tag tag (x ∷ rest) =
    if is_before tag x then tag ∷ x ∷ rest else (if is_same tag x then x ∷ rest else x ∷ with_tag tag rest)

-- after a message is routed to it
abbrev pub after_message : FederateRecord → LogicalTime → FederateRecord
after_message s tag = record s { next = lesser s.next tag; transit = with_tag tag s.transit }

-- after its NET
abbrev pub after_net : FederateRecord → LogicalTime → FederateRecord
after_net s tag = record s { announced = true; next = least_with tag s.transit }

-- after its LTC
abbrev pub after_ltc : FederateRecord → LogicalTime → FederateRecord
after_ltc s tag = record s { completed = Some tag; transit = filter (λ t. is_before tag t) s.transit }

-- after a TAG to it, if one goes out
abbrev pub after_grant : FederateRecord → Option LogicalTime → FederateRecord
after_grant s None = s
after_grant s (Some tag) = record s { granted = Some tag }
