-- What a history last gave to a slot at a tag: the newest turn that gave anything counts, and in it the last
-- scheduling.
use Rattle.std.specs.Prelude.{ℕ, ℤ, ◌&&◌, nat_eq, if◌then◌else◌, List, [], ◌∷◌, Option, None, Some}
use Rattle.tag.specs.LogicalTime.{LogicalTime, is_same, sum_of}
use Rattle.network.specs.Connection.{Connection}
use Rattle.network.specs.Network.{Network, Scheduling}
use Rattle.network_laws.specs.History.{Turn, effect_after}

-- the first, or else the second
abbrev pub or_else : {A : Type 0} → Option A → Option A → Option A
or_else None other = other
or_else (Some x) other = Some x

-- what is set at a connection's port at the first tag is present at the second, if the connection leads there
abbrev pub carried_to : Connection → LogicalTime → LogicalTime → Option ℤ → Option ℤ
carried_to c from tag value = if is_same (sum_of from c.delay) tag then value else None

-- what a connection carries to a tag: what was set at its port by the newest turn that set it and from which it leads
-- there
abbrev pub last_carried : Network → Connection → LogicalTime → List Turn → Option ℤ
last_carried n c tag [] = None
last_carried n c tag (turn ∷ earlier) =
    or_else (carried_to c turn.tag tag ((effect_after n c.source earlier turn).outputs c.port))
    (last_carried n c tag earlier)

-- what a scheduling makes present at a slot at a tag
abbrev pub scheduled_to : Scheduling → LogicalTime → ℕ → LogicalTime → Option ℤ
scheduled_to s from slot tag = if is_same (sum_of from s.delay) tag && nat_eq s.slot slot then Some s.value else None

-- of several schedulings for the slot at the tag the last counts
abbrev pub last_in_list : List Scheduling → LogicalTime → ℕ → LogicalTime → Option ℤ
last_in_list [] from slot tag = None
last_in_list (s ∷ rest) from slot tag = or_else (last_in_list rest from slot tag) (scheduled_to s from slot tag)

-- what a reactor scheduled for its slot at a tag: that of the newest turn that scheduled anything for them
abbrev pub last_scheduled : Network → ℕ → ℕ → LogicalTime → List Turn → Option ℤ
last_scheduled n reactor slot tag [] = None
last_scheduled n reactor slot tag (turn ∷ earlier) =
    or_else (last_in_list (effect_after n reactor earlier turn).schedulings turn.tag slot tag)
    (last_scheduled n reactor slot tag earlier)
