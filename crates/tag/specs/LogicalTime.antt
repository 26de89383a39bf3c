-- Logical time. A tag is a point of it, a delay is a length of it; both are a time and a microstep.
use Rattle.std.specs.Prelude.{◌≡◌, ℕ, ◌+◌, ◌-◌, ◌*◌, ◌^◌, ◌<◌, ◌≤◌, Bool, true, false, if◌then◌else◌, nat_lt, nat_eq}
use Rattle.std.specs.Prelude.{◌&&◌, ◌||◌, Option, None, Some}

-- a time in nanoseconds, then a microstep
pub record LogicalTime : Type 0 where
  pub time : ℕ
  pub microstep : ℕ

-- the one of this time and this microstep
abbrev pub logical_time : ℕ → ℕ → LogicalTime
logical_time time microstep = record { time = time; microstep = microstep }

-- later than all tags, and longer than all delays
abbrev pub forever : LogicalTime
forever = record { time = 2 ^ 62; microstep = 0 }

-- the first tag; as a delay, none at all
abbrev pub origin : LogicalTime
origin = record { time = 0; microstep = 0 }

-- a tag or a delay: times are below 2^62 ns and microsteps below 2^32, and beside them there is FOREVER alone
pub record IsLogicalTime (g : LogicalTime) : Type 0 where
  pub time : g.time ≤ 2 ^ 62
  pub microstep : g.microstep < 2 ^ 32
  pub forever_alone : 2 ^ 62 ≤ g.time → g.microstep ≡ 0

-- earlier or shorter: by time, then by microstep
abbrev pub is_before : LogicalTime → LogicalTime → Bool
is_before g h = nat_lt g.time h.time || (nat_eq g.time h.time && nat_lt g.microstep h.microstep)

-- earlier, or the same
abbrev pub is_at_most : LogicalTime → LogicalTime → Bool
is_at_most g h = nat_lt g.time h.time || (nat_eq g.time h.time && nat_lt g.microstep (h.microstep + 1))

-- `tag` is later than `other`. None is before every tag
abbrev pub is_past : Option LogicalTime → LogicalTime → Bool
is_past None tag = true
is_past (Some other) tag = is_before other tag

-- `tag` is at or below `other`. Nothing is at or below None
abbrev pub is_reached : Option LogicalTime → LogicalTime → Bool
is_reached None tag = false
is_reached (Some other) tag = is_at_most tag other

-- whether both are one
abbrev pub is_same : LogicalTime → LogicalTime → Bool
is_same g h = nat_eq g.time h.time && nat_eq g.microstep h.microstep

-- the lesser of two
abbrev pub lesser : LogicalTime → LogicalTime → LogicalTime
lesser g h = if is_before g h then g else h

-- the greater of two
abbrev pub greater : LogicalTime → LogicalTime → LogicalTime
greater g h = if is_before g h then h else g

-- its number in that order, where microsteps are below 2^32
unfoldable pub place : LogicalTime → ℕ
place g = g.time * 2 ^ 32 + g.microstep

-- a microstep that would pass 2^32 - 1 carries: it is the start of the next nanosecond
abbrev pub carried : LogicalTime → LogicalTime
carried g = if nat_lt g.microstep (2 ^ 32) then g else record { time = g.time + 1; microstep = 0 }

-- a time that reaches 2^62 is FOREVER
abbrev pub capped : LogicalTime → LogicalTime
capped g = if nat_lt g.time (2 ^ 62) then g else forever

-- before carrying: a length with a time begins a new instant at its own microstep, one without goes on by its
-- microsteps
abbrev pub moved : LogicalTime → LogicalTime → LogicalTime
moved g d =
    if nat_lt 0 d.time
    then record { time = g.time + d.time; microstep = d.microstep }
    else record { time = g.time; microstep = g.microstep + d.microstep }

-- the sum of these two has a microstep of its own
abbrev pub CarriesNothing : LogicalTime → LogicalTime → Type 0
CarriesNothing g d = (moved g d).microstep < 2 ^ 32

-- `g + d` of a tag and a delay, and `d then e` of two delays: the same rule for both
abbrev pub sum_of : LogicalTime → LogicalTime → LogicalTime
sum_of g d = capped (carried (moved g d))

-- one microstep
abbrev pub one_microstep : LogicalTime
one_microstep = record { time = 0; microstep = 1 }

-- the tag after g
abbrev pub successor_of : LogicalTime → LogicalTime
successor_of g = sum_of g one_microstep

-- the greatest tag before this one, which isn't the first; before FOREVER comes the last finite tag
abbrev pub predecessor_of : LogicalTime → LogicalTime
predecessor_of g =
    if nat_lt 0 g.microstep
    then record { time = g.time; microstep = g.microstep - 1 }
    else record { time = g.time - 1; microstep = 2 ^ 32 - 1 }

-- the greatest tag before this one; there is none before the first
abbrev pub tag_before : LogicalTime → Option LogicalTime
tag_before g = if is_same g origin then None else Some (predecessor_of g)

-- the delay of a connection's `after` or of a scheduling with this time: 0 is one microstep
abbrev pub delay_of : ℕ → LogicalTime
delay_of time = if nat_lt 0 time then record { time = time; microstep = 0 } else one_microstep

-- a tag that isn't FOREVER
pub record IsFinite (g : LogicalTime) : Type 0 where
  pub time : g.time < 2 ^ 62
  pub microstep : g.microstep < 2 ^ 32
