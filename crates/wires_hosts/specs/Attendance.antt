-- Which of the connections to the coordinator that are known have ended.
use Rattle.std.specs.Prelude.{ℕ, nat_eq, if◌then◌else◌, Option, Some, None}
use Rattle.wires_hosts.specs.declared.attendance.LetInFrom.{LetInFrom}

-- the connection of a federate that has ended, where this is the number of the last that has: an older one that ended
-- late isn't it
abbrev pub gone_by : Option (Option LetInFrom) → (ended : ℕ) → Option LetInFrom
gone_by None ended = None
gone_by (Some None) ended = None
gone_by (Some (Some present)) ended = if nat_eq present.connection ended then Some present else None
