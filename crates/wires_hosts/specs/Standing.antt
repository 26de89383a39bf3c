-- For whom a run may wait, how long it has waited for whom, and how far it is.
use Rattle.std.specs.Prelude.{◌≡◌, ℕ, ◌/◌, min, Bool, true, false, nat_lt, nat_le, if◌then◌else◌, Option, None, Some}
use Rattle.std.specs.Prelude.{IfSome, List, All, Contains}
use Rattle.tag.specs.LogicalTime.{LogicalTime, is_before}
use Rattle.wires_hosts.specs.declared.standing.Standing.{Standing}
use Rattle.wires_hosts.specs.declared.times.TheConstants.{MOVING_MS, STILL_MS}

-- the least of the last tags that federates have completed, of those that have completed one; none where none has
abbrev pub IsLeast : (completed : List (Option LogicalTime)) → Option LogicalTime → Type 0
IsLeast completed None = All (λ last. last ≡ None) completed
IsLeast completed (Some least) =
    Contains completed (Some least) × All (λ last. IfSome last (λ tag. is_before tag least ≡ false)) completed

-- the lesser of two tags, where there are two
abbrev pub least_of : (least completed : Option LogicalTime) → Option LogicalTime
least_of None completed = completed
least_of (Some before) None = Some before
least_of (Some before) (Some tag) = if is_before tag before then Some tag else Some before

-- whether a federate that has completed this, or nothing, may hold a run back in which this is the least tag that was
-- completed: no federate has completed less
abbrev pub holds_back : (least completed : Option LogicalTime) → Bool
holds_back least None = true
holds_back None (Some tag) = true
holds_back (Some least) (Some tag) = if is_before least tag then false else true

-- whether a run may wait for a federate: it isn't connected, or hasn't acknowledged what was sent to it, or holds a run
-- back that stands still
abbrev pub may_be_awaited : Standing → (holds_back : Bool) → Bool
may_be_awaited standing holds_back =
    if standing.is_connected then (if nat_lt 0 standing.reached.unacked then true else holds_back) else true

-- for how many ms nothing was heard of a federate, or where nothing ever was for how many it has a connection or none
abbrev pub unheard_ms_by : Option ℕ → (lasting_ms : ℕ) → ℕ
unheard_ms_by None lasting_ms = lasting_ms
unheard_ms_by (Some quiet_ms) lasting_ms = quiet_ms

abbrev pub unheard_ms : Standing → ℕ
unheard_ms standing = unheard_ms_by standing.quiet_ms standing.lasting_ms

-- for how many ms a federate is missing for which the run may have waited for so many: nothing was heard of it meanwhile
abbrev pub missing_ms : Standing → (awaited_ms : ℕ) → ℕ
missing_ms standing awaited_ms = min awaited_ms (unheard_ms standing)

-- whether a moment has come by the second time that hadn't by the first
abbrev pub has_come : (moment before now : ℕ) → Bool
has_come moment before now = if nat_lt before moment then nat_le moment now else false

-- whether it is to be told how far a run is, by the ms since it began at the look before and at this one: after 10 s,
-- after 30 s, and at each minute
abbrev pub is_how_far_told : (before now : ℕ) → Bool
is_how_far_told before now =
    if has_come 10_000 before now then true
    else (if has_come 30_000 before now then true else nat_lt (before / 60_000) (now / 60_000))

-- whether a run goes on in which a tag was completed last so many ms ago: it does behind less than 2 s, and doesn't
-- behind 5 s; between them it isn't said
abbrev pub is_going_on : ℕ → Option Bool
is_going_on stood_ms =
    if nat_lt stood_ms MOVING_MS then Some true
    else (if nat_le STILL_MS stood_ms then Some false else None)
