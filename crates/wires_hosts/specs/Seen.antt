-- What was seen of a federate by looks at a node, and what there is to tell of it.
use Rattle.std.specs.Prelude.{ℕ, ◌-◌, Bool, true, false, nat_lt, if◌then◌else◌, Option, None, Some, option_map}
use Rattle.wires_hosts.specs.Silence.{told_of_silence, later_ms}
use Rattle.wires_hosts.specs.Standing.{unheard_ms, missing_ms}
use Rattle.wires_hosts.specs.declared.happening.Happening.{Happening}
use Rattle.wires_hosts.specs.declared.happening.Happening.TheVariants.{Missing, HeardAgain}
use Rattle.wires_hosts.specs.declared.seen.Seen.{Seen}
use Rattle.wires_hosts.specs.declared.silence.SilenceTold.{SilenceTold}
use Rattle.wires_hosts.specs.declared.silence.SilenceTold.TheVariants.{Lasts, IsOver}
use Rattle.wires_hosts.specs.declared.standing.Standing.{Standing}

-- the first time, or this one where there is none
abbrev pub since_or : Option ℕ → (now : ℕ) → ℕ
since_or None now = now
since_or (Some since_ms) now = since_ms

-- since when a run may wait for a federate for which it may wait at this time or may not, where it might since then
-- before: there is no break between
abbrev pub awaited_since : (before : Option ℕ) → (is_awaited : Bool) → (now : ℕ) → Option ℕ
awaited_since before is_awaited now = if is_awaited then Some (since_or before now) else None

-- where a run may wait for a federate at this time of which that was seen, or may not
abbrev pub awaited : Seen → (is_awaited : Bool) → (now : ℕ) → Seen
awaited seen is_awaited now =
    record seen { awaited_since_ms = awaited_since seen.awaited_since_ms is_awaited now }

-- as if all of that had been so many ms later
abbrev pub later : Seen → (millis : ℕ) → Seen
later seen millis =
    record seen { awaited_since_ms = option_map (λ since_ms. later_ms since_ms millis) seen.awaited_since_ms }

-- for how many ms a federate that stands there is missing at this time, where the run may wait for it since then: 0
-- where it may not
abbrev pub missing_since : Option ℕ → Standing → (now : ℕ) → ℕ
missing_since None standing now = 0
missing_since (Some since_ms) standing now = missing_ms standing (now - since_ms)

-- for how many ms a federate of which this was seen is missing at this time, where it stands there
abbrev pub missing_at : Seen → Standing → (now : ℕ) → ℕ
missing_at seen standing now = missing_since seen.awaited_since_ms standing now

-- that it was heard again behind a silence of so many ms, where it was told that it was missing for so many, and isn't
-- silent for as long any more; nothing where none of it ever came before
abbrev pub heard_again : Standing → (before : Option ℕ) → (told_ms : ℕ) → Option Happening
heard_again standing None told_ms = None
heard_again standing (Some before_ms) told_ms =
    if nat_lt (unheard_ms standing) told_ms then Some (HeardAgain standing.federate before_ms) else None

-- what there is to tell, by what is told of the time for which it is missing: that it is, or that it was heard again
-- where its name was told before
abbrev pub told_by : Option SilenceTold → Seen → Standing → Option Happening
told_by None seen standing = None
told_by (Some Lasts) seen standing = Some (Missing standing)
told_by (Some IsOver) seen standing =
    if seen.is_named then heard_again standing seen.quiet_ms seen.told_ms else None

abbrev pub told_of : Seen → Standing → (now : ℕ) → Option Happening
told_of seen standing now = told_by (told_of_silence seen.told_ms (missing_at seen standing now)) seen standing

-- what was seen of it behind that, where there was room for its name or wasn't
abbrev pub seen_by : Option SilenceTold → Seen → Standing → (missing_ms : ℕ) → (has_room : Bool) → Seen
seen_by None seen standing missing_ms has_room = record seen { quiet_ms = standing.quiet_ms }
seen_by (Some Lasts) seen standing missing_ms has_room = record seen {
  quiet_ms = standing.quiet_ms;
  told_ms = missing_ms;
  is_named = if seen.is_named then true else has_room;
}
seen_by (Some IsOver) seen standing missing_ms has_room =
    record seen { quiet_ms = standing.quiet_ms; told_ms = 0; is_named = false }

abbrev pub after_look : Seen → Standing → (now : ℕ) → (has_room : Bool) → Seen
after_look seen standing now has_room =
    seen_by (told_of_silence seen.told_ms (missing_at seen standing now)) seen standing (missing_at seen standing now)
    has_room
