-- How long nothing was heard, and what is told of that.
use Rattle.std.specs.Prelude.{ℕ, ◌+◌, ◌^◌, ◌-◌, ◌/◌, min, nat_eq, nat_lt, nat_le, if◌then◌else◌, Option, None, Some}
use Rattle.wires_hosts.specs.declared.silence.Silence.{Silence}
use Rattle.wires_hosts.specs.declared.silence.SilenceTold.{SilenceTold}
use Rattle.wires_hosts.specs.declared.silence.SilenceTold.TheVariants.{Lasts, IsOver}
use Rattle.wires_hosts.specs.declared.times.TheConstants.{PATIENCE_LOOK_MS, LATE_LOOK_MS, STILL_MS}

-- the silence after one more look, with how much was heard in all: none where that is more than before, and else
-- longer by the time between two looks
abbrev pub after_look : Silence → (heard : ℕ) → Silence
after_look silence heard = record {
  heard = heard;
  quiet_ms = if nat_eq silence.heard heard then min (2 ^ 64 - 1) (silence.quiet_ms + PATIENCE_LOOK_MS) else 0;
}

-- what is told of a silence that has lasted for the second number of ms, where it was told last of one that had lasted
-- for the first: that this one is over, where the other is shorter; after 5 s, and once it is twice as long, that it lasts
abbrev pub told_of_silence : (told_ms quiet_ms : ℕ) → Option SilenceTold
told_of_silence told_ms quiet_ms =
    if nat_lt quiet_ms told_ms then Some IsOver
    else (if nat_le STILL_MS quiet_ms
    then (if nat_le told_ms (quiet_ms / 2) then Some Lasts else None) else None)

-- how many of the ms between two looks count: all; but of more than a second as many as between two others, since the
-- process was stopped meanwhile, and what came is heard behind that
abbrev pub counted_ms : (lapse_ms : ℕ) → ℕ
counted_ms lapse_ms = if nat_lt LATE_LOOK_MS lapse_ms then PATIENCE_LOOK_MS else lapse_ms

-- a time that is so many ms later, as far as a number of 64 bits goes
abbrev pub later_ms : (time millis : ℕ) → ℕ
later_ms time millis = min (2 ^ 64 - 1) (time + millis)
