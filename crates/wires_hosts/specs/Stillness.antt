-- Since when a run stands still, and what was told of that.
use Rattle.std.specs.Prelude.{ℕ, ◌-◌, true, false, Option, None, Some}
use Rattle.wires_hosts.specs.Silence.{told_of_silence, later_ms}
use Rattle.wires_hosts.specs.declared.silence.SilenceTold.{SilenceTold}
use Rattle.wires_hosts.specs.declared.silence.SilenceTold.TheVariants.{Lasts, IsOver}
use Rattle.wires_hosts.specs.declared.stillness.Stillness.{Stillness}

-- nothing is told of a run that begins at this time
abbrev pub begun : (now : ℕ) → Stillness
begun now = record {
  completed_ms = now;
  granted_ms = now;
  silence_told_ms = 0;
  ungranted_told_ms = 0;
  is_told = false;
}

-- behind a grant at this time, or a word of the coordinator after a silence: what it grants comes behind that
abbrev pub granted : Stillness → (now : ℕ) → Stillness
granted stillness now = record stillness { granted_ms = now; ungranted_told_ms = 0 }

-- behind a tag that was completed at this time: the run goes on, and what was granted is used
abbrev pub completed : Stillness → (now : ℕ) → Stillness
completed stillness now = record (granted stillness now) { completed_ms = now; is_told = false }

-- behind what is told of a silence of so many ms
abbrev pub after_silence_by : Option SilenceTold → Stillness → (quiet_ms : ℕ) → Stillness
after_silence_by None stillness quiet_ms = stillness
after_silence_by (Some Lasts) stillness quiet_ms = record stillness { silence_told_ms = quiet_ms; is_told = true }
after_silence_by (Some IsOver) stillness quiet_ms = record stillness { silence_told_ms = 0 }

abbrev pub after_silence : Stillness → (quiet_ms : ℕ) → Stillness
after_silence stillness quiet_ms =
    after_silence_by (told_of_silence stillness.silence_told_ms quiet_ms) stillness quiet_ms

-- what is told of the time at which nothing was granted, up to this one
abbrev pub told_of_ungranted : Stillness → (now : ℕ) → Option SilenceTold
told_of_ungranted stillness now = told_of_silence stillness.ungranted_told_ms (now - stillness.granted_ms)

-- as if all of that had been so many ms later
abbrev pub later : Stillness → (millis : ℕ) → Stillness
later stillness millis = record stillness {
  completed_ms = later_ms stillness.completed_ms millis;
  granted_ms = later_ms stillness.granted_ms millis;
}
