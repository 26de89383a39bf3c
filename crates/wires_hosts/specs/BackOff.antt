-- How long to wait before an attempt to connect.
use Rattle.std.specs.Prelude.{ℕ, ◌*◌, min, nat_eq, if◌then◌else◌}
use Rattle.wires_hosts.specs.declared.times.TheConstants.{FIRST_PAUSE_MS, MOST_PAUSE_MS}

-- the pause before the attempt behind one that came to nothing, before which there was this pause: 10 ms, then twice as
-- long each time, up to 1 s
abbrev pub next_pause : ℕ → ℕ
next_pause pause = if nat_eq pause 0 then FIRST_PAUSE_MS else min MOST_PAUSE_MS (2 * pause)

-- the pause before an attempt, where this one is next unless something was heard since the last attempt
abbrev pub pause_before : (pause heard_then heard_now : ℕ) → ℕ
pause_before pause heard_then heard_now = if nat_eq heard_then heard_now then pause else 0
