-- How long a node waits.
use Rattle.std.specs.Prelude.{ℕ, ◌*◌, Option, unwrap_or}
use Rattle.fedrun_hosts.specs.declared.patience.TheConstants.{PATIENCE_SECONDS}

-- so many seconds, in nanoseconds
abbrev pub nanos_of : ℕ → ℕ
nanos_of seconds = seconds * 1_000_000_000

-- for so long a coordinator that is finished tells so whoever asks: for its patience, where it is given some
abbrev pub telling_nanos : Option ℕ → ℕ
telling_nanos patience = nanos_of (unwrap_or patience PATIENCE_SECONDS)
