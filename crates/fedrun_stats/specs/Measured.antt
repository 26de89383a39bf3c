-- What is measured of a command, by the times of its moments, in ms since it began.
use Rattle.std.specs.Prelude.{ℕ, ◌-◌, Option, option_map, option_and_then}
use Rattle.files_stats.specs.declared.stats.Phases.{Phases}
use Rattle.files_stats.specs.declared.stats.Stats.{Stats}
use Rattle.fedrun_stats.specs.declared.measures.Measures.{Measures}

-- how long each phase took of a command whose nodes ran from the first time to the second, which told others for so
-- long after that, and ended at the last
abbrev pub phases_of : (began ran telling ended : ℕ) → Phases
phases_of began ran telling ended =
    record { loading = began; running = ran - began; telling = telling; ending = ended - ran - telling }

-- what was measured of a command that ended at this time, with this status, and whose nodes ran between the others
abbrev pub stats_between : Measures → (status ended began ran : ℕ) → Stats
stats_between noted status ended began ran = record {
  command = noted.command;
  status = status;
  phases = phases_of began ran noted.telling ended;
  coordinator = noted.coordinator;
  federates = noted.federates;
}

-- the same, where its nodes ran at all
abbrev pub stats_of : Measures → (status ended : ℕ) → Option Stats
stats_of noted status ended =
    option_and_then (λ began. option_map (stats_between noted status ended began) noted.ran) noted.began
