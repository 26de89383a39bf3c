use Rattle.std.proofs.Common.{ℕ, List, sym, subst}
use Rattle.tag_text.specs.Duration.{Spells}
use Rattle.reactor_program.proofs.Durations.{duration_is_text}
use Rattle.reactor_program.proofs.reading.schedule.duration.Goals as goal

pub returns-in_default : goal.returns-in_default
returns-in_default c = λ time s short. c.in_default.ensures.cases.0 (duration_is_text c.args.text.now time s)

pub returns-in_default-parse_duration : goal.returns-in_default-parse_duration
returns-in_default-parse_duration c = λ time s short.
    let P : List ℕ → Type 0 = λ x. Spells x time in
    let e = c.in_default-parse_duration.ensures.exact time (subst P (sym c.in-Ok.ensures.cases.0) s) short in
    cc
