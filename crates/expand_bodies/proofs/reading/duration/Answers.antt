use Rattle.std.proofs.Common.{rules, ◌≡◌, subst}
use Rattle.tag_text.specs.Duration.{Spells}
use Rattle.expand_bodies.proofs.Fronts.{duration_read}
use Rattle.expand_bodies.proofs.reading.duration.Goals as goal

pub returns : goal.returns
returns c =
    let n = c.in-Ok-parse_duration.nanoseconds in
    let same : c.in-Ok.text.now ≡ c.after_spaces.result.now = search rules in
    let spelled = c.in-Ok-parse_duration.ensures.ok in
    duration_read c.args.text.now c.after_spaces.result.now n c.new.result c.after_spaces.ensures.spaces (subst (λ text. Spells text n) same spelled.0) spelled.1 c.new.ensures.value
