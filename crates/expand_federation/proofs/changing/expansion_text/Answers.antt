use Rattle.std.proofs.Common.{ap, ◌∙◌}
use Rattle.expand_federation.specs.Changes.{body_text}
use Rattle.expand_federation.proofs.changing.expansion_text.Goals as goal

pub returns-in-Ok : goal.returns-in-Ok
returns-in-Ok c = (c.in_ok-body.body.lines, c.in_ok-body.ensures, c.in-Ok.ensures ∙ ap body_text c.as_slice.ensures)
