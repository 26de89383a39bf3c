use Rattle.std.proofs.Common.{◌∙◌}
use Rattle.plan_names.proofs.Places.{position-is}
use Rattle.plan_names.proofs.named.place_of.Goals as goal

pub returns-clause-value : goal.returns-clause-value
returns-clause-value g c = c.position_of.ensures.place ∙ position-is g.T.Named.name_of c.args.name.now c.args.named.now
