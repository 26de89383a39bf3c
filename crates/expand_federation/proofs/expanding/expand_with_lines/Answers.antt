use Rattle.std.proofs.Common.{rules, arith}
use Rattle.expand_federation.proofs.Taken.{own_answered, own_accepted, other_answered, other_accepted}
use Rattle.expand_federation.proofs.expanding.expand_with_lines.Goals as goal

pub returns-in-Ok-clause-ok : goal.returns-in-Ok-clause-ok
returns-in-Ok-clause-ok c =
    own_answered c.args.source.now c.args.given.now _ _ c.own_federation.result c.in-Ok.ensures.outcome.0 c.own_federation.ensures.itself c.own_federation.ensures.alone

pub returns-in-Ok-clause-accepts : goal.returns-in-Ok-clause-accepts
returns-in-Ok-clause-accepts c = λ d programs file none. own_accepted c.args.given.now c.own_federation.result c.own_federation.ensures.refused none

pub returns-clause-ok : goal.returns-clause-ok
returns-clause-ok c =
    other_answered c.args.source.now c.args.given.now _ c.made_federation.result c.in-Err.ensures.accepts (first_of (search rules, grind arith)) c.made_federation.ensures.made c.made_federation.ensures.taken

pub returns-clause-accepts : goal.returns-clause-accepts
returns-clause-accepts c =
    λ d programs file none. other_accepted _ c.made_federation.result (c.in-Err.ensures.accepts d programs file) (first_of (search rules, grind arith))
