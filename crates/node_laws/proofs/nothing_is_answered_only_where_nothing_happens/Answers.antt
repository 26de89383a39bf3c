use Rattle.node_laws.proofs.Exact.{step_exact, step_only}
use Rattle.node_laws.proofs.nothing_is_answered_only_where_nothing_happens.Goals as goal

pub returns-clause-only : goal.returns-clause-only
returns-clause-only g c s event is = step_only g.N.Node.core g.N.Node.HUB s event is

pub returns-clause-exactly : goal.returns-clause-exactly
returns-clause-exactly g c by s event = step_exact g.N.Node.core by g.N.Node.HUB s event
