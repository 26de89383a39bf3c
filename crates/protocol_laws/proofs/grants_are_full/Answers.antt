use Rattle.protocol_laws.proofs.SafeGrants.{next_rule_is_full, widest_rule_is_full}
use Rattle.protocol_laws.proofs.grants_are_full.Goals as goal

pub returns-clause-next : goal.returns-clause-next
returns-clause-next c = next_rule_is_full

pub returns-clause-widest : goal.returns-clause-widest
returns-clause-widest c = widest_rule_is_full
