use Rattle.protocol_laws.proofs.SafeGrants.{next_rule_is_safe, widest_rule_is_safe, chosen_rule_is_safe}
use Rattle.protocol_laws.proofs.grants_are_safe.Goals as goal

pub returns-clause-next : goal.returns-clause-next
returns-clause-next c = next_rule_is_safe

pub returns-clause-widest : goal.returns-clause-widest
returns-clause-widest c = widest_rule_is_safe

pub returns-clause-chosen : goal.returns-clause-chosen
returns-clause-chosen c = chosen_rule_is_safe
