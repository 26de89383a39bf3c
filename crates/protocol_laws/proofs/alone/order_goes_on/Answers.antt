use Rattle.protocol_laws.proofs.InOrder.{may_go_up-append, completed_by_ltcs-append, may_go_down-append}
use Rattle.protocol_laws.proofs.InOrder.{granted_by_tags-append}
use Rattle.protocol_laws.proofs.alone.order_goes_on.Goals as goal

pub returns-clause-after : goal.returns-clause-after
returns-clause-after c = may_go_up-append

pub returns-clause-completed : goal.returns-clause-completed
returns-clause-completed c = completed_by_ltcs-append

pub returns-clause-past : goal.returns-clause-past
returns-clause-past c = may_go_down-append

pub returns-clause-granted : goal.returns-clause-granted
returns-clause-granted c = granted_by_tags-append
