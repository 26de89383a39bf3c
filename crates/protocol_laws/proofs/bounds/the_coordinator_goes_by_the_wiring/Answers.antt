use Rattle.std.proofs.Common.{refl}
use Rattle.protocol_laws.proofs.Wired.{accepts_same, eligible_same}
use Rattle.protocol_laws.proofs.bounds.the_coordinator_goes_by_the_wiring.Goals as goal

pub returns-clause-accept : goal.returns-clause-accept
returns-clause-accept c = accepts_same

pub returns-clause-eligible : goal.returns-clause-eligible
returns-clause-eligible c = eligible_same

pub returns-clause-next : goal.returns-clause-next
returns-clause-next c = λ n table. refl

pub returns-clause-widest : goal.returns-clause-widest
returns-clause-widest c = λ n table. refl

pub returns-clause-least : goal.returns-clause-least
returns-clause-least c = λ n table. ((λ h. h), (λ h. h))
