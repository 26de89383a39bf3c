use Rattle.protocol_laws.proofs.Safety.{none_refused}
use Rattle.protocol_laws.proofs.nothing_is_refused.Goals as goal

pub returns : goal.returns
returns c = λ n table rules lawful facts safe moves move refusal e. none_refused n table rules moves move refusal lawful facts safe e
