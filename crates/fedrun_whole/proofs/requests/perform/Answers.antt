use Rattle.std.proofs.lemmas.Result.{IfErr-weaker}
use Rattle.fedrun_whole.specs.Refused as refused
use Rattle.fedrun_whole.proofs.requests.perform.Goals as goal

pub returns-in-Ok-clause-stands : goal.returns-in-Ok-clause-stands
returns-in-Ok-clause-stands g c = IfErr-weaker c.fulfil.result _ _ (λ fault stands. refused.request c.in-Ok.request stands) c.fulfil.ensures.stands
