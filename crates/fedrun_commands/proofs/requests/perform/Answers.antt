use Rattle.std.proofs.Common.{inl, inr}
use Rattle.std.proofs.lemmas.Result.{on_ok_weaker, IfErr-weaker}
use Rattle.fedrun_whole.specs.Refused as every
use Rattle.fedrun_commands.proofs.requests.perform.Goals as goal

pub returns-in-Ok-clause-ok : goal.returns-in-Ok-clause-ok
returns-in-Ok-clause-ok g c = on_ok_weaker c.fulfil.result (λ done. record { request = c.in-Ok.request; prints = done }) c.fulfil.ensures.ok

pub returns-in-Ok-clause-stands : goal.returns-in-Ok-clause-stands
returns-in-Ok-clause-stands g c = IfErr-weaker c.fulfil.result _ _ (λ fault stands. every.request c.in-Ok.request stands) c.fulfil.ensures.stands

pub returns-in-Ok-clause-untouched : goal.returns-in-Ok-clause-untouched
returns-in-Ok-clause-untouched g c =
    IfErr-weaker c.fulfil.result _ _
    (λ fault told one. elim (told one) [
      | inl same ↦ inl same
      | inr wrong ↦ inr (c.in-Ok.request, wrong)
    ])
    c.fulfil.ensures.untouched
