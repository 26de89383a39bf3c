use Rattle.std.proofs.Common.{◌∙◌, sym, ap, Some}
use Rattle.recorder.proofs.auditor.is_at.Goals as goal

pub returns-in-Some : goal.returns-in-Some
returns-in-Some c = (
  λ same. sym c.in-Some.ensures ∙ ap Some (c.is_same.ensures.0 same),
  λ there. c.is_same.ensures.1 (let e = c.in-Some.ensures ∙ there in cc),
)

pub returns-in-None : goal.returns-in-None
returns-in-None c = (
  λ no. cc,
  λ there. let no = c.in-None.ensures ∙ there in cc,
)
