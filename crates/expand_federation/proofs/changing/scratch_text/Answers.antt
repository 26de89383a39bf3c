use Rattle.std.proofs.Common.{ap, ◌∙◌}
use Rattle.std.proofs.lemmas.Result.{IfOk-weaker}
use Rattle.expand_federation.specs.Changes.{states_text}
use Rattle.expand_federation.proofs.changing.scratch_text.Goals as goal

pub returns : goal.returns
returns c =
    IfOk-weaker c.states_text.result _ _
    (λ text same. (c.in_ok-scratch.scratch, c.in_ok-scratch.ensures, same ∙ ap (states_text c.args.joint) c.as_slice.ensures)) c.states_text.ensures
