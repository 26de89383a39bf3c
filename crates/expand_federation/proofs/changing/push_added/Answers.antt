use Rattle.std.proofs.Common.{◌++◌, ap, ◌∙◌}
use Rattle.std.specs.Prelude.{string_bytes}
use Rattle.expand_federation.proofs.changing.push_added.Goals as goal

pub returns : goal.returns
returns c = (
  string_bytes c.in_ok-added.added,
  c.in_ok-push.ensures ∙ ap (λ bytes. c.args.made.now.items ++ bytes) c.as_bytes.ensures.value,
  c.in_ok-added.ensures,
)
