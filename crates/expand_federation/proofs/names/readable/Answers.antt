use Rattle.std.proofs.Common.{◌++◌, ap, ◌∙◌}
use Rattle.expand_federation.specs.Bodies.{startup_of}
use Rattle.expand_federation.proofs.Arrays.{five_pushed}
use Rattle.expand_federation.proofs.names.readable.Goals as goal

pub returns : goal.returns
returns c = record {
  inputs = c.in_ok-inputs.inputs;
  timers = c.in_ok-timers.timers;
  physical = c.in_ok-physical.physical;
  triggers = c.in_ok-triggers.triggers.items;
  inputs_are = c.in_ok-inputs.ensures.ok;
  timers_are = c.in_ok-timers.ensures;
  physical_are = c.in_ok-physical.ensures.ok;
  triggers_are = c.in_ok-triggers.ensures;
  all =
      c.new.ensures
      ∙ five_pushed c.new-names.result.items c.push_all.new.names.items c.push_all-2.new.names.items c.push_all-3.new.names.items c.push_all-4.new.names.items c.push_startup.new.names.items
      c.in_ok-inputs.inputs c.in_ok-timers.timers c.args.actions.now c.in_ok-physical.physical (startup_of c.in_ok-triggers.triggers.items) c.new-names.ensures.items c.in_ok-push_all.ensures
      c.in_ok-push_all-2.ensures c.in_ok-push_all-3.ensures c.in_ok-push_all-4.ensures
      (c.in_ok-push_startup.ensures ∙ ap (λ t. c.push_all-4.new.names.items ++ startup_of t) c.as_slice.ensures.value);
}
