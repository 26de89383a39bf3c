use Rattle.std.proofs.Common.{◌∙◌, ap, sym, [], ◌∷◌, map, length, ◌<◌}
use Rattle.network.specs.Undone.{put_all, pending_event_of}
use Rattle.plan.specs.External.{input_events_to}
use Rattle.federate.proofs.RecordedInputs.{put_more}
use Rattle.federate.proofs.recorded.put_recorded.Goals as goal

pub loop-input-preserved : goal.loop-input-preserved
loop-input-preserved c =
    let within : c.loop-input.input-index < length c.args.inputs.now = rw (← c.as_slice-input-items.ensures) c.loop-input-test.true in
    let is = rw c.as_slice-input-items.ensures at c.input-item.is in
    record {
      stop = c.in_ok-put_own.ensures.stop ∙ c.loop-input.invariant.stop;
      undone = c.in_ok-put_own.ensures.pending
          ∙ ap (put_all (map pending_event_of (input_events_to c.args.plan.now (c.input-item.result ∷ []) c.args.federate))) c.loop-input.invariant.undone
          ∙ sym (put_more c.args.plan.now c.args.inputs.now c.loop-input.input-index c.input-item.result c.args.federate c.args.agenda.now.undone within is);
    }
