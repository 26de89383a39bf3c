use Rattle.std.proofs.Common.{◌≡◌, map, take}
use Rattle.network.specs.Undone.{put_all, pending_event_of}
use Rattle.plan.specs.External.{input_events_to}
use Rattle.federate.proofs.recorded.put_recorded.Given as goal

abbrev pub invariant-loop-input : goal.invariant-loop-input
invariant-loop-input l = record {
  stop : l.agenda.stop ≡ l.initial.agenda.stop;
  undone : l.agenda.undone ≡ put_all (map pending_event_of (input_events_to l.plan (take l.input-index l.inputs) l.federate)) l.initial.agenda.undone;
}
