use Rattle.std.proofs.Common.{◌≡◌, take}
use Rattle.coordinator.specs.Sending.{all_granted}
use Rattle.coordinator.proofs.sending.note_grants.Given as goal

-- the posts so far are noted
abbrev pub invariant-loop-post : goal.invariant-loop-post
invariant-loop-post l = record {
  wiring : l.table.wiring ≡ l.fn.table.wiring;
  federate_records : l.table.federate_records ≡ all_granted l.fn.table.federate_records (take l.post-index l.posts);
}
