use Rattle.coordinator.proofs.Sent.{affected_are_there}
use Rattle.coordinator.proofs.sending.prepare.Goals as goal

pub push_grants-requires : goal.push_grants-requires
push_grants-requires c = rw c.affected_by.ensures (affected_are_there c.args.table.now.wiring c.args.changed)
