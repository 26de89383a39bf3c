use Rattle.wires_workers.specs.HandedIn.{handled, no_memory}
use Rattle.wires_workers.proofs.session.Session.enter.Goals as goal

pub returns-in-Ok : goal.returns-in-Ok
returns-in-Ok g c = handled c.in-Ok.ensures.slip.0 c.in-Ok.ensures.slip.1

pub returns-in-Err : goal.returns-in-Err
returns-in-Err g c = no_memory c.in-Err.ensures.unchanged
