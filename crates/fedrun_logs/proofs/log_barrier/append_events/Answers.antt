use Rattle.std.proofs.Common.{◌≡◌, length, arith}
use Rattle.fedrun_logs.proofs.Going.{no_events}
use Rattle.fedrun_logs.proofs.log_barrier.append_events.Goals as goal

pub returns-then-len-eq0 : goal.returns-then-len-eq0
returns-then-len-eq0 g c =
    let none : length c.args.events.now ≡ 0 = omega arith in
    no_events g.D.Device.is_known g.D.Device.synced c.args.file.now c.args.events.now none
