use Rattle.std.proofs.Common.{refl}
use Rattle.wires_traffic.proofs.Counted.{counted_as}
use Rattle.wires_traffic.proofs.counter.one_send.Goals as goal

pub returns : goal.returns
returns c = rw (counted_as c.args.before c.args.frames.now c.of.result c.of.ensures, c.batches_sent.ensures) refl
