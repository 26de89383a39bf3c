use Rattle.std.proofs.Common.{◌≤◌, length, ap, arith}
use Rattle.fedrun_logs.proofs.Handed.{all_in}
use Rattle.fedrun_logs.proofs.replaying.hand_in.Goals as goal

pub returns : goal.returns
returns g c =
    let all : length c.args.events.now ≤ c.handle_batch-made.result = omega (arith, ap length c.events.ensures) in
    all_in c.args.share.now c.handle_batch-made.new.share c.args.events.now c.handle_batch-made.result c.handle_batch-made.ensures.slips all
