use Rattle.std.proofs.Common.{arith}
use Rattle.files_logs.proofs.Beginnings.{none_begins}
use Rattle.files_logs.proofs.Found.{begins_at}
use Rattle.files_logs.proofs.front.begins_block.Goals as goal

pub returns-then-bytes-lt-BEGIN_SIZE : goal.returns-then-bytes-lt-BEGIN_SIZE
returns-then-bytes-lt-BEGIN_SIZE c = none_begins c.args.bytes.now c.if-bytes-lt-BEGIN_SIZE.true

pub returns : goal.returns
returns c =
    begins_at c.is_size.result c.take_eight-sum.result.0 c.take_four-size.result.0 c.take_four-check.result.0 c.args.bytes.now c.take_eight-sum.result.1.now c.take_four-size.result.1.now
    c.take_four-check.result.1.now (omega (arith, c.if-bytes-lt-BEGIN_SIZE.false)) c.take_eight-sum.ensures.value c.take_eight-sum.ensures.rest c.take_four-size.ensures.value
    c.take_four-size.ensures.rest c.take_four-check.ensures.value c.take_four-size.ensures.parts c.take_four-check.ensures.parts c.is_size.ensures.0 c.is_size.ensures.1
