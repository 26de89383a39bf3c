use Rattle.std.proofs.Common.{inr}
use Rattle.expand_bodies.proofs.Fronts.{between_read}
use Rattle.expand_bodies.proofs.reading.Reader.read.Goals as goal

pub returns : goal.returns
returns c =
    let left = c.first_part in
    let right = c.first_part-2 in
    inr
    (between_read c.args.self.now.operands.items c.args.self.now.names.now.readable c.args.text.now left.result.0.now left.result.1.now right.result.0.now right.result.1.now c.in-Some.combination c.in_ok-expression.field-0 c.in_ok-left.left.value
    c.in_ok-expression-2.field-0 c.in_ok-right.right.value left.ensures right.ensures c.in-Some.ensures c.in_ok-left.ensures.ok c.in_ok-expression.ensures c.in_ok-right.ensures.ok c.in_ok-expression-2.ensures)
