use Rattle.std.proofs.Common.{◌++◌, arith}
use Rattle.expand_expressions.specs.Division.{all_taken_off}
use Rattle.expand_expressions.proofs.Answered.{bit_step, bit_end}
use Rattle.expand_expressions.proofs.division.take_all_off.Goals as goal

pub loop-bit-preserved : goal.loop-bit-preserved
loop-bit-preserved c =
    bit_step c.args.free c.args.is_quotient c.args.size c.loop-bit.bit c.loop-bit.lines.items c.take_bit_off.new.lines.items
    (c.args.lines.now.items ++ all_taken_off c.args.free c.args.is_quotient c.args.size 63) c.loop-bit-test.true c.loop-bit.invariant c.in_ok-take_bit_off.ensures

pub returns : goal.returns
returns c =
    bit_end c.args.free c.args.is_quotient c.args.size c.loop-bit.bit c.loop-bit.lines.items
    (c.args.lines.now.items ++ all_taken_off c.args.free c.args.is_quotient c.args.size 63) (omega (arith, c.loop-bit-test.false)) c.loop-bit.invariant
