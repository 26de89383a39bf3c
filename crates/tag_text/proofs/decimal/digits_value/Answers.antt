use Rattle.std.proofs.Common.{arith}
use Rattle.tag_text.proofs.Numerals.{no_room_to_shift, no_room_to_add, whole_number}
use Rattle.tag_text.proofs.decimal.digits_value.Goals as goal

pub returns-in_err-checked_mul : goal.returns-in_err-checked_mul
returns-in_err-checked_mul c =
    rw c.from_residual.ensures (no_room_to_shift c.args.digits.now c.loop-digit.digit-index c.loop-digit.number c.requires c.loop-digit-test.true c.loop-digit.invariant.number c.in_err-checked_mul.ensures)

pub returns-in_err-number : goal.returns-in_err-number
returns-in_err-number c =
    rw c.from_residual-in_err-number.ensures (no_room_to_add c.args.digits.now c.loop-digit.digit-index c.loop-digit.number c.requires c.loop-digit-test.true c.loop-digit.invariant.number (λ h. c.in_err-number.ensures (omega (arith, h, c.in_ok-checked_mul.ensures, c.from.ensures))))

pub returns : goal.returns
returns c =
    let whole = whole_number c.args.digits.now c.loop-digit.digit-index c.loop-digit.number c.loop-digit-test.false c.loop-digit.invariant.number in
    (omega arith, whole)
