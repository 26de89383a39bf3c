use Rattle.std.proofs.Common.{rules, refl}
use Rattle.expand_expressions.proofs.Spelled.{digits_read, lower_digits_read, name_read, enclosed_read, called_read, negative_read, opposite_read, not_taken, ended_read, joined_read}
use Rattle.expand_expressions.proofs.reading.Reader.+reading.Goals as goal

pub call-returns : goal.call-returns
call-returns t c =
    called_read _ _ _ _ _ _ _ _ _ _ c.in_ok-take_open.ensures c.in_ok-left.ensures c.in_ok-take_comma.ensures c.in_ok-right.ensures c.in_ok-take_close.ensures c.combined.ensures

pub enclosed-returns : goal.enclosed-returns
enclosed-returns t c = enclosed_read _ _ _ _ c.in_ok-formula.ensures c.in_ok-take_close.ensures

pub formula-returns-in-None : goal.formula-returns-in-None
formula-returns-in-None t c = ended_read _ _ _ _ _ _ c.operators.invariant c.in-None.ensures

pub formula-returns : goal.formula-returns
formula-returns t c = ended_read _ _ _ _ _ _ c.operators.invariant refl

pub negative-returns-in-Some : goal.negative-returns-in-Some
negative-returns-in-Some t c = lower_digits_read _ _ _ _ c.in-Some.ensures c.negated.ensures

pub negative-returns-in_ok-new-in-None : goal.negative-returns-in_ok-new-in-None
negative-returns-in_ok-new-in-None t c = negative_read _ _ _ _ _ c.in-None.ensures c.in_ok-formula-in-None.ensures (search rules)

pub operand-returns-in-Digits : goal.operand-returns-in-Digits
operand-returns-in-Digits t c = digits_read _ _ _ _ _ c.in_ok-magnitude.ensures c.in-Digits.is c.positive.ensures

pub operand-returns-in-Name : goal.operand-returns-in-Name
operand-returns-in-Name t c = name_read _ _ _ _ c.in_ok-magnitude.ensures c.in-Name.is

pub part-returns-then-take_not : goal.part-returns-then-take_not
part-returns-then-take_not t c =
    let h = not_taken c.take_not.result c.args.loosest c.args.self.now.rest.now c.take_not.new.self.rest.now c.if-take_not.true c.take_not.ensures in
    (h.0, opposite_read _ _ _ _ _ h.1 c.in_ok-formula.ensures (search rules))

pub formula-operators-preserved : goal.formula-operators-preserved
formula-operators-preserved t c =
    joined_read c.args.loosest c.operators.level c.level.result c.level-level.result _ _ _ _ _ _ _ _ c.operators.invariant.1 c.in-Some.ensures c.level.ensures.value c.in_ok-right-in-Some.ensures
    c.in_ok-formula-in-Some.ensures c.level-level.ensures.value
