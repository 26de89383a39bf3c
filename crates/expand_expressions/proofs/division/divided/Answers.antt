use Rattle.std.proofs.Common.{rules, ◌≡◌, ◌∙◌, pos, false, ap, w64, FitsSigned}
use Rattle.std.specs.Prelude.{nat_lt, int_lt, unsigned_abs}
use Rattle.std.proofs.lemmas.Int.{to_z-of_z}
use Rattle.expand_expressions.proofs.Answered.{divided_done}
use Rattle.expand_expressions.proofs.division.divided.Goals as goal

pub returns : goal.returns
returns c =
    let d = c.args.divisor in
    let fits : FitsSigned w64 d = search rules in
    let same = to_z-of_z w64 d fits in
    let size_is : c.unsigned_abs-size.result ≡ unsigned_abs d = c.unsigned_abs-size.ensures.value ∙ ap unsigned_abs same in
    let some : nat_lt c.unsigned_abs-size.result 2 ≡ false = search rules in
    divided_done c.args.free c.args.is_quotient d c.unsigned_abs-size.result _ c.args.value _ _ _ _ _ _ _ size_is some (ap (λ d. int_lt d (pos 0)) same) c.answer_state.ensures c.assignment.ensures c.in_ok-put.ensures c.in_ok-begin.ensures
    c.in_ok-take_all_off.ensures c.in_ok-turn.ensures
