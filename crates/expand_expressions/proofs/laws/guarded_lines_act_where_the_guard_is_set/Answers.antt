use Rattle.expand_expressions.proofs.FormulaLines.{formula_guarded, dividends_fit}
use Rattle.expand_expressions.proofs.laws.guarded_lines_act_where_the_guard_is_set.Goals as goal

pub returns : goal.returns
returns c = λ formula present free guard target e is_set below within all there room in_front is.
    formula_guarded formula present free guard target e is_set below (dividends_fit formula e.states present all within) room there in_front is
