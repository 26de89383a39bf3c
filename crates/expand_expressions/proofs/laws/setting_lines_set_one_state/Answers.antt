use Rattle.expand_expressions.proofs.FormulaLines.{formula_sets, dividends_fit}
use Rattle.expand_expressions.proofs.laws.setting_lines_set_one_state.Goals as goal

pub returns : goal.returns
returns c = λ formula present free target e below within all there room.
    formula_sets formula present free target e below (dividends_fit formula e.states present all within) room there
