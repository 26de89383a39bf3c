use Rattle.expand_expressions.proofs.FormulaLines.{formula_gives, dividends_fit}
use Rattle.expand_expressions.proofs.laws.lines_give_the_value.Goals as goal

pub returns : goal.returns
returns c = λ formula present free e below within all room.
    (formula_gives formula present free e below (dividends_fit formula e.states present all within) room).law
