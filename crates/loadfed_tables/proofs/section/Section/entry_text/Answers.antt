use Rattle.loadfed_tables.proofs.Refusals.{told}
use Rattle.loadfed_tables.proofs.section.Section.entry_text.Goals as goal

pub returns-in-Some-clause-ok : goal.returns-in-Some-clause-ok
returns-in-Some-clause-ok c = c.in-Some.ensures

pub returns-in-None-clause-refused : goal.returns-in-None-clause-refused
returns-in-None-clause-refused c = told _ _ _ c.in-None.ensures c.wrong_shape.ensures
