use Rattle.std.proofs.Common.{◌++◌, sym, ap, ◌∙◌}
use Rattle.files_reports.proofs.sealing.check_name.Goals as goal

pub returns-in_default-clause-fault : goal.returns-in_default-clause-fault
returns-in_default-clause-fault c = λ rest e. c.in_default.ensures rest (e ∙ ap (λ front. front ++ rest) (sym c.name.ensures))
