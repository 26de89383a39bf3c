use Rattle.protocol_laws.proofs.Computes.{histories_agree, rows_agree, one_begins_other}
use Rattle.protocol_laws.proofs.prefix.runs_agree.Goals as goal

pub returns-clause-histories : goal.returns-clause-histories
returns-clause-histories c = histories_agree

pub returns-clause-rows : goal.returns-clause-rows
returns-clause-rows c = rows_agree

pub returns-clause-prefixes : goal.returns-clause-prefixes
returns-clause-prefixes c = one_begins_other
