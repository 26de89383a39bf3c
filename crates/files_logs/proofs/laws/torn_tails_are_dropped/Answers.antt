use Rattle.files_logs.proofs.Whole.{torn_dropped}
use Rattle.files_logs.proofs.laws.torn_tails_are_dropped.Goals as goal

pub returns : goal.returns
returns c = λ head blocks tail h t. torn_dropped head blocks tail h t
