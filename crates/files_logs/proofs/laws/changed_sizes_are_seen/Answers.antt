use Rattle.files_logs.proofs.Whole.{size_changed}
use Rattle.files_logs.proofs.laws.changed_sizes_are_seen.Goals as goal

pub returns : goal.returns
returns c = λ head blocks tail size said behind sum next h wrong e eight fits few. size_changed head blocks tail size said behind sum next h wrong e eight fits few
