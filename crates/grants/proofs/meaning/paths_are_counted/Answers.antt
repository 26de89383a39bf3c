use Rattle.grants.proofs.Changes.{counted_paths}
use Rattle.grants.proofs.meaning.paths_are_counted.Goals as goal

pub returns : goal.returns
returns c = counted_paths
