use Rattle.network_laws.proofs.OneMore.{newer_turns}
use Rattle.network_laws.proofs.seen.newer_turns_count_first.Goals as goal

pub returns : goal.returns
returns c = newer_turns
