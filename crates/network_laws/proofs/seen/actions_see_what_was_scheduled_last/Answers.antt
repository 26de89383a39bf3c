use Rattle.network_laws.proofs.Newest.{action_sees}
use Rattle.network_laws.proofs.seen.actions_see_what_was_scheduled_last.Goals as goal

pub returns : goal.returns
returns c = action_sees
