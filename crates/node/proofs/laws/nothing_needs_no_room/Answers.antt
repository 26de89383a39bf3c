use Rattle.node.proofs.Ends.{no_posts}
use Rattle.node.proofs.laws.nothing_needs_no_room.Goals as goal

pub returns : goal.returns
returns c = no_posts 0
