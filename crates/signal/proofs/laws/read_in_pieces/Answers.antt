use Rattle.signal.proofs.Streams.{pieces}
use Rattle.signal.proofs.laws.read_in_pieces.Goals as goal

pub returns : goal.returns
returns c = pieces
