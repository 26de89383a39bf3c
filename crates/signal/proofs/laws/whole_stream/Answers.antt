use Rattle.signal.proofs.Sessions.{tells}
use Rattle.signal.proofs.laws.whole_stream.Goals as goal

pub returns : goal.returns
returns c = tells
