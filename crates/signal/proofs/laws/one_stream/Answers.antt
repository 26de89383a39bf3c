use Rattle.signal.proofs.Streams.{one_splitting}
use Rattle.signal.proofs.laws.one_stream.Goals as goal

pub returns : goal.returns
returns c = one_splitting
