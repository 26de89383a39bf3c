use Rattle.signal.proofs.Streams.{one_answer}
use Rattle.signal.proofs.reader.FrameReader.next.Goals as goal

pub returns-clause-only : goal.returns-clause-only
returns-clause-only c = λ answer after gives. one_answer c.args.self.now c.read.result answer c.read.new.self after c.read.ensures gives
