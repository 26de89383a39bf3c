use Rattle.std.proofs.lemmas.List.Elements.{recursion_from_All}
use Rattle.signal.specs.Frame.{IsFrame}
use Rattle.signal.proofs.Readable.{written_splits}
use Rattle.signal.proofs.laws.written_is_read.Goals as goal

pub returns : goal.returns
returns c = λ own peer frames rest from_one one_byte h. written_splits own peer frames rest from_one one_byte (recursion_from_All IsFrame frames h)
