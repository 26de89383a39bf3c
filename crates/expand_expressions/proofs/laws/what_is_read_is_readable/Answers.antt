use Rattle.expand_expressions.proofs.Readable.{read_readable}
use Rattle.expand_expressions.proofs.laws.what_is_read_is_readable.Goals as goal

pub returns : goal.returns
returns c = read_readable
