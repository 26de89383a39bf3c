use Rattle.std.proofs.Common.{◌++◌, length}
use Rattle.std.proofs.lemmas.List.{drop-replicate}
use Rattle.wires_greeting.proofs.hmac.fill.Goals as goal

pub returns : goal.returns
returns c = λ i. c.copy_from_slice.ensures.after i ++ drop-replicate (length c.args.key.now) 64 0 i
