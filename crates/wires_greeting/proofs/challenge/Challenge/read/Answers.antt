use Rattle.std.proofs.Common.{rules}
use Rattle.wires_greeting.proofs.Spelling.{challenge_made}
use Rattle.wires_greeting.proofs.challenge.Challenge.read.Goals as goal

pub returns : goal.returns
returns c = challenge_made c.args.bytes.now c.in_ok-answer.answer c.array_of.result c.array_of-2.result (search rules) c.array_of.ensures c.array_of-2.ensures
