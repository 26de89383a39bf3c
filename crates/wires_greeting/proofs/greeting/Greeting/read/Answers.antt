use Rattle.std.proofs.Common.{rules}
use Rattle.wires_greeting.proofs.Spelling.{greeting_made}
use Rattle.wires_greeting.proofs.greeting.Greeting.read.Goals as goal

pub returns : goal.returns
returns c = greeting_made c.args.bytes.now c.from_be_bytes.result c.array_of.result c.array_of-2.result (search rules) (search rules) c.array_of.ensures c.array_of-2.ensures
