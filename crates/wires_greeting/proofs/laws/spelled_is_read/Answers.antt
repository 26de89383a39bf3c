use Rattle.wires_greeting.proofs.Spelling.{greeting_read, only_greeting, challenge_read, only_challenge}
use Rattle.wires_greeting.proofs.laws.spelled_is_read.Goals as goal

pub returns : goal.returns
returns c = record { greeting = greeting_read; no_other_greeting = only_greeting; challenge = challenge_read; no_other_challenge = only_challenge }
