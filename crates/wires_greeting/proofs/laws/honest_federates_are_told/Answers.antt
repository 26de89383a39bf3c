use Rattle.wires_greeting.proofs.Honest.{telling_sent, is_told, hearing_sent}
use Rattle.wires_greeting.proofs.laws.honest_federates_are_told.Goals as goal

pub returns : goal.returns
returns c = record { challenge = telling_sent; proof = hearing_sent; told = is_told }
