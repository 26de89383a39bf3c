use Rattle.wires_greeting.proofs.Honest.{challenge_sent, is_let_in, proof_sent}
use Rattle.wires_greeting.proofs.laws.honest_sides_go_on.Goals as goal

pub returns : goal.returns
returns c = record { challenge = challenge_sent; proof = proof_sent; let_in = is_let_in }
