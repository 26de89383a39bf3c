use Rattle.link.proofs.Sent.{Carries-offer, Carries-resent, Carries-more}
use Rattle.link.proofs.laws.sends_what_was_offered.Goals as goal

pub returns : goal.returns
returns c = record { offer = Carries-offer; resent = Carries-resent; later = Carries-more }
