use Rattle.std.proofs.Common.{[], ◌∷◌}
use Rattle.link_laws.proofs.Offers.{offers_open, offers_twice}
use Rattle.link_laws.proofs.offers_come_one_by_one.Goals as goal

pub returns-clause-one : goal.returns-clause-one
returns-clause-one c = λ s signal e. offers_open s (signal ∷ []) e

pub returns-clause-more : goal.returns-clause-more
returns-clause-more c = offers_twice
