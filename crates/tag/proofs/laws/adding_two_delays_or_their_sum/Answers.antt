use Rattle.tag.proofs.SumLaws.{sum_twice_at_least}
use Rattle.tag.proofs.laws.adding_two_delays_or_their_sum.Goals as goal

pub returns-clause-at_least : goal.returns-clause-at_least
returns-clause-at_least c = sum_twice_at_least
