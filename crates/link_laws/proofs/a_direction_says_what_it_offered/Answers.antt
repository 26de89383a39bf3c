use Rattle.std.proofs.Common.{◌+◌, drop}
use Rattle.network_laws.proofs.Lists.{from_each}
use Rattle.link_laws.specs.Direction.{IsGenuine}
use Rattle.signal.specs.Batch.{numbered}
use Rattle.link_laws.proofs.Ways.{way_with_more, way_with_old, resent_genuine}
use Rattle.link_laws.proofs.a_direction_says_what_it_offered.Goals as goal

pub returns-clause-more : goal.returns-clause-more
returns-clause-more c = way_with_more

pub returns-clause-old : goal.returns-clause-old
returns-clause-old c = way_with_old

pub returns-clause-resent : goal.returns-clause-resent
returns-clause-resent c = λ i k most offered l. from_each (IsGenuine i offered most) (numbered i (k + 1) (drop k offered)) (resent_genuine i k most offered l)
