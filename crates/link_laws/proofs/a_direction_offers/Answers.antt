use Rattle.std.proofs.Common.{IsTrue}
use Rattle.std.specs.Prelude.{length}
use Rattle.network_laws.proofs.Lists.{each, from_each}
use Rattle.link_laws.specs.Direction.{offered_in, is_old}
use Rattle.signal.specs.Batch.{numbered}
use Rattle.std.proofs.Common.{◌+◌, drop}
use Rattle.link_laws.proofs.Ways.{offers_more, offers_same, resent_old}
use Rattle.link_laws.proofs.a_direction_offers.Goals as goal

pub returns-clause-more : goal.returns-clause-more
returns-clause-more c = offers_more

pub returns-clause-same : goal.returns-clause-same
returns-clause-same c = λ i frames others h. offers_same i frames others (each (λ f. IsTrue (is_old i (length (offered_in i frames)) f)) others h)

pub returns-clause-resent : goal.returns-clause-resent
returns-clause-resent c = λ i k offered l. from_each (λ f. IsTrue (is_old i (length offered) f)) (numbered i (k + 1) (drop k offered)) (resent_old i k offered l)
