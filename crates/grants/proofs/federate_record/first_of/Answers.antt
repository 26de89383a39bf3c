use Rattle.grants.proofs.Transit.{rises}
use Rattle.grants.proofs.federate_record.first_of.Goals as goal

pub returns-clause-rises : goal.returns-clause-rises
returns-clause-rises c = rises c.args.tags.now.keys c.len-count.ensures.ordered
