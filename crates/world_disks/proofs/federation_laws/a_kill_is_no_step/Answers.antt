use Rattle.world_disks.proofs.Federation.{keeps_a_federation, lives_in_a_federation, makes_in_a_federation}
use Rattle.world_disks.proofs.Federation.{keeping_in_a_federation, begins_again}
use Rattle.world_disks.proofs.federation_laws.a_kill_is_no_step.Goals as goal

pub returns-clause-kept : goal.returns-clause-kept
returns-clause-kept c = keeps_a_federation

pub returns-clause-live : goal.returns-clause-live
returns-clause-live c = lives_in_a_federation

pub returns-clause-made : goal.returns-clause-made
returns-clause-made c = makes_in_a_federation

pub returns-clause-unseen : goal.returns-clause-unseen
returns-clause-unseen c = keeping_in_a_federation

pub returns-clause-back : goal.returns-clause-back
returns-clause-back c = begins_again
