use Rattle.plan_network.proofs.LawfulNetwork.{gives_lawful_with}
use Rattle.world_progress.proofs.Finished.{stuck_is_finished}
use Rattle.world_progress.proofs.a_stuck_world_is_finished.Goals as goal

pub returns : goal.returns
returns c = λ d programs inputs steps legal are given stuck. stuck_is_finished d programs inputs steps (gives_lawful_with d programs inputs legal are given) stuck
