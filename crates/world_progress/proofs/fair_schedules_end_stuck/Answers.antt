use Rattle.plan_network.proofs.LawfulNetwork.{gives_lawful_with}
use Rattle.world_progress.proofs.FairSchedules.{fair_schedules_end}
use Rattle.world_progress.proofs.fair_schedules_end_stuck.Goals as goal

pub returns : goal.returns
returns c = λ d programs inputs steps segments legal are given fair none none_later small enough. fair_schedules_end d programs inputs legal (gives_lawful_with d programs inputs legal are given) small steps segments fair none none_later enough
