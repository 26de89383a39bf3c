use Rattle.plan_network.proofs.LawfulNetwork.{gives_lawful_with}
use Rattle.world_progress.proofs.ClosingRounds.{closing_rounds_end}
use Rattle.world_progress.proofs.closing_rounds_end_stuck.Goals as goal

pub returns : goal.returns
returns c = λ d programs inputs steps p legal are given none is within small. closing_rounds_end d programs inputs legal (gives_lawful_with d programs inputs legal are given) small steps p none is within
