use Rattle.plan_network.proofs.LawfulNetwork.{gives_lawful_with}
use Rattle.world_disks.proofs.Federation.{keeps_nothing_late, live_takes_nothing_late}
use Rattle.world_disks.proofs.federation_laws.nothing_is_taken_late.Goals as goal

pub returns-clause-kept : goal.returns-clause-kept
returns-clause-kept c = λ d programs inputs moves j legal are given.
    keeps_nothing_late d programs inputs moves (gives_lawful_with d programs inputs legal are given) j

pub returns-clause-live : goal.returns-clause-live
returns-clause-live c = λ d programs inputs moves step j incarnation legal are given.
    let lawful = gives_lawful_with d programs inputs legal are given in
    live_takes_nothing_late d programs inputs moves lawful step j incarnation
