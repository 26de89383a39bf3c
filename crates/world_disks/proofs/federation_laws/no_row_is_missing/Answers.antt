use Rattle.plan_network.proofs.LawfulNetwork.{gives_lawful_with}
use Rattle.world_disks.proofs.Federation.{kept_stuck_rows, finished_on_disks}
use Rattle.world_disks.proofs.federation_laws.no_row_is_missing.Goals as goal

pub returns-clause-stuck : goal.returns-clause-stuck
returns-clause-stuck c = λ d programs inputs moves j legal are given below stuck.
    kept_stuck_rows d programs inputs moves (gives_lawful_with d programs inputs legal are given) j below stuck

pub returns-clause-finished : goal.returns-clause-finished
returns-clause-finished c = λ d programs inputs moves j s legal are given below is finished.
    let lawful = gives_lawful_with d programs inputs legal are given in
    finished_on_disks d programs inputs moves lawful j s below is finished
