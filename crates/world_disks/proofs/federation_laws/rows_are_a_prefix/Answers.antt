use Rattle.plan_network.proofs.LawfulNetwork.{gives_lawful_with}
use Rattle.world_disks.proofs.Federation.{kept_rows_begin, live_rows_begin}
use Rattle.world_disks.proofs.federation_laws.rows_are_a_prefix.Goals as goal

pub returns-clause-kept : goal.returns-clause-kept
returns-clause-kept c = λ d programs inputs moves j legal are given below.
    kept_rows_begin d programs inputs moves (gives_lawful_with d programs inputs legal are given) j below

pub returns-clause-live : goal.returns-clause-live
returns-clause-live c = λ d programs inputs moves j legal are given below.
    live_rows_begin d programs inputs moves (gives_lawful_with d programs inputs legal are given) j below
