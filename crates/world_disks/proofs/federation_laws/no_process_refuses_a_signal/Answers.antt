use Rattle.plan_network.proofs.LawfulNetwork.{gives_lawful_with}
use Rattle.world_disks.proofs.Federation.{live_refusals_are_harmless}
use Rattle.world_disks.proofs.federation_laws.no_process_refuses_a_signal.Goals as goal

pub returns : goal.returns
returns c = λ d programs inputs moves step o legal are given is.
    live_refusals_are_harmless d programs inputs moves (gives_lawful_with d programs inputs legal are given) step o is
