use Rattle.protocol_laws.proofs.Eligibility.{lawful_is_wired}
use Rattle.protocol_laws.proofs.Wired.{wiring_is_wired}
use Rattle.protocol_laws.proofs.bounds.lawful_networks_are_wired.Goals as goal

pub returns-clause-lawful : goal.returns-clause-lawful
returns-clause-lawful c = lawful_is_wired

pub returns-clause-wiring : goal.returns-clause-wiring
returns-clause-wiring c = wiring_is_wired
