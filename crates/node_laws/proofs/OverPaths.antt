-- The coordinator's rule is the grant rule over all paths.
use Rattle.std.proofs.Common.{ℕ, ◌<◌, arith, MatchOption}
use Rattle.std.proofs.lemmas.List.Elements.{All-weaker}
use Rattle.network.specs.Connection.{Connection}
use Rattle.network.specs.Wiring.{IsBetween, IsWired}
use Rattle.plan.specs.declared.draft.Draft.{Draft}
use Rattle.plan.specs.Federation.{connections_of, federate_count}
use Rattle.plan.specs.Legal.{IsLegal}
use Rattle.plan.specs.Least.{least_of}
use Rattle.plan.proofs.LeastLaws.{least}
use Rattle.plan.proofs.Plans.{ends_below}
use Rattle.protocol.specs.FederateRecord.{FederateRecord}
use Rattle.protocol.specs.Grant.{IsEligible}
use Rattle.protocol.specs.Bound.{IsWidest}
use Rattle.protocol_laws.proofs.FirstArrivals.{widest_grant}
use Rattle.node_cores.specs.CoordinatorCore.{wiring_in, rule_in}

-- the wiring of a legal plan is wired
legal_is_wired : (d : Draft) → IsLegal d → IsWired (wiring_in d)
legal_is_wired d legal = record {
  stop = record { time = legal.stop; microstep = omega arith };
  connections =
      All-weaker (λ (c : Connection). (c.source < federate_count d) × (c.target < federate_count d)) (IsBetween (federate_count d))
      (λ c k. record { source = k.0; target = k.1 }) (connections_of d) (ends_below d);
}

pub rule_over_paths : (d : Draft) (federate_records : ℕ → FederateRecord) (j : ℕ) → IsLegal d →
    MatchOption (rule_in d federate_records j) (IsEligible (wiring_in d) federate_records j → ⊥)
    (λ tag. IsEligible (wiring_in d) federate_records j × IsWidest (wiring_in d) federate_records j tag)
rule_over_paths d federate_records j legal =
    widest_grant (wiring_in d) (least_of d) federate_records j (legal_is_wired d legal) (λ i k. least d i k legal)
