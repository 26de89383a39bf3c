-- The wiring of a plan is sound.
use Rattle.std.proofs.Common.{◌<◌, arith}
use Rattle.std.proofs.lemmas.List.Elements.{All-weaker}
use Rattle.network.specs.Connection.{Connection}
use Rattle.network.specs.Wiring.{IsBetween}
use Rattle.plan.specs.declared.draft.Draft.{Draft}
use Rattle.plan.specs.Federation.{connections_of, federate_count}
use Rattle.plan.specs.Legal.{IsLegal}
use Rattle.plan.proofs.LeastLaws.{least}
use Rattle.plan.proofs.Plans.{ends_below}
use Rattle.grants.specs.Wiring.{IsWiring, federation_wiring}

pub wiring_is : (d : Draft) → IsLegal d → IsWiring (federation_wiring d)
wiring_is d legal = record {
  wired = record {
    stop = record { time = legal.stop; microstep = omega arith };
    connections =
        All-weaker (λ (c : Connection). (c.source < federate_count d) × (c.target < federate_count d)) (IsBetween (federate_count d))
        (λ c k. record { source = k.0; target = k.1 }) (connections_of d) (ends_below d);
  };
  least = λ i j. least d i j legal;
}
