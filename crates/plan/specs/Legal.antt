-- Legal federations.
use Rattle.std.specs.Prelude.{◌^◌, ◌<◌, ◌≤◌, length, All, AllPairs, IsSome, IfSome}
use Rattle.network.specs.Lawful.{HaveDifferentEnds}
use Rattle.plan_paths.specs.Cycles.{HasNoZeroDelayCycle}
use Rattle.plan_slots.specs.Limits.{IsWithinLimits, IsTimerInRange}
use Rattle.plan.specs.declared.draft.Draft.{Draft}
use Rattle.plan.specs.declared.limits.TheConstants.{MOST_FEDERATES, MOST_CONNECTIONS}
use Rattle.plan_names.specs.Naming.{AreDistinct}
use Rattle.plan_slots.specs.Numbering.{all_names}
use Rattle.plan.specs.Federation.{federate_names, found_output, found_input, connections_of}

-- a draft that is a federation: within its limits, with names and ports as they must be, and without a cycle of no
-- delay
pub record IsLegal (d : Draft) : Type 0 where
  -- there is a federate, and there are not too many federates and connections
  pub some_federate : 0 < length d.federates
  pub few_federates : length d.federates ≤ MOST_FEDERATES
  pub few_connections : length d.connections ≤ MOST_CONNECTIONS
  pub few_slots : All (λ f. IsWithinLimits f.slots) d.federates
  -- no two federates, and no two slots of one federate, have one name
  pub federates_apart : AreDistinct (federate_names d.federates)
  pub slots_apart : All (λ f. AreDistinct (all_names f.slots)) d.federates
  -- timers
  pub timers : All (λ f. All IsTimerInRange f.slots.timers) d.federates
  -- the stop time is below 2^62 ns
  pub stop : d.stop < 2 ^ 62
  -- the times of delays are below 2^62 ns
  pub delays : All (λ c. IfSome c.after (λ t. t < 2 ^ 62)) d.connections
  -- each connection goes from an output that is there to an input that is there
  pub from_outputs : All (λ c. IsSome (found_output d.federates c.from)) d.connections
  pub to_inputs : All (λ c. IsSome (found_input d.federates c.to)) d.connections
  -- a port has at most one source
  pub one_source : AllPairs HaveDifferentEnds (connections_of d)
  pub no_zero_delay_cycle : HasNoZeroDelayCycle (connections_of d)
