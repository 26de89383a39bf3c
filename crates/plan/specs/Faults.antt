-- What each fault says of a draft.
use Rattle.std.specs.Prelude.{◌≡◌, ℕ, ◌<◌, ◌≤◌, ◌⊎◌, List, [], length, map, All, Any, IsSome, None, Some, slice_get}
use Rattle.network.specs.Connection.{Connection}
use Rattle.plan_paths.specs.Cycles.{HasNoCycleAt, IsCycleFrom}
use Rattle.plan_names.specs.declared.port.PortName.{PortName}
use Rattle.plan.specs.declared.draft.Draft.{Draft}
use Rattle.plan.specs.declared.plan_fault.PlanFault.{PlanFault}
use Rattle.plan.specs.declared.plan_fault.PlanFault.TheVariants.{NoFederate, UnknownName, TwoSources, ZeroDelayCycle}
use Rattle.plan.specs.declared.plan_fault.PlanFault.TheVariants.{OverLimit, BadTimer, Memory, RepeatedName}
use Rattle.plan.specs.declared.limits.TheConstants.{MOST_FEDERATES, MOST_CONNECTIONS}
use Rattle.plan_names.specs.Naming.{AreDistinct, StandsTwice}
use Rattle.plan_slots.specs.Numbering.{all_names}
use Rattle.plan.specs.Federation.{federate_names, found_output, found_input, connections_of}
use Rattle.plan_slots.specs.Limits.{IsWithinLimits, IsTimerInRange}

-- a connection names this port, and it isn't there
abbrev pub IsUnknown : Draft → PortName → Type 0
IsUnknown d p =
    Any (λ c. (c.from ≡ p) × (found_output d.federates p ≡ None)) d.connections
    ⊎ Any (λ c. (c.to ≡ p) × (found_input d.federates p ≡ None)) d.connections

-- two connections go to this port, and it is there
pub record HasTwoSources (d : Draft) (p : PortName) : Type 0 where
  pub found : IsSome (found_input d.federates p)
  pub twice : StandsTwice (map (λ c. c.to) d.connections) p

-- two federates have this name, or two slots of one federate
abbrev pub IsRepeated : Draft → List ℕ → Type 0
IsRepeated d name =
    StandsTwice (federate_names d.federates) name ⊎ Any (λ f. StandsTwice (all_names f.slots) name) d.federates

-- no two federates, and no two slots of one federate, have one name
pub record HasDistinctNames (d : Draft) : Type 0 where
  pub federates : AreDistinct (federate_names d.federates)
  pub slots : All (λ f. AreDistinct (all_names f.slots)) d.federates

-- each connection goes from an output that is there to an input that is there
pub record ArePortsThere (d : Draft) : Type 0 where
  pub from_outputs : All (λ c. IsSome (found_output d.federates c.from)) d.connections
  pub to_inputs : All (λ c. IsSome (found_input d.federates c.to)) d.connections

-- all limits hold
pub record IsWithinAllLimits (d : Draft) : Type 0 where
  pub federates : length d.federates ≤ MOST_FEDERATES
  pub connections : length d.connections ≤ MOST_CONNECTIONS
  pub slots : All (λ f. IsWithinLimits f.slots) d.federates

-- all timers are in range
abbrev pub AreTimersInRange : Draft → Type 0
AreTimersInRange d = All (λ f. All IsTimerInRange f.slots.timers) d.federates

-- the names of the federates of a zero-delay cycle, in the order of its path, from the lowest number on
pub record IsNamedCycle (d : Draft) (names : List (List ℕ)) : Type 0 where
  pub start : ℕ
  pub path : List Connection
  pub cycle : IsCycleFrom (connections_of d) start path
  pub none_lower : (lower : ℕ) → lower < start → HasNoCycleAt (connections_of d) lower
  pub named : map (λ name. Some name) names ≡ map (λ c. slice_get (federate_names d.federates) c.source) path

-- the fault is in the draft. Memory may be wanting for any draft
abbrev pub StandsIn : Draft → PlanFault → Type 0
StandsIn d NoFederate = d.federates ≡ []
StandsIn d (UnknownName p) = IsUnknown d p
StandsIn d (TwoSources p) = HasTwoSources d p
StandsIn d (ZeroDelayCycle names) = IsNamedCycle d names
StandsIn d OverLimit = ¬ IsWithinAllLimits d
StandsIn d BadTimer = ¬ AreTimersInRange d
StandsIn d Memory = Unit {0}
StandsIn d (RepeatedName name) = IsRepeated d name

-- a zero-delay cycle that is in the draft, or want of memory
abbrev pub IsCycleRefusal : Draft → PlanFault → Type 0
IsCycleRefusal d (ZeroDelayCycle names) = IsNamedCycle d names
IsCycleRefusal d Memory = Unit {0}
IsCycleRefusal d _ = ⊥
