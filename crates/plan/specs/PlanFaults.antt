-- The faults of a draft: their numbers, and how they are printed.
use Rattle.std.specs.Prelude.{ℕ, List, [], ◌++◌, codes}
use Rattle.std.specs.List.{flat_map}
use Rattle.std.specs.Fmt.{decimal}
use Rattle.plan_names.specs.Ports.{printed_port}
use Rattle.plan.specs.declared.plan_fault.PlanFault.{PlanFault}
use Rattle.plan.specs.declared.plan_fault.PlanFault.TheVariants.{NoFederate, UnknownName, TwoSources, ZeroDelayCycle}
use Rattle.plan.specs.declared.plan_fault.PlanFault.TheVariants.{OverLimit, BadTimer, Memory, RepeatedName}

-- the fault's number
abbrev pub number_of : PlanFault → ℕ
number_of NoFederate = 10
number_of (UnknownName p) = 11
number_of (TwoSources p) = 12
number_of (ZeroDelayCycle names) = 13
number_of OverLimit = 14
number_of BadTimer = 15
number_of Memory = 16
number_of (RepeatedName name) = 17

-- names, each after a space
abbrev pub spaced : List (List ℕ) → List ℕ
spaced names = flat_map (λ name. codes " " ++ name) names

-- the fault's name
abbrev pub name_of : PlanFault → List ℕ
name_of NoFederate = codes "NoFederate"
name_of (UnknownName p) = codes "UnknownName"
name_of (TwoSources p) = codes "TwoSources"
name_of (ZeroDelayCycle names) = codes "ZeroDelayCycle"
name_of OverLimit = codes "OverLimit"
name_of BadTimer = codes "BadTimer"
name_of Memory = codes "Memory"
name_of (RepeatedName name) = codes "RepeatedName"

-- what it is about, after a space
abbrev pub about : PlanFault → List ℕ
about NoFederate = []
about (UnknownName p) = codes " " ++ printed_port p
about (TwoSources p) = codes " " ++ printed_port p
about (ZeroDelayCycle names) = spaced names
about OverLimit = []
about BadTimer = []
about Memory = []
about (RepeatedName name) = codes " " ++ name

-- how the fault is printed: by number and name, and what it is about
abbrev pub printed_fault : PlanFault → List ℕ
printed_fault fault = decimal (number_of fault) ++ (codes " " ++ (name_of fault ++ about fault))
