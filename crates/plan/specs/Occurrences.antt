-- Which occurrences of physical actions recorded inputs are.
use Rattle.std.specs.Prelude.{List, Option}
use Rattle.std.specs.Option.{option_map}
use Rattle.plan.specs.declared.draft.Federate.{Federate}
use Rattle.plan.specs.declared.input.Input.{Input}
use Rattle.plan.specs.declared.input.Occurrence.{Occurrence}
use Rattle.plan.specs.External.{found_action}

-- an input's physical action by numbers, if it is there, with the input's tag
abbrev pub occurrence_of : List Federate → Input → Option Occurrence
occurrence_of federates i =
    option_map (λ found. record { federate = found.federate; place = found.place; tag = i.tag })
    (found_action federates i)
