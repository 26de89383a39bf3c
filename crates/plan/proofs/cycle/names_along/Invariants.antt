use Rattle.std.proofs.Common.{◌≡◌, map, take}
use Rattle.std.specs.Prelude.{Some, slice_get}
use Rattle.plan.specs.Federation.{federate_names}
use Rattle.plan.proofs.cycle.names_along.Given as goal

abbrev pub invariant-loop-connection : goal.invariant-loop-connection
invariant-loop-connection l =
    map (λ name. Some name) l.names.items ≡ map (λ c. slice_get (federate_names l.federates) c.source) (take l.connection-index l.path)
