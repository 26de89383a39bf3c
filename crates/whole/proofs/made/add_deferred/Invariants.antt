use Rattle.std.proofs.Common.{◌≡◌, ◌++◌, take}
use Rattle.std.specs.List.{flat_map}
use Rattle.whole.specs.Construction.{deferred_by}
use Rattle.whole.proofs.made.add_deferred.Given as goal

abbrev pub invariant-loop-scheduling : goal.invariant-loop-scheduling
invariant-loop-scheduling l = l.events.items ≡ l.initial.events.items ++ flat_map (deferred_by l.turn) (take l.scheduling-index l.turn.schedulings)
