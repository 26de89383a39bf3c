-- What a coordinator saw of its federates, or a federate of itself.
use Rattle.std.specs.Prelude.{Bool, List, map, Option, is_none}
use Rattle.tag.specs.LogicalTime.{LogicalTime}
use Rattle.wires_hosts.specs.declared.seen.Seen.{Seen}

-- whether each is there: the run doesn't wait for it
abbrev pub are_there : List Seen → List Bool
are_there seen = map (λ of. is_none of.awaited_since_ms) seen

-- the last tag that each has completed
abbrev pub completed_by : List Seen → List (Option LogicalTime)
completed_by seen = map (λ of. of.reached.completed) seen
