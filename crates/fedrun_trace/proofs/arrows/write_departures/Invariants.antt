use Rattle.std.proofs.Common.{get_or}
use Rattle.std.specs.Io.KnownBytes.{Appends}
use Rattle.world.specs.World.{stations_of}
use Rattle.files_text.specs.PlanText.{printed_each}
use Rattle.fedrun_frames.specs.Accounts.{no_frames}
use Rattle.fedrun_trace.specs.Steps.{link_departures}
use Rattle.fedrun_trace.proofs.arrows.write_departures.Given as goal

-- those over the links so far are written
abbrev pub invariant-loop-federate : goal.invariant-loop-federate
invariant-loop-federate g l =
    Appends (g.W.Write.contents l.initial.out) (g.W.Write.contents l.out)
    (printed_each (λ j. link_departures l.plan l.made l.number (stations_of l.world) (get_or l.before j no_frames) j) l.federate)
