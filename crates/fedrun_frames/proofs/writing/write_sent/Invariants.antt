use Rattle.std.proofs.Common.{get_or}
use Rattle.std.specs.Io.KnownBytes.{Appends}
use Rattle.world.specs.World.{stations_of}
use Rattle.files_text.specs.PlanText.{printed_each}
use Rattle.fedrun_frames.specs.Accounts.{no_frames, link_text}
use Rattle.fedrun_frames.proofs.writing.write_sent.Given as goal

-- those over the links so far are written
abbrev pub invariant-loop-federate : goal.invariant-loop-federate
invariant-loop-federate g l =
    Appends (g.W.Write.contents l.initial.out) (g.W.Write.contents l.out)
    (printed_each (λ j. link_text l.plan (stations_of l.world) (get_or l.before j no_frames) j) l.federate)
