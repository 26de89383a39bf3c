use Rattle.std.proofs.Common.{map}
use Rattle.recorder_search.specs.Reading.{IsReading, unread}
use Rattle.recorder_search.proofs.reading.read_all.Given as goal

-- what was read so far
abbrev pub invariant-loop-step_maker : goal.invariant-loop-step_maker
invariant-loop-step_maker g l =
    (initial : _) → IsReading g.M.StepMaker.motion initial (map (λ j. j.now) l.journals) (record { state = l.fn.step_maker; read = l.fn.read }) →
    IsReading g.M.StepMaker.motion initial (map (λ j. j.now) l.journals) (record { state = l.step_maker; read = l.read })

-- how much isn't read
abbrev pub decreases-loop-step_maker : goal.decreases-loop-step_maker
decreases-loop-step_maker g l = unread (map (λ j. j.now) l.journals) l.read
