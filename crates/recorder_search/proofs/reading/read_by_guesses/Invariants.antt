use Rattle.std.proofs.Common.{map}
use Rattle.recorder_search.specs.Reading.{IsReading, unread}
use Rattle.recorder_search.proofs.reading.read_by_guesses.Given as goal

-- what was read so far
abbrev pub invariant-loop : goal.invariant-loop
invariant-loop g l =
    (initial : _) → IsReading g.M.StepMaker.motion initial (map (λ j. j.now) l.journals) (record { state = l.fn.step_maker; read = l.fn.read }) →
    IsReading g.M.StepMaker.motion initial (map (λ j. j.now) l.journals) (record { state = l.step_maker; read = l.read })

-- how much isn't read
abbrev pub decreases-loop : goal.decreases-loop
decreases-loop g l = unread (map (λ j. j.now) l.journals) l.read
