use Rattle.std.proofs.Common.{map, true}
use Rattle.recorder_search.specs.Reading.{GoesOn}
use Rattle.recorder_search.proofs.reading.read_on.Given as goal

-- what was read so far
abbrev pub invariant-loop : goal.invariant-loop
invariant-loop g l =
    GoesOn g.M.StepMaker.motion (map (λ j. j.now) l.journals) (record { state = l.fn.step_maker; read = l.fn.read })
    (record { state = l.step_maker; read = l.read }) true
