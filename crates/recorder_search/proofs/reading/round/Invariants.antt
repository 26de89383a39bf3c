use Rattle.std.proofs.Common.{◌≡◌, ℕ, ◌<◌, true, false, map}
use Rattle.recorder_search.specs.Reading.{GoesOn, IsBlocked}
use Rattle.recorder_search.proofs.reading.round.Given as goal

-- what was read so far; while nothing is, no step is a next event so far
abbrev pub invariant-loop-place : goal.invariant-loop-place
invariant-loop-place g l = record {
  goes_on : GoesOn g.M.StepMaker.motion (map (λ j. j.now) l.journals) (record { state = l.fn.step_maker; read = l.fn.read })
      (record { state = l.step_maker; read = l.read }) l.moved;
  blocked : l.moved ≡ false → l.exact ≡ true → (k : ℕ) → k < l.place →
      IsBlocked g.M.StepMaker.motion (map (λ j. j.now) l.journals) (record { state = l.fn.step_maker; read = l.fn.read }) k;
}
