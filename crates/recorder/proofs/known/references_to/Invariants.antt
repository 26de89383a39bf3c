use Rattle.std.proofs.Common.{◌≡◌, map, take}
use Rattle.recorder.proofs.known.references_to.Given as goal

-- the journals so far
abbrev pub invariant-loop-journal : goal.invariant-loop-journal
invariant-loop-journal l = map (λ j. j.now) l.journals.items ≡ (take l.journal-index l.known)
