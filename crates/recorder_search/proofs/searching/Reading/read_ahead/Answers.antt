use Rattle.std.proofs.Common.{◌≡◌, ◌∙◌, ◌++◌, length, take, drop, sym, ap}
use Rattle.std.proofs.Math.Seq.{take-append_seam}
use Rattle.recorder_search.proofs.searching.Reading.read_ahead.Goals as goal

pub returns-clause-reading : goal.returns-clause-reading
returns-clause-reading g c =
    let after = c.read_by_guesses.new.read in
    let rest = drop (length after) c.self.inside.read.items in
    let sized : length after ≡ c.self.inside.read.len = c.read_by_guesses.auto.read ∙ c.deref_mut.ensures.len in
    let kept : take c.self.inside.read.len (after ++ rest) ≡ after = ap (λ n. take n (after ++ rest)) (sym sized) ∙ take-append_seam after rest in
    rw kept (rw (← (c.deref_mut.ensures.value ∙ c.self.view_is)) c.read_by_guesses.ensures.reading)
