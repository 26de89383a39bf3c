use Rattle.std.proofs.Common.{◌+◌, get_or, sym, refl, map}
use Rattle.recorder_search.proofs.Onwards.{one_more}
use Rattle.recorder_search.proofs.reading.read_one.Goals as goal

pub returns-clause-goes_on : goal.returns-clause-goes_on
returns-clause-goes_on g c =
    let placed = rw c.in-Some-2.is at c.in_ok-place.ensures.placed in
    one_more g.M.StepMaker.motion g.met.M.StepMaker.forgetting (map (λ j. j.now) c.args.journals.now) (record { state = c.args.step_maker.now; read = c.args.read.now }) _ c.args.place c.in-Some.event c.in-Some-2.field-0
    c.requires (sym c.in-Some.ensures.event) (rw c.node_at.ensures at placed.0) placed.1 (get_or c.args.read.now c.args.place 0 + 1) refl refl
