use Rattle.std.proofs.Common.{◌≡◌, ◌+◌, true, false, ◌⊎◌, inl, inr, refl, map}
use Rattle.recorder_search.proofs.Onwards.{round_on}
use Rattle.recorder_search.proofs.reading.round.Goals as goal
use Rattle.recorder_search.proofs.reading.round.Goals.{then-branch, else-branch}

pub loop-place-preserved : goal.loop-place-preserved
loop-place-preserved g c =
    let how : ((c.in_ok-read_on.field-0 ≡ true) × (c.if-branch.moved ≡ true)) ⊎ ((c.in_ok-read_on.field-0 ≡ false) × (c.if-branch.moved ≡ c.loop-place.moved)) =
    elim c.if-branch.branch [ then-branch w ↦ inl (w.if-branch.true, w.moved-is) | else-branch w ↦ inr (w.if-branch.false, w.moved-is) ] in
    let both = round_on g.M.StepMaker.motion (map (λ j. j.now) c.args.journals.now)
    (record { state = c.args.step_maker.now; read = c.args.read.now })
    (record { state = c.loop-place.step_maker; read = c.loop-place.read })
    (record { state = c.read_on.new.step_maker; read = c.read_on.new.read }) c.loop-place.moved c.in_ok-read_on.field-0 c.if-branch.moved c.args.exact c.loop-place.place (c.loop-place.place + 1) refl
    c.loop-place.invariant.goes_on c.in_ok-read_on.ensures.goes_on how c.loop-place.invariant.blocked c.in_ok-read_on.ensures.blocked in
    record { goes_on = both.0; blocked = both.1 }
