use Rattle.std.proofs.Common.{◌∷◌, ap, ◌∙◌}
use Rattle.reactor_program.proofs.Durations.{timed_by_one, no_time_in_one, timed_by_two, no_time_in_two}
use Rattle.reactor_program.proofs.reading.schedule.timed.Goals as goal

pub returns-in_err-duration : goal.returns-in_err-duration
returns-in_err-duration c =
    let tokens = c.in_ok-first.ensures.tokens ∙ ap (λ ts. c.in_ok-first.first.now ∷ ts) c.in-Some.ensures in
    rw c.from_residual-in_err-duration.ensures (no_time_in_one c.args.text.now c.in_ok-first.first.now c.in-Some.value.now tokens c.in_err-duration.ensures)

pub returns-in-Some : goal.returns-in-Some
returns-in-Some c =
    let tokens = c.in_ok-first.ensures.tokens ∙ ap (λ ts. c.in_ok-first.first.now ∷ ts) c.in-Some.ensures in
    timed_by_one c.args.text.now c.in_ok-first.first.now c.in-Some.value.now c.in_ok-duration.field-0 tokens c.in_ok-duration.ensures.0 c.in_ok-duration.ensures.1

pub returns-in_err-duration-2 : goal.returns-in_err-duration-2
returns-in_err-duration-2 c =
    rw c.from_residual-in_err-duration-2.ensures (no_time_in_two c.args.text.now c.in_ok-first.first.now c.in_ok-first.rest.now c.in_ok-both.both.now c.in_ok-both.rest.now
    c.in_ok-first.ensures.tokens c.in_default.ensures c.in_ok-both.ensures c.in_err-duration-2.ensures)

pub returns : goal.returns
returns c =
    timed_by_two c.args.text.now c.in_ok-both.both.now c.in_ok-both.rest.now c.in_ok-value.value.now c.in_ok-duration-2.field-0
    c.in_ok-both.ensures c.in_ok-value.ensures c.in_ok-duration-2.ensures.0 c.in_ok-duration-2.ensures.1
