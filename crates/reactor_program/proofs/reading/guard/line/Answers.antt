use Rattle.std.proofs.Common.{Ok, Err, codes}
use Rattle.std.proofs.lemmas.Result.{err_from_is_err_and}
use Rattle.reactor_program.specs.Tokens.{tokens_of}
use Rattle.reactor_program.proofs.Readings.{other_text}
use Rattle.reactor_program.proofs.LineReadings.{line_reading}
use Rattle.reactor_program.proofs.reading.guard.line.Goals as goal

pub returns-in_err-statement : goal.returns-in_err-statement
returns-in_err-statement c =
    let p = err_from_is_err_and c.from_residual.result c.from_residual.ensures.1 in
    let other = other_text c.in-Some.first.now c.as_slice.result.now (codes "when") c.eq.result c.eq.ensures c.if-eq.false c.as_slice.ensures in
    rw (p.1, p.2) (line_reading c.args.slots.now c.args.states.now (tokens_of c.args.text.now) c.in-Some.first.now (tokens_of c.in-Some.rest.now) c.in-Some.ensures.tokens other
    (Err c.in_err-statement.field-0.0) c.in_err-statement.ensures)

pub returns : goal.returns
returns c =
    let other = other_text c.in-Some.first.now c.as_slice.result.now (codes "when") c.eq.result c.eq.ensures c.if-eq.false c.as_slice.ensures in
    line_reading c.args.slots.now c.args.states.now (tokens_of c.args.text.now) c.in-Some.first.now (tokens_of c.in-Some.rest.now) c.in-Some.ensures.tokens other
    (Ok c.in_ok-statement.field-0) c.in_ok-statement.ensures
