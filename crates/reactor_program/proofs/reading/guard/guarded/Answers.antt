use Rattle.std.proofs.Common.{◌≡◌, ◌∷◌, codes}
use Rattle.std.proofs.lemmas.Result.{err_from_is_err_and}
use Rattle.reactor_program.specs.Tokens.{tokens_of}
use Rattle.reactor_program.proofs.Readings.{same_text, paired_ok, paired_err}
use Rattle.reactor_program.proofs.LineReadings.{done_after, guarded_reading}
use Rattle.reactor_program.proofs.reading.guard.guarded.Goals as goal

pub returns-in_err-condition : goal.returns-in_err-condition
returns-in_err-condition c =
    let p = err_from_is_err_and c.from_residual.result c.from_residual.ensures.1 in
    let equal = same_text c.in-Some-next_token.colon.now c.as_slice.result.now (codes ":") c.ne.result c.ne.ensures c.if-ne.false c.as_slice.ensures in
    let tokens : tokens_of c.args.text.now ≡ c.in-Some.condition.now ∷ codes ":" ∷ tokens_of c.in-Some-next_token.rest.now = cc (c.in-Some.ensures.tokens, c.in-Some-next_token.ensures.tokens) in
    let whole = guarded_reading c.args.slots.now c.args.states.now (tokens_of c.args.text.now) c.in-Some.condition.now (tokens_of c.in-Some-next_token.rest.now) tokens
    c.operand-condition.result c.statement-statement.result c.operand-condition.ensures c.statement-statement.ensures in
    rw (p.1, p.2) (rw (paired_err done_after c.operand-condition.result c.statement-statement.result c.in_err-condition.field-0.0 c.in_err-condition.ensures) at whole)

pub returns : goal.returns
returns c =
    let equal = same_text c.in-Some-next_token.colon.now c.as_slice.result.now (codes ":") c.ne.result c.ne.ensures c.if-ne.false c.as_slice.ensures in
    let tokens : tokens_of c.args.text.now ≡ c.in-Some.condition.now ∷ codes ":" ∷ tokens_of c.in-Some-next_token.rest.now = cc (c.in-Some.ensures.tokens, c.in-Some-next_token.ensures.tokens) in
    let whole = guarded_reading c.args.slots.now c.args.states.now (tokens_of c.args.text.now) c.in-Some.condition.now (tokens_of c.in-Some-next_token.rest.now) tokens
    c.operand-condition.result c.statement-statement.result c.operand-condition.ensures c.statement-statement.ensures in
    rw (paired_ok done_after c.operand-condition.result c.statement-statement.result c.in_ok-condition.condition c.in_ok-condition.statement c.in_ok-condition.ensures) at whole
