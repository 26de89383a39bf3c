use Rattle.std.proofs.Common.{◌≡◌, ◌∷◌, [], Ok, Err}
use Rattle.std.proofs.lemmas.Result.{err_from_is_err_and}
use Rattle.reactor_program.specs.Tokens.{tokens_of}
use Rattle.reactor_program.specs.Grammar.{operator_token}
use Rattle.reactor_program.specs.declared.program.Expression.TheVariants.{Binary}
use Rattle.reactor_program.proofs.Readings.{paired_ok, paired_err}
use Rattle.reactor_program.proofs.StatementReadings.{token_alone, tokens_combined, single_reading, combined_reading}
use Rattle.reactor_program.proofs.reading.expression.expression.Goals as goal

pub returns-in_err-left : goal.returns-in_err-left
returns-in_err-left c =
    let p = err_from_is_err_and c.from_residual.result c.from_residual.ensures.1 in
    let tokens : tokens_of c.args.text.now ≡ c.in-Some.left.now ∷ [] = token_alone c.in-Some.ensures.tokens c.in_default-next_token.ensures.tokens in
    rw (p.1, p.2) (single_reading c.args.slots.now c.args.states.now (tokens_of c.args.text.now) c.in-Some.left.now tokens (Err c.in_err-left.field-0.0) c.in_err-left.ensures)

pub returns-in_default-next_token : goal.returns-in_default-next_token
returns-in_default-next_token c =
    let tokens : tokens_of c.args.text.now ≡ c.in-Some.left.now ∷ [] = token_alone c.in-Some.ensures.tokens c.in_default-next_token.ensures.tokens in
    single_reading c.args.slots.now c.args.states.now (tokens_of c.args.text.now) c.in-Some.left.now tokens (Ok c.in_ok-left.field-0) c.in_ok-left.ensures

pub returns-in_err-left-2 : goal.returns-in_err-left-2
returns-in_err-left-2 c =
    let p = err_from_is_err_and c.from_residual-in_err-left-2.result c.from_residual-in_err-left-2.ensures.1 in
    let o = c.in-Some-operator.operator in
    let tokens : tokens_of c.args.text.now ≡ c.in-Some.left.now ∷ operator_token o ∷ c.in-Some-only_token.right.now ∷ [] = tokens_combined o c.in-Some.ensures.tokens c.in-Some-next_token.ensures.tokens c.in-Some-operator.ensures c.in-Some-only_token.ensures in
    let whole = combined_reading c.args.slots.now c.args.states.now o (tokens_of c.args.text.now) c.in-Some.left.now c.in-Some-only_token.right.now tokens c.operand-left.result c.operand.result c.operand-left.ensures c.operand.ensures in
    rw (p.1, p.2) (rw (paired_err (λ a b. Binary a o b) c.operand-left.result c.operand.result c.in_err-left-2.field-0.0 c.in_err-left-2.ensures) at whole)

pub returns : goal.returns
returns c =
    let o = c.in-Some-operator.operator in
    let tokens : tokens_of c.args.text.now ≡ c.in-Some.left.now ∷ operator_token o ∷ c.in-Some-only_token.right.now ∷ [] = tokens_combined o c.in-Some.ensures.tokens c.in-Some-next_token.ensures.tokens c.in-Some-operator.ensures c.in-Some-only_token.ensures in
    let whole = combined_reading c.args.slots.now c.args.states.now o (tokens_of c.args.text.now) c.in-Some.left.now c.in-Some-only_token.right.now tokens c.operand-left.result c.operand.result c.operand-left.ensures c.operand.ensures in
    rw (paired_ok (λ a b. Binary a o b) c.operand-left.result c.operand.result c.in_ok-left-2.left c.in_ok-left-2.right c.in_ok-left-2.ensures) at whole
