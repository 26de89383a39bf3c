use Rattle.expand_expressions.proofs.Tokens.{word_first}
use Rattle.expand_expressions.proofs.token.next_token.Goals as goal

pub returns-clause-first : goal.returns-clause-first
returns-clause-first c =
    word_first c.args.known.operands.now c.args.known.readable.now c.args.text.now c.front_word.result.0.now c.front_word.result.1.now c.in_ok-word_token.field-0 c.front_word.ensures.parts c.in_ok-word_token.ensures
