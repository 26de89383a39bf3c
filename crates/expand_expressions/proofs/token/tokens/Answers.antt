use Rattle.std.proofs.Common.{rules, ◌≡◌, length}
use Rattle.expand_expressions.proofs.Tokens.{none_in_front, one_more, all_in_front}
use Rattle.expand_expressions.proofs.token.tokens.Goals as goal

pub loop-rest-init : goal.loop-rest-init
loop-rest-init c =
    none_in_front c.args.known.operands.now c.args.known.readable.now c.args.text.now c.after_spaces-rest.result.now c.new-tokens.result.items c.new-tokens.ensures.items c.after_spaces-rest.ensures.spaces

pub loop-rest-preserved : goal.loop-rest-preserved
loop-rest-preserved c =
    one_more c.args.known.operands.now c.args.known.readable.now c.args.text.now c.loop-rest.rest.now c.in_ok-token.after.now c.after_spaces-rest-in-loop-rest.result.now c.loop-rest.tokens.items c.push.new.self.items c.in_ok-token.token
    c.in_ok-push.ensures.items c.loop-rest.invariant c.in_ok-token.ensures.first c.after_spaces-rest-in-loop-rest.ensures.spaces

pub returns : goal.returns
returns c =
    let none : length c.loop-rest.rest.now ≡ 0 = search rules in
    all_in_front c.args.known.operands.now c.args.known.readable.now c.args.text.now c.loop-rest.rest.now c.loop-rest.tokens.items c.loop-rest.invariant none
