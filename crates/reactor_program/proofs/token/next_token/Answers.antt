use Rattle.std.proofs.Common.{◌≡◌, ◌≢◌, get_or, drop, ap, ◌∙◌, arith}
use Rattle.std.specs.List.{prefix_len}
use Rattle.reactor_program.specs.Tokens.{is_space}
use Rattle.reactor_program.proofs.Splitting.{empty_rest, colon_rest, word_rest}
use Rattle.reactor_program.proofs.FirstTokens.{colon_token, word_token_at}
use Rattle.reactor_program.proofs.token.next_token.Goals as goal

pub returns-in-empty-clause-tokens : goal.returns-in-empty-clause-tokens
returns-in-empty-clause-tokens c =
    let here : c.split_at.result.1.now ≡ drop (prefix_len is_space c.args.text.now) c.args.text.now = c.split_at.ensures.back ∙ ap (λ n. drop n c.args.text.now) c.spaces_len.ensures.value in
    empty_rest c.args.text.now c.split_at.result.1.now here c.in-empty.len_below

colon : (c : goal.After-split_at-in-58) → get_or c.split_at.result.1.now 0 0 ≡ 58
colon c = omega arith

pub returns-in-58-clause-tokens : goal.returns-in-58-clause-tokens
returns-in-58-clause-tokens c =
    let here : c.split_at.result.1.now ≡ drop (prefix_len is_space c.args.text.now) c.args.text.now = c.split_at.ensures.back ∙ ap (λ n. drop n c.args.text.now) c.spaces_len.ensures.value in
    rw (c.split_at-in-58.ensures.front, c.split_at-in-58.ensures.back) (colon_rest c.args.text.now c.split_at.result.1.now here c.in-58.len_at_least (colon c))

pub returns-in-58-clause-place : goal.returns-in-58-clause-place
returns-in-58-clause-place c =
    let here : c.split_at.result.1.now ≡ drop (prefix_len is_space c.args.text.now) c.args.text.now = c.split_at.ensures.back ∙ ap (λ n. drop n c.args.text.now) c.spaces_len.ensures.value in
    rw (c.split_at-in-58.ensures.front, c.split_at-in-58.ensures.back) (colon_token c.args.text.now c.split_at.result.1.now here c.in-58.len_at_least (colon c))

other : (c : goal.After-split_at-in_default) → get_or c.split_at.result.1.now 0 0 ≢ 58
other c = omega arith

pub returns-in_default-clause-tokens : goal.returns-in_default-clause-tokens
returns-in_default-clause-tokens c =
    let here : c.split_at.result.1.now ≡ drop (prefix_len is_space c.args.text.now) c.args.text.now = c.split_at.ensures.back ∙ ap (λ n. drop n c.args.text.now) c.spaces_len.ensures.value in
    rw (c.split_at-in_default.ensures.front, c.split_at-in_default.ensures.back, c.word_len.ensures.value) (word_rest c.args.text.now c.split_at.result.1.now here c.in_default.len_at_least (other c))

pub returns-in_default-clause-place : goal.returns-in_default-clause-place
returns-in_default-clause-place c =
    let here : c.split_at.result.1.now ≡ drop (prefix_len is_space c.args.text.now) c.args.text.now = c.split_at.ensures.back ∙ ap (λ n. drop n c.args.text.now) c.spaces_len.ensures.value in
    rw (c.split_at-in_default.ensures.front, c.split_at-in_default.ensures.back, c.word_len.ensures.value) (word_token_at c.args.text.now c.split_at.result.1.now here c.in_default.len_at_least (other c))
