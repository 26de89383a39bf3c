use Rattle.std.proofs.Common.{◌≡◌, [], ◌∷◌, drop, sym, ap, ◌∙◌}
use Rattle.std.specs.List.{prefix_len}
use Rattle.reactor_program.specs.Tokens.{is_space, tokens_of}
use Rattle.reactor_program.proofs.Splitting.{after_spaces}
use Rattle.reactor_program.proofs.FirstTokens.{two_first}
use Rattle.reactor_program.proofs.token.two_tokens.Goals as goal

pub returns-in_err-rest : goal.returns-in_err-rest
returns-in_err-rest c =
    let here : c.split_at.result.1.now ≡ drop (prefix_len is_space c.args.text.now) c.args.text.now = cc in
    let same : tokens_of c.args.text.now ≡ tokens_of c.split_at.result.1.now = after_spaces c.args.text.now ∙ ap tokens_of (sym here) in
    rw c.from_residual.ensures (λ first second rest e. let f : [] ≡ first ∷ second ∷ rest = sym c.in_err-rest.ensures.tokens ∙ sym same ∙ e in cc)

pub returns-in_err-rest-2 : goal.returns-in_err-rest-2
returns-in_err-rest-2 c =
    let here : c.split_at.result.1.now ≡ drop (prefix_len is_space c.args.text.now) c.args.text.now = cc in
    let same : tokens_of c.args.text.now ≡ tokens_of c.split_at.result.1.now = after_spaces c.args.text.now ∙ ap tokens_of (sym here) in
    let one : tokens_of c.args.text.now ≡ c.in_ok-rest.field-0-0.now ∷ [] = same ∙ c.in_ok-rest.ensures.tokens ∙ ap (λ ts. c.in_ok-rest.field-0-0.now ∷ ts) c.in_err-rest-2.ensures.tokens in
    rw c.from_residual-in_err-rest-2.ensures (λ first second rest e. let f : c.in_ok-rest.field-0-0.now ∷ [] ≡ first ∷ second ∷ rest = sym one ∙ e in cc)

pub returns : goal.returns
returns c =
    let here : c.split_at.result.1.now ≡ drop (prefix_len is_space c.args.text.now) c.args.text.now = cc in
    let same : tokens_of c.args.text.now ≡ tokens_of c.split_at.result.1.now = after_spaces c.args.text.now ∙ ap tokens_of (sym here) in
    let two = same ∙ c.in_ok-rest.ensures.tokens ∙ ap (λ ts. c.in_ok-rest.field-0-0.now ∷ ts) c.in_ok-rest-2.ensures.tokens in
    two_first c.args.text.now c.split_at.result.1.now c.in_ok-rest.rest.now c.in_ok-rest-2.rest.now c.in_ok-rest.field-0-0.now c.in_ok-rest-2.field-0-0.now
    c.split_at-2.result.0.now c.split_at-2.result.1.now here two c.in_ok-rest.ensures.place c.in_ok-rest-2.ensures.place c.split_at-2.ensures.front c.split_at-2.ensures.back
