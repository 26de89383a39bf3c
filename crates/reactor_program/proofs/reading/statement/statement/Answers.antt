use Rattle.std.proofs.Common.{◌≡◌, ◌∷◌, ◌++◌, List, ℕ, codes, subst, sym, ap, ◌∙◌}
use Rattle.reactor_program.specs.Tokens.{tokens_of}
use Rattle.reactor_program.specs.Resolution.{statement_of}
use Rattle.reactor_program.specs.Reading.{IsReading}
use Rattle.reactor_program.specs.Grammar.{WrittenStatement, SpellsStatement}
use Rattle.reactor_program.proofs.Readings.{same_text, other_text, equal_text, unequal_text}
use Rattle.reactor_program.proofs.StatementReadings.{token_alone, none_in_nothing, none_in_one, none_without_equals}
use Rattle.reactor_program.proofs.reading.statement.statement.Goals as goal

pub returns-in_default : goal.returns-in_default
returns-in_default c = none_in_nothing (tokens_of c.args.text.now) c.in_default.ensures.tokens

pub returns-then-eq : goal.returns-then-eq
returns-then-eq c =
    let equal = equal_text c.in-Some.first.now c.as_slice.result.now (codes "schedule") c.eq.result c.eq.ensures c.if-eq.true c.as_slice.ensures in
    let tokens : codes "schedule" ∷ tokens_of c.in-Some.rest.now ≡ tokens_of c.args.text.now = ap (λ x. x ∷ tokens_of c.in-Some.rest.now) (sym equal) ∙ sym c.in-Some.ensures.tokens in
    let P : List (List ℕ) → Type 0 = λ t. IsReading {W = WrittenStatement} (λ w. SpellsStatement w t) (statement_of c.args.slots.now c.args.states.now) c.schedule.result in
    subst P tokens c.schedule.ensures

pub returns-in_default-next_token : goal.returns-in_default-next_token
returns-in_default-next_token c = none_in_one (tokens_of c.args.text.now) c.in-Some.first.now (token_alone c.in-Some.ensures.tokens c.in_default-next_token.ensures.tokens)

pub returns-then-ne : goal.returns-then-ne
returns-then-ne c =
    let other = other_text c.in-Some.first.now c.as_slice.result.now (codes "schedule") c.eq.result c.eq.ensures c.if-eq.false c.as_slice.ensures in
    let unequal = unequal_text c.in-Some-next_token.equals.now c.as_slice-2.result.now (codes "=") c.ne.result c.ne.ensures c.if-ne.true c.as_slice-2.ensures in
    let tokens : tokens_of c.args.text.now ≡ c.in-Some.first.now ∷ c.in-Some-next_token.equals.now ∷ tokens_of c.in-Some-next_token.rest.now = c.in-Some.ensures.tokens ∙ ap (λ ts. c.in-Some.first.now ∷ ts) c.in-Some-next_token.ensures.tokens in
    none_without_equals (tokens_of c.args.text.now) c.in-Some.first.now c.in-Some-next_token.equals.now (tokens_of c.in-Some-next_token.rest.now) tokens other unequal

pub returns-in-Some-after : goal.returns-in-Some-after
returns-in-Some-after c =
    let equal = same_text c.in-Some-next_token.equals.now c.as_slice-2.result.now (codes "=") c.ne.result c.ne.ensures c.if-ne.false c.as_slice-2.ensures in
    let second : tokens_of c.in-Some.rest.now ≡ codes "=" ∷ tokens_of c.in-Some-next_token.rest.now = c.in-Some-next_token.ensures.tokens ∙ ap (λ x. x ∷ tokens_of c.in-Some-next_token.rest.now) equal in
    let tokens : (codes "out." ++ c.in-Some-after.port.now) ∷ codes "=" ∷ tokens_of c.in-Some-next_token.rest.now ≡ tokens_of c.args.text.now =
    sym (c.in-Some.ensures.tokens ∙ ap (λ ts. c.in-Some.first.now ∷ ts) second ∙ ap (λ x. x ∷ codes "=" ∷ tokens_of c.in-Some-next_token.rest.now) c.in-Some-after.ensures)
    in
    let P : List (List ℕ) → Type 0 = λ t. IsReading {W = WrittenStatement} (λ w. SpellsStatement w t) (statement_of c.args.slots.now c.args.states.now) c.output.result in
    subst P tokens c.output.ensures

pub returns-in-None : goal.returns-in-None
returns-in-None c =
    let equal = same_text c.in-Some-next_token.equals.now c.as_slice-2.result.now (codes "=") c.ne.result c.ne.ensures c.if-ne.false c.as_slice-2.ensures in
    let second : tokens_of c.in-Some.rest.now ≡ codes "=" ∷ tokens_of c.in-Some-next_token.rest.now = c.in-Some-next_token.ensures.tokens ∙ ap (λ x. x ∷ tokens_of c.in-Some-next_token.rest.now) equal in
    let tokens : c.in-Some.first.now ∷ codes "=" ∷ tokens_of c.in-Some-next_token.rest.now ≡ tokens_of c.args.text.now = sym (c.in-Some.ensures.tokens ∙ ap (λ ts. c.in-Some.first.now ∷ ts) second) in
    let P : List (List ℕ) → Type 0 = λ t. IsReading {W = WrittenStatement} (λ w. SpellsStatement w t) (statement_of c.args.slots.now c.args.states.now) c.assignment.result in
    subst P tokens c.assignment.ensures
