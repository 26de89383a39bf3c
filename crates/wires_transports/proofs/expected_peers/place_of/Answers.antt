use Rattle.std.proofs.Common.{◌≡◌, ◌≢◌, ◌∙◌, All, false, true, subst, sym, arith}
use Rattle.std.proofs.lemmas.List.Elements.{All-more}
use Rattle.std.proofs.lemmas.List.{take_all}
use Rattle.wires_transports.specs.declared.expected_peers.DialState.{DialState}
use Rattle.wires_transports.proofs.expected_peers.place_of.Goals as goal

pub loop-place-preserved : goal.loop-place-preserved
loop-place-preserved c =
    All-more (λ (x : DialState). x ≢ c.args.state) c.args.states.now c.loop-place.place _ c.loop-place-test.true c.loop-place.invariant
    (λ same. let clash : false ≡ true = sym c.if-is_same.false ∙ c.is_same.ensures.1 same in cc)

pub returns-clause-none : goal.returns-clause-none
returns-clause-none c none =
    let end = c.loop-place-test.false in
    subst (All (λ (x : DialState). x ≢ c.args.state)) (take_all c.loop-place.place c.args.states.now (omega arith)) c.loop-place.invariant
