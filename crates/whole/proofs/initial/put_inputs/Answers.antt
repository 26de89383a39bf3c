use Rattle.std.proofs.Common.{◌≡◌, ◌++◌, ◌∷◌, [], ap, sym, ◌∙◌, subst, take, ◌+◌}
use Rattle.std.proofs.lemmas.List.{take_more}
use Rattle.plan.specs.declared.input.Input.{Input}
use Rattle.whole.specs.Initial.{AreOpenWith}
use Rattle.whole.proofs.initial.put_inputs.Goals as goal

pub loop-input-preserved : goal.loop-input-preserved
loop-input-preserved c =
    let i = c.loop-input.input-index in
    let more : take (i + 1) c.args.inputs.now ≡ take i c.args.inputs.now ++ c.input-item.result ∷ [] =
    take_more c.args.inputs.now i c.input-item.result (rw (← c.as_slice-input-items.ensures) c.loop-input-test.true)
    ∙ ap (λ (x : Input). take i c.args.inputs.now ++ x ∷ []) (sym (rw (← c.as_slice-input-items.ensures) c.input-item.is)) in
    subst (λ inputs. AreOpenWith c.args.plan.now inputs c.put_input.new.agendas) (sym more)
    (c.in_ok-put_input.ensures (take i c.args.inputs.now) c.loop-input.invariant)

pub put_input-requires : goal.put_input-requires
put_input-requires c = c.loop-input.invariant.count
