use Rattle.std.proofs.Common.{ap, ◌∙◌, arith}
use Rattle.std.proofs.lemmas.List.{length-set}
use Rattle.whole.specs.declared.targets.Target.{Target}
use Rattle.whole.specs.Construction.{kept_on}
use Rattle.whole.proofs.Putting.{put_first, put_none, put_back, first_apart, not_target}
use Rattle.network.proofs.Items.{get_set_other}
use Rattle.whole.proofs.made.+put_made.Goals as goal

pub returns-in-Ok-put_made-clause-put : goal.returns-in-Ok-put_made-clause-put
returns-in-Ok-put_made-clause-put t c =
    let low = c.requires.there 0 c.target-item.result (omega arith) in
    let at = ap (λ (t : Target). t.federate) c.target-item.is in
    put_first c.args.turn.now c.args.targets.now c.target-item.result c.args.agendas.now c.put_made-in-len1-up.new.agendas c.index-agendas-target.result c.put_all.new.self c.as_slice.result.now
    (omega arith) c.target-item.is (omega (arith, low, at)) (ap kept_on c.in-Ok.ensures.put) (c.as_slice.ensures.value ∙ c.in_ok-made_for-in-len1-up.ensures)
    c.in-Ok-put_made.ensures.put

pub returns-in-Err-put_made-clause-err : goal.returns-in-Err-put_made-clause-err
returns-in-Err-put_made-clause-err t c =
    let low = c.requires.there 0 c.target-item.result (omega arith) in
    let at = ap (λ (t : Target). t.federate) c.target-item.is in
    let many = length-set c.args.agendas.now c.target-item.result.federate c.put_all.new.self in
    put_back c.args.agendas.now c.put_made-in-len1-up.new.agendas c.target-item.result.federate c.index-agendas-target.result c.put_all.new.self
    c.index-agendas-target-in-Err-put_made.result c.take_back.new.self
    (omega (arith, low, at)) (ap (λ a. a.stop) c.in-Ok.ensures.put) (ap (λ a. a.before) c.in-Ok.ensures.put)
    c.in-Err-put_made.ensures.err
    (c.in-Err-put_made.ensures.others c.target-item.result.federate (first_apart c.args.targets.now c.target-item.result (omega arith) c.target-item.is c.requires.apart))
    (omega (arith, low, at, many)) (ap (λ a. a.stop) c.take_back.ensures) (ap (λ a. a.undone) c.take_back.ensures)

pub returns-in-Err-put_made-clause-others : goal.returns-in-Err-put_made-clause-others
returns-in-Err-put_made-clause-others t c = λ federate none.
    let apart = not_target c.args.targets.now c.target-item.result federate (omega arith) c.target-item.is none in
    get_set_other c.put_made-in-len1-up.new.agendas c.target-item.result.federate federate c.take_back.new.self apart.0
    ∙ (c.in-Err-put_made.ensures.others federate apart.1
    ∙ get_set_other c.args.agendas.now c.target-item.result.federate federate c.put_all.new.self apart.0)

pub returns-then-is_empty-clause-put : goal.returns-then-is_empty-clause-put
returns-then-is_empty-clause-put t c =
    let events = c.made_for.new.events in
    put_none c.put_made.result c.args.turn.now c.args.targets.now c.target-item.result c.args.agendas.now c.put_made.new.agendas events.items c.is_empty.result events.len
    (omega arith) c.target-item.is c.in_ok-made_for-in-len1-up.ensures c.is_empty.ensures c.if-is_empty.true events.ok.0 c.put_made.ensures.put
