use Rattle.std.proofs.Common.{rules, ap, ◌∙◌, arith, subst}
use Rattle.std.proofs.lemmas.List.{take_all}
use Rattle.reactor_agenda.specs.Agenda.{IsAgenda}
use Rattle.whole.specs.declared.targets.Target.{Target}
use Rattle.whole.specs.Construction.{has_target}
use Rattle.whole.specs.Targets.{all_shown}
use Rattle.whole.proofs.NextTurns.{renewed_to, known_step}
use Rattle.whole.proofs.nexts.renew.Goals as goal

pub loop-target-init : goal.loop-target-init
loop-target-init c = (search rules, search rules, λ f a none at. absurd cc)

pub loop-target-preserved : goal.loop-target-preserved
loop-target-preserved c =
    let low = c.requires.there c.loop-target.target-index c.target-item.result (omega arith) in
    let low_too = c.requires.agendas c.loop-target.target-index c.target-item.result (omega arith) in
    let at = ap (λ (t : Target). t.federate) c.target-item.is in
    let same = c.loop-target.invariant.0 in
    let more = renewed_to c.args.agendas.now c.args.nexts.now c.loop-target.nexts c.set_tag.new.self c.args.targets.now c.loop-target.target-index c.target-item.result c.index-agendas-federate.result c.least-tag.result
    (omega arith) c.target-item.is (omega (arith, low, at, same)) (omega (arith, low_too, at)) c.index-agendas-federate.is c.least-tag.ensures c.set_tag.ensures c.loop-target.invariant.1 in (
      more.0 ∙ same,
      more.1,
      known_step IsAgenda c.args.agendas.now c.args.targets.now c.loop-target.target-index c.target-item.result c.index-agendas-federate.result
          (omega arith) c.target-item.is (omega (arith, low_too, at)) (subst IsAgenda c.index-agendas-federate.is c.invariant.ensures) c.loop-target.invariant.2,
    )

pub returns-clause-known : goal.returns-clause-known
returns-clause-known c = λ f a is at.
    c.loop-target.invariant.2 f a (ap (λ ts. has_target f (all_shown ts)) (take_all c.loop-target.target-index c.args.targets.now c.loop-target-test.false) ∙ is) at
