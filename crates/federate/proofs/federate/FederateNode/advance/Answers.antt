use Rattle.std.proofs.Common.{◌≡◌, ◌∙◌, sym, ap, subst, false, true, Some, None, Ok, Err, refl}
use Rattle.protocol.specs.Federate.{turn_at}
use Rattle.protocol.specs.Outcome.{Done}
use Rattle.node.specs.Mail.{Mail, lacks_room, all_posted}
use Rattle.node.specs.Core.{IsCall}
use Rattle.plan_network.specs.Network.{network_of}
use Rattle.node_cores.specs.FederateCore.{FederateNode, made_by, advances}
use Rattle.federate.specs.Invariant.{federate_by_parts}
use Rattle.federate.specs.Turn.{due_in, IsPrepared}
use Rattle.federate.proofs.Calls.{advance_in_order, advances_done, not_reserved, done_call}
use Rattle.federate.proofs.Turns.{slots_below, all_later, posts_are, advances_due, stands, keeps_on}
use Rattle.federate.proofs.federate.FederateNode.advance.Goals as goal

pub prepare-requires : goal.prepare-requires
prepare-requires c =
    let s = c.self.inside in
    slots_below s.plan.now s.programs.now s.inputs.now s.number s.reactor s.outlets.items s.agenda s.granted s.completed s.announced s.rows c.self.invariant

pub returns-in_err-prepare-clause-lawful : goal.returns-in_err-prepare-clause-lawful
returns-in_err-prepare-clause-lawful c = advance_in_order c.args.self.now c.invariant.ensures

pub returns-in_err-reserve_all-clause-lawful : goal.returns-in_err-reserve_all-clause-lawful
returns-in_err-reserve_all-clause-lawful c = advance_in_order c.args.self.now c.invariant.ensures

pub returns-in_err-take_in-clause-lawful : goal.returns-in_err-take_in-clause-lawful
returns-in_err-take_in-clause-lawful c = advance_in_order c.args.self.now c.invariant.ensures

pub returns-clause-lawful : goal.returns-clause-lawful
returns-clause-lawful c = advance_in_order c.args.self.now c.invariant.ensures

pub returns-in_err-reserve_all-clause-call : goal.returns-in_err-reserve_all-clause-call
returns-in_err-reserve_all-clause-call c =
    let s = c.self.inside in
    let tag = c.in-Some.tag in
    let p = c.prepare.new.prepared in
    let f = federate_by_parts s.reactor s.agenda s.granted s.completed s.announced s.rows in
    let n = network_of s.plan.now s.programs.now s.inputs.now in
    let v : FederateNode = record { draft = s.plan.now; programs = s.programs.now; inputs = s.inputs.now; number = s.number; federate = f } in
    let made = turn_at n s.number f tag in
    let due : due_in f ≡ Some tag = ap (λ (v : FederateNode). due_in v.federate) c.self.view_is ∙ sym c.in-Some.ensures in
    let prepares = subst (λ os. IsPrepared s.plan.now s.reactor s.agenda.undone os tag p) c.deref.ensures.value c.in_ok-prepare.ensures in
    let done : advances c.args.self.now ≡ Done (made_by v made) =
    ap advances (sym c.self.view_is) ∙ advances_done v made (advances_due n s.number f tag due) in
    let posts : c.deref-2.result.now ≡ (made_by v made).sent =
    c.deref-2.ensures.value ∙ posts_are s.plan.now s.programs.now s.inputs.now s.number s.reactor s.outlets.items s.agenda s.granted s.completed s.announced s.rows
    tag p c.self.invariant prepares in
    not_reserved c.args.self.now v c.args.outbox.now.mail c.reserve_all.new.self.mail c.from_residual-in_err-reserve_all.result c.in_err-reserve_all.field-0.0
    (Err c.in_err-reserve_all.field-0.0) c.deref-2.result.now (advances c.args.self.now) (made_by v made) done posts c.self.view_is c.in_err-reserve_all.ensures.mail
    c.from_residual-in_err-reserve_all.ensures.1 refl c.in_err-reserve_all.ensures.answer

pub take_in-requires : goal.take_in-requires
take_in-requires c =
    let s = c.self.inside in
    let due : due_in (federate_by_parts s.reactor s.agenda s.granted s.completed s.announced s.rows) ≡ Some c.in-Some.tag =
    ap (λ (v : FederateNode). due_in v.federate) c.self.view_is ∙ sym c.in-Some.ensures in
    let prepares = subst (λ os. IsPrepared s.plan.now s.reactor s.agenda.undone os c.in-Some.tag c.prepare.new.prepared) c.deref.ensures.value c.in_ok-prepare.ensures in
    all_later s.plan.now s.programs.now s.inputs.now s.number s.reactor s.outlets.items s.agenda s.granted s.completed s.announced s.rows
    c.in-Some.tag c.prepare.new.prepared c.self.invariant prepares due

pub invariant_of-self-2 : goal.invariant_of-self-2
invariant_of-self-2 c =
    let s = c.self.inside in
    let due : due_in (federate_by_parts s.reactor s.agenda s.granted s.completed s.announced s.rows) ≡ Some c.in-Some.tag =
    ap (λ (v : FederateNode). due_in v.federate) c.self.view_is ∙ sym c.in-Some.ensures in
    let prepares = subst (λ os. IsPrepared s.plan.now s.reactor s.agenda.undone os c.in-Some.tag c.prepare.new.prepared) c.deref.ensures.value c.in_ok-prepare.ensures in
    keeps_on s.plan.now s.programs.now s.inputs.now s.number s.reactor s.outlets.items s.agenda s.granted s.completed s.announced s.rows
    c.in-Some.tag c.prepare.new.prepared c.commit_from.new.self c.take_in.new.agenda c.take_in.new.rows c.self.invariant prepares due
    (c.commit_from.ensures, c.in_ok-take_in.ensures.pending, c.in_ok-take_in.ensures.rows) c.in_ok-take_in.ensures.stop

pub returns-clause-call : goal.returns-clause-call
returns-clause-call c = λ unless.
    let s = c.self.inside in
    let tag = c.in-Some.tag in
    let p = c.prepare.new.prepared in
    let m : Mail = c.args.outbox.now.mail in
    let f = federate_by_parts s.reactor s.agenda s.granted s.completed s.announced s.rows in
    let n = network_of s.plan.now s.programs.now s.inputs.now in
    let v : FederateNode = record { draft = s.plan.now; programs = s.programs.now; inputs = s.inputs.now; number = s.number; federate = f } in
    let made = turn_at n s.number f tag in
    let due : due_in f ≡ Some tag = ap (λ (v : FederateNode). due_in v.federate) c.self.view_is ∙ sym c.in-Some.ensures in
    let prepares = subst (λ os. IsPrepared s.plan.now s.reactor s.agenda.undone os tag p) c.deref.ensures.value c.in_ok-prepare.ensures in
    let done : advances v ≡ Done (made_by v made) = advances_done v made (advances_due n s.number f tag due) in
    let federate_is = stands s.plan.now s.programs.now s.inputs.now s.number s.reactor s.outlets.items s.agenda s.granted s.completed s.announced s.rows
    tag p c.commit_from.new.self c.take_in.new.agenda c.take_in.new.rows c.self.invariant prepares
    (c.commit_from.ensures, c.in_ok-take_in.ensures.pending, c.in_ok-take_in.ensures.rows) in
    let posts : p.posts.items ≡ (made_by v made).sent =
    posts_are s.plan.now s.programs.now s.inputs.now s.number s.reactor s.outlets.items s.agenda s.granted s.completed s.announced s.rows
    tag p c.self.invariant prepares in
    let sent : c.put_all.new.self.mail ≡ all_posted m (made_by v made).sent =
    c.put_all.ensures ∙ ap (λ x. all_posted x c.deref-3.result.now) c.in_ok-reserve_all.ensures.mail
    ∙ ap (all_posted m) (c.deref-3.ensures.value ∙ posts) in
    let room : lacks_room m.ends (made_by v made).sent ≡ false =
    ap (λ (x : Mail). lacks_room x.ends (made_by v made).sent) (sym c.in_ok-reserve_all.ensures.mail)
    ∙ ap (lacks_room c.reserve_all.new.self.mail.ends) (sym (c.deref-2.ensures.value ∙ posts)) ∙ c.in_ok-reserve_all.ensures.ready.room in
    subst (λ (x : FederateNode). IsCall x (record v { federate = federate_by_parts c.commit_from.new.self c.take_in.new.agenda s.granted (Some tag) None c.take_in.new.rows }) m c.put_all.new.self.mail (Ok true) (advances x))
    c.self.view_is
    (done_call v (record v { federate = federate_by_parts c.commit_from.new.self c.take_in.new.agenda s.granted (Some tag) None c.take_in.new.rows }) m c.put_all.new.self.mail (advances v) (made_by v made) done
    (ap (λ x. record v { federate = x }) federate_is) sent room)
