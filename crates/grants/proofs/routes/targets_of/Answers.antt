use Rattle.std.proofs.Common.{◌≡◌, ◌∙◌, ap, sym, true, false}
use Rattle.std.specs.Prelude.{nat_eq}
use Rattle.std.specs.List.{list_any}
use Rattle.std.proofs.lemmas.List.{append-nil}
use Rattle.plan.specs.Federation.{connections_of}
use Rattle.grants.specs.Routes.{leads, outgoing_of}
use Rattle.grants.proofs.Leading.{next_listed, outgoing_leads}
use Rattle.grants.proofs.routes.targets_of.Goals.{then-ends_at+in_ok-push, else-ends_at}
use Rattle.grants.proofs.routes.targets_of.Goals as goal

pub loop-to-preserved : goal.loop-to-preserved
loop-to-preserved c =
    let connections = connections_of c.args.plan.now in
    let i = c.args.federate in
    let j = c.loop-to.to in
    let is : c.ends_at.result ≡ leads connections i j =
    c.ends_at.ensures ∙ ap (list_any (λ x. nat_eq x.target j)) (c.as_slice.ensures.value ∙ c.in_ok-outgoing.ensures ∙ ap (λ cs. outgoing_of cs i) c.connections.ensures)
    ∙ outgoing_leads connections i j in
    elim c.if-ends_at.branch [
      | then-ends_at+in_ok-push w ↦
          next_listed j (leads connections i) c.loop-to.targets.items c.if-ends_at.targets.items true c.loop-to.invariant (sym w.if-ends_at.true ∙ is)
          (ap (λ v. v.items) w.targets-is ∙ w.in_ok-push.ensures.items)
      | else-ends_at w ↦
          next_listed j (leads connections i) c.loop-to.targets.items c.if-ends_at.targets.items false c.loop-to.invariant (sym w.if-ends_at.false ∙ is)
          (ap (λ v. v.items) w.targets-is ∙ sym (append-nil c.loop-to.targets.items))
    ]
