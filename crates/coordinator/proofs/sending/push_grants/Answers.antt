use Rattle.std.proofs.Common.{get_or, refl, sym, ap, ◌∙◌, Some, None}
use Rattle.std.proofs.lemmas.List.{take_more, append-nil}
use Rattle.coordinator.proofs.Sent.{nothing_pushed, pushed, no_grant, one_grant}
use Rattle.coordinator.proofs.sending.push_grants.Goals.{then-eligible+in_ok-push, else-eligible}
use Rattle.coordinator.proofs.sending.push_grants.Goals as goal

pub returns-then-not-has_eligible-clause-posts : goal.returns-then-not-has_eligible-clause-posts
returns-then-not-has_eligible-clause-posts c =
    nothing_pushed c.args.table.now c.args.posts.now.items c.args.federates.now (c.if-not-has_eligible.ensures.0 refl) c.requires

pub loop-federate-preserved : goal.loop-federate-preserved
loop-federate-preserved c =
    let j = get_or c.args.federates.now c.loop-federate.federate-index 0 in
    let more = take_more c.args.federates.now c.loop-federate.federate-index 0 c.loop-federate-test.true in
    elim c.if-eligible.branch [
      | then-eligible+in_ok-push w ↦
          pushed c.args.table.now c.args.posts.now.items c.loop-federate.posts.items c.if-eligible.posts.items c.args.federates.now c.loop-federate.federate-index j
          (Some w.grant.result) c.loop-federate.invariant more
          (one_grant c.args.table.now j w.grant.result (c.requires c.loop-federate.federate-index 0 c.loop-federate-test.true) w.grant.ensures.rule)
          (ap (λ v. v.items) w.posts-is ∙ w.in_ok-push.ensures.items)
      | else-eligible w ↦
          pushed c.args.table.now c.args.posts.now.items c.loop-federate.posts.items c.if-eligible.posts.items c.args.federates.now c.loop-federate.federate-index j
          None c.loop-federate.invariant more (no_grant c.args.table.now j (sym c.eligible.ensures.table ∙ w.if-eligible.false))
          (ap (λ v. v.items) w.posts-is ∙ sym (append-nil c.loop-federate.posts.items))
    ]
