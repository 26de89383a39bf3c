use Rattle.std.proofs.Common.{◌∙◌, ap, sym, length}
use Rattle.node.specs.Step.{answer_in}
use Rattle.world_stations.specs.Room.{frames_of_each}
use Rattle.world_stations.proofs.Stepping.{coordinator_fits, has_spare, reserved_after, after_coordinator_step}
use Rattle.world_stations.proofs.stations.Stations.at_coordinator.Goals as goal

pub append_each-requires : goal.append_each-requires
append_each-requires g c =
    coordinator_fits g.H.Node.core g.H.Node.HUB c.self.inside.coordinator c.step.new.self c.args.event (answer_in c.in_ok-reply.reply) c.frames_of-frames.result.now c.reserve_ahead.new.sent.items
    c.in_ok-reply.ensures.ended c.frames_of-frames.ensures
    (has_spare c.self.inside.coordinator.ends c.self.inside.down.items c.reserve_ahead.new.sent.items c.self.inside.most c.self.inside.spare c.in_ok-self-inside.field-0
    c.self.invariant.1 c.in_ok-self-inside.ensures.enough c.in_ok-self-inside.ensures.memory c.reserve_ahead.ensures.len)

pub invariant_of-self-2 : goal.invariant_of-self-2
invariant_of-self-2 g c =
    let after = reserved_after g.H.Node.core g.H.Node.HUB c.self.inside.coordinator c.reuse.new.self c.args.event (answer_in c.in_ok-reply.reply) c.self.inside.down.items c.reserve_ahead.new.sent.items
    c.append_each.new.sent.items c.self.inside.most c.self.inside.spare c.in_ok-self-inside.field-0 (length c.frames_of-frames.result.now)
    (ap (λ s. record { station = s; answer = answer_in c.in_ok-reply.reply }) c.reuse.ensures ∙ c.in_ok-reply.ensures.ended) c.self.invariant.1 c.in_ok-self-inside.ensures.memory c.reserve_ahead.ensures.len c.append_each.ensures.len c.append_each.ensures.few_used in
    (c.self.invariant.0, rw c.saturating_sub-self-inside.ensures after)

pub returns-clause-done : goal.returns-clause-done
returns-clause-done g c =
    after_coordinator_step g.H.Node.core g.M.Node.core g.H.Node.HUB c.args.self.now c.self.inside.coordinator c.reuse.new.self c.self.inside.federates.items (frames_of_each c.self.inside.up.items)
    (frames_of_each c.self.inside.down.items) (frames_of_each c.reserve_ahead.new.sent.items) (frames_of_each c.append_each.new.sent.items)
    c.self.inside.steps.steps c.reserve.new.self.steps c.put.new.self.steps c.args.event c.args.step (answer_in c.in_ok-reply.reply)
    c.frames_of-frames.result.now c.outcome_of-outcome.result (sym c.self.view_is) c.self.invariant.0.is_coordinator (ap (λ s. record { station = s; answer = answer_in c.in_ok-reply.reply }) c.reuse.ensures ∙ c.in_ok-reply.ensures.ended) c.frames_of-frames.ensures
    c.reserve_ahead.ensures.frames c.append_each.ensures.frames c.reserve.ensures.steps c.put.ensures c.outcome_of-outcome.ensures
