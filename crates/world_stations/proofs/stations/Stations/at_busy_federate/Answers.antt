use Rattle.std.proofs.Common.{◌≡◌, ◌∙◌, ap, sym, length, Some, slice_get, arith}
use Rattle.std.proofs.lemmas.List.{length-set}
use Rattle.node.specs.Step.{answer_in}
use Rattle.world_stations.specs.Room.{frames_of_each}
use Rattle.world_stations.proofs.Stepping.{federate_fits, has_one, still_world, after_federate_step}
use Rattle.world_stations.proofs.stations.Stations.at_busy_federate.Goals as goal

pub append_all-requires : goal.append_all-requires
append_all-requires g c within =
    let found : slice_get c.self.inside.federates.items c.args.federate ≡ Some c.in-Some.station.now = cc c.in-Some.ensures.station in
    federate_fits g.M.Node.core g.M.Node.HUB c.in-Some.station.now c.args.event (answer_in c.in_ok-reply.reply) c.frames_of.result.now _
    (has_one c.self.inside.federates.items c.args.federate c.in-Some.station.now c.self.invariant.0.one_peer found)
    (c.in_ok-reply.ensures.answer c.in-Some.station.now found) c.frames_of.ensures (c.in_ok-reserve_first.ensures.spare within)

pub reuse_at-requires : goal.reuse_at-requires
reuse_at-requires g c =
    let found : slice_get c.self.inside.federates.items c.args.federate ≡ Some c.in-Some.station.now = cc c.in-Some.ensures.station in
    let long : length c.step_at.new.federates.items ≡ length c.self.inside.federates.items = ap length (c.in_ok-reply.ensures.stepped c.in-Some.station.now found) ∙ length-set _ _ _ in
    omega (arith, long, c.in-Some.ensures.there)

pub invariant_of-self-2 : goal.invariant_of-self-2
invariant_of-self-2 g c =
    let found : slice_get c.self.inside.federates.items c.args.federate ≡ Some c.in-Some.station.now = cc c.in-Some.ensures.station in (
      still_world g.M.Node.core g.H.Node.HUB g.M.Node.HUB c.self.inside.federates.items c.reuse_at.new.federates.items c.args.federate c.in-Some.station.now c.args.event
          c.self.invariant.0 found (c.reuse_at.ensures ∙ c.in_ok-reply.ensures.stepped c.in-Some.station.now found),
      c.self.invariant.1,
    )

pub returns-clause-done : goal.returns-clause-done
returns-clause-done g c =
    let found : slice_get c.self.inside.federates.items c.args.federate ≡ Some c.in-Some.station.now = cc c.in-Some.ensures.station in
    after_federate_step g.M.Node.core g.M.Node.HUB c.args.self.now c.self.inside.coordinator c.self.inside.federates.items c.reuse_at.new.federates.items
    (frames_of_each c.self.inside.up.items) (frames_of_each c.reserve_first.new.sent.items) (frames_of_each c.append_all.new.sent.items) (frames_of_each c.self.inside.down.items)
    c.self.inside.steps.steps c.reserve.new.self.steps c.put.new.self.steps c.args.federate c.in-Some.station.now c.args.event c.args.step (answer_in c.in_ok-reply.reply)
    c.frames_of.result.now c.outcome_of-outcome.result (sym c.self.view_is) c.self.invariant.0.is_federate found (c.in_ok-reply.ensures.answer c.in-Some.station.now found)
    (c.reuse_at.ensures ∙ c.in_ok-reply.ensures.stepped c.in-Some.station.now found) c.frames_of.ensures c.reserve_first.ensures.frames c.append_all.ensures c.reserve.ensures.steps c.put.ensures
    c.outcome_of-outcome.ensures
