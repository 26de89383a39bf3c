use Rattle.std.proofs.Common.{◌∙◌, ◌<◌, ◌^◌, subst}
use Rattle.std.specs.Prelude.{AllPairs}
use Rattle.network.specs.Lawful.{HaveDifferentEnds}
use Rattle.plan_paths.specs.Cycles.{HasNoZeroDelayCycle}
use Rattle.plan.specs.Federation.{connections_of}
use Rattle.plan.proofs.Plans.{legal_from}
use Rattle.plan.proofs.legal.legal_connections.Goals as goal

pub returns-clause-legal : goal.returns-clause-legal
returns-clause-legal c =
    let sources : AllPairs HaveDifferentEnds (connections_of c.args.draft.now)
    = subst (λ es. AllPairs HaveDifferentEnds es) (c.as_slice.ensures.value ∙ c.in_ok-connections.ensures.value) c.in_ok-refuse_two_sources.ensures.ok in
    let cycles : HasNoZeroDelayCycle (connections_of c.args.draft.now)
    = subst (λ es. HasNoZeroDelayCycle es) (c.as_slice-2.ensures.value ∙ c.in_ok-connections.ensures.value) c.in_ok-refuse_cycle.ensures.ok in
    let stop : c.args.draft.now.stop < 2 ^ 62
    = subst (λ n. n < 2 ^ 62) c.nanoseconds-nanoseconds.ensures.value c.nanoseconds-nanoseconds.ensures.in_range in
    legal_from c.args.draft.now stop c.in_ok-refuse_out_of_range.ensures.some c.in_ok-refuse_out_of_range.ensures.limits
    c.in_ok-refuse_out_of_range.ensures.timers c.in_ok-refuse_repeated.ensures.ok c.in_ok-connections.ensures.there
    c.in_ok-connections.ensures.delays sources cycles
