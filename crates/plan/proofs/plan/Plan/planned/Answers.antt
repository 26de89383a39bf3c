use Rattle.std.proofs.Common.{◌∙◌, ap, length}
use Rattle.plan.proofs.Plans.{ends_below_at, planned_from}
use Rattle.plan.proofs.plan.Plan.planned.Goals as goal

pub ranks-requires-clause-ends : goal.ranks-requires-clause-ends
ranks-requires-clause-ends c =
    ends_below_at c.args.draft c.as_slice.result.now (length c.as_slice-count.result.now)
    (c.as_slice.ensures.value ∙ c.in_ok-connections.ensures.value)
    (ap length c.as_slice-count.ensures)

pub new-requires : goal.new-requires
new-requires c =
    ends_below_at c.args.draft c.as_slice-2.result.now (length c.as_slice-count.result.now)
    (c.as_slice-2.ensures.value ∙ c.in_ok-connections.ensures.value)
    (ap length c.as_slice-count.ensures)

pub invariant_of-result : goal.invariant_of-result
invariant_of-result c =
    planned_from c.args.draft c.in_ok-connections.connections.items c.as_slice.result.now c.in_ok-ranks.ranks.items
    (length c.as_slice-count.result.now) c.in_ok-connections.ensures.legal c.in_ok-connections.ensures.value
    (c.as_slice.ensures.value ∙ c.in_ok-connections.ensures.value)
    (ap length c.as_slice-count.ensures)
    c.in_ok-ranks.ensures.len c.in_ok-ranks.ensures.ranks
    c.as_slice-2.result.now c.in_ok-delays.delays (c.as_slice-2.ensures.value ∙ c.in_ok-connections.ensures.value) c.in_ok-delays.ensures
