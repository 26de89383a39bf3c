use Rattle.std.proofs.Common.{rules, ◌<◌, ℕ, ap, sym, length, subst}
use Rattle.std.specs.Prelude.{All}
use Rattle.plan_paths.specs.Cycles.{HasNoCycleAt, IsCycleFrom}
use Rattle.plan_paths.proofs.Cycles.{sources_on_path}
use Rattle.plan.proofs.Plans.{ends_below_at}
use Rattle.plan.proofs.cycle.refuse_cycle.Goals as goal

pub lowest_cycle-requires : goal.lowest_cycle-requires
lowest_cycle-requires c = record {
  ends = ends_below_at c.args.draft.now c.args.connections.now (length c.as_slice-federates.result.now) c.requires (ap length c.as_slice-federates.ensures);
}

pub names_along-requires : goal.names_along-requires
names_along-requires c =
    let cycle : (start : ℕ) × IsCycleFrom c.args.connections.now start c.in-Some.path.items × ((lower : ℕ) → lower < start → HasNoCycleAt c.args.connections.now lower) = search rules in
    subst (λ es. All (λ x. x.source < length c.as_slice-federates.result.now) es) (sym c.as_slice.ensures.value)
    (sources_on_path c.args.connections.now (length c.as_slice-federates.result.now) cycle.0 c.in-Some.path.items cycle.0
    (ends_below_at c.args.draft.now c.args.connections.now (length c.as_slice-federates.result.now) c.requires (ap length c.as_slice-federates.ensures))
    cycle.1.way.is_path)
