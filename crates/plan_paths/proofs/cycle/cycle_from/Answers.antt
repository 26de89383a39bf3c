use Rattle.std.proofs.Common.{arith, rules, refl, ◌≡◌, ◌≢◌, ◌∷◌, ◌<◌, ap, sym, subst, length}
use Rattle.std.specs.Prelude.{All, Contains}
use Rattle.plan_paths.specs.Cycles.{JoinsTree, IsTree, IsSimpleZeroDelayPath}
use Rattle.plan_paths.proofs.Cycles.{IsGrown, grown_none, grown_more, none_from_closed, cycle_found, tree_is_small}
use Rattle.plan_paths.proofs.cycle.cycle_from.Goals as goal

pub loop-branches-init : goal.loop-branches-init
loop-branches-init c = rw c.new-tree.ensures.items (record { grown = grown_none c.args.connections.now c.args.start; count = refl })

pub returns-in_default : goal.returns-in_default
returns-in_default c =
    let closed : All (λ x. ¬ JoinsTree c.args.start c.as_slice.result.now x) c.args.connections.now = search rules in
    none_from_closed c.args.connections.now c.args.start c.as_slice.result.now
    (subst (λ ts. IsGrown c.args.connections.now c.args.start ts) (sym c.as_slice.ensures.value) c.loop-branches.invariant.grown) closed

pub returns-then-source-start : goal.returns-then-source-start
returns-then-source-start c =
    let cs = c.args.connections.now in
    let tree = c.loop-branches.tree.items in
    let branch = c.in-Some.branch in
    let given : Contains c.args.connections.now c.in-Some.branch × JoinsTree c.args.start c.as_slice.result.now c.in-Some.branch = search rules in
    let source : c.in-Some.branch.source ≡ c.args.start = search rules in
    let same = c.as_slice-then-source-start.ensures.value in
    let joined : JoinsTree c.args.start tree branch = subst (λ ts. JoinsTree c.args.start ts branch) c.as_slice.ensures.value given.1 in
    let way : IsSimpleZeroDelayPath (branch ∷ tree) branch.source c.in_ok-path.path.items c.args.start
    = subst (λ ts. IsSimpleZeroDelayPath (branch ∷ ts) branch.source c.in_ok-path.path.items c.args.start) same
    (c.in_ok-path.ensures c.args.start (subst (λ ts. JoinsTree c.args.start ts branch) (sym same) joined)
    (subst (λ ts. IsTree c.args.start ts) (sym same) c.loop-branches.invariant.grown.is_tree)) in
    cycle_found cs c.args.start tree branch c.in_ok-path.path.items c.requires.none_lower c.loop-branches.invariant.grown given.0 source way

pub loop-branches-preserved : goal.loop-branches-preserved
loop-branches-preserved c =
    let given : Contains c.args.connections.now c.in-Some.branch × JoinsTree c.args.start c.as_slice.result.now c.in-Some.branch = search rules in
    let other : c.in-Some.branch.source ≢ c.args.start = search rules in
    let inserted : c.insert.new.self.items ≡ c.in-Some.branch ∷ c.loop-branches.tree.items = search rules in
    record {
      grown = subst (λ ts. IsGrown c.args.connections.now c.args.start ts) (sym inserted)
          (grown_more c.args.connections.now c.args.start c.loop-branches.tree.items c.in-Some.branch c.loop-branches.invariant.grown given.0
          (subst (λ ts. JoinsTree c.args.start ts c.in-Some.branch) c.as_slice.ensures.value given.1) other);
      count = omega (arith, ap length inserted);
    }

pub returns : goal.returns
returns c =
    let small : length c.loop-branches.tree.items < c.args.count
    = tree_is_small c.args.connections.now c.args.count c.args.start c.loop-branches.tree.items c.requires.ends c.requires.within
    c.loop-branches.invariant.grown in
    absurd (omega arith)
