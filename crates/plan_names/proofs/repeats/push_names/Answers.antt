use Rattle.std.proofs.Common.{rules, ◌≡◌, ◌++◌, ◌∷◌, [], map}
use Rattle.plan_names.proofs.Pushed.{pushed_more}
use Rattle.plan_names.proofs.repeats.push_names.Goals as goal

pub loop-named-preserved : goal.loop-named-preserved
loop-named-preserved g c =
    let pushed : c.push.new.self.items ≡ c.loop-named.names.items ++ c.name.result ∷ [] = search rules in
    pushed_more (λ n. n.now) g.T.Named.name_of c.loop-named.names.items c.push.new.self.items (map (λ n. n.now) c.args.names.now.items)
    c.args.more.now c.loop-named.named-index c.name.result c.named-item.result
    c.loop-named-test.true c.named-item.is pushed c.name.ensures c.loop-named.invariant
