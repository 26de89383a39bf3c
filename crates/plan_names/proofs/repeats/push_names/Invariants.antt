use Rattle.std.proofs.Common.{◌≡◌, ◌++◌, map, take}
use Rattle.plan_names.proofs.repeats.push_names.Given as goal

abbrev pub invariant-loop-named : goal.invariant-loop-named
invariant-loop-named g l =
    map (λ n. n.now) l.names.items ≡ map (λ n. n.now) l.initial.names.items ++ map g.T.Named.name_of (take l.named-index l.more)
