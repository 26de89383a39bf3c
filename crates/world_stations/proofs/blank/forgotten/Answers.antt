use Rattle.std.proofs.Common.{◌≡◌, arith, Some, slice_get, map}
use Rattle.world_stations.proofs.Forgetting.{no_next, some_next}
use Rattle.world_stations.proofs.blank.forgotten.Goals as goal

pub returns-in_default-next_end : goal.returns-in_default-next_end
returns-in_default-next_end g c =
    let found : slice_get c.args.station.now.ends 0 ≡ Some c.in-Some.end.now.image = grind (arith, c.in-Some.ensures) in
    no_next g.M.Node.core c.args.station.now c.in-Some.end.now.image c.requires found (grind (arith, c.in_default-next_end.ensures, c.in_default-next_end.not-Some))

pub returns : goal.returns
returns g c =
    let found : slice_get c.args.station.now.ends 0 ≡ Some c.in-Some.end.now.image = grind (arith, c.in-Some.ensures) in
    some_next g.M.Node.core c.args.station.now c.in-Some.end.now.image c.in-Some-next_end.end.image c.in_ok-node.node c.new.result
    (map (λ e. e.image) c.push_reserved.new.self.items) c.requires found c.in-Some-next_end.ensures
    (grind (arith, c.in_ok-node.ensures, c.node.ensures)) (grind (arith, c.push_reserved.ensures.items, c.in_ok-ends.ensures.items)) c.new.ensures
