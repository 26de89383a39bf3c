use Rattle.std.proofs.Common.{◌≡◌, arith, sym, subst, Some, if◌then◌else◌, None, IfOk}
use Rattle.std.proofs.lemmas.Option.{slice_get_within}
use Rattle.world_stations.specs.World.{World, Applied, has_next, forgotten, listed}
use Rattle.world_stations.specs.Invariant.{HaveOnePeer}
use Rattle.world_stations.proofs.Stepping.{has_one}
use Rattle.world_stations.proofs.Forgetting.{has_one_still, put_is}
use Rattle.world_stations.proofs.stations.Stations.forget.Goals as goal

pub forgotten-requires : goal.forgotten-requires
forgotten-requires g c =
    has_one c.args.self.now.federates c.args.federate c.in-Some.station.now
    (subst (λ (w : World _ _). HaveOnePeer w.federates) c.self.view_is c.self.invariant.0.one_peer) (sym c.in-Some.ensures)

pub put-requires-clause-there : goal.put-requires-clause-there
put-requires-clause-there g c = slice_get_within c.args.self.now.federates c.args.federate c.in-Some.station.now (sym c.in-Some.ensures)

pub put-requires-clause-one_peer : goal.put-requires-clause-one_peer
put-requires-clause-one_peer g c =
    let one = has_one c.args.self.now.federates c.args.federate c.in-Some.station.now
    (subst (λ (w : World _ _). HaveOnePeer w.federates) c.self.view_is c.self.invariant.0.one_peer) (sym c.in-Some.ensures) in
    let made : Some c.in-Some-2.blank ≡ (if has_next c.in-Some.station.now.ends then Some (forgotten g.M.Node.core c.in-Some.station.now) else None) =
    grind (arith, c.in_ok-blank.ensures, c.in-Some-2.is) in
    has_one_still g.M.Node.core c.in-Some.station.now c.in-Some-2.blank one made

pub returns-clause-done : goal.returns-clause-done
returns-clause-done g c =
    let made : Some c.in-Some-2.blank ≡ (if has_next c.in-Some.station.now.ends then Some (forgotten g.M.Node.core c.in-Some.station.now) else None) =
    grind (arith, c.in_ok-blank.ensures, c.in-Some-2.is) in
    subst (λ (x : Applied _ _). IfOk c.put.result (λ outcome. record { world = c.put.new.self; outcome = outcome } ≡ listed c.args.step x))
    (put_is g.M.Node.core c.args.self.now c.args.federate c.in-Some.station.now c.in-Some-2.blank (sym c.in-Some.ensures) made) c.put.ensures.done
