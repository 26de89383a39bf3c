use Rattle.std.proofs.Common.{List, false, sym, subst, take, drop, ◌+◌, take-add, arith}
use Rattle.std.proofs.lemmas.List.{take_all}
use Rattle.node.specs.declared.event.Event.{Event}
use Rattle.fedrun_logs.proofs.Going.{nothing, then}
use Rattle.fedrun_logs.specs.Files.{GoesOn}
use Rattle.fedrun_logs.proofs.log_barrier.append_parts.Goals as goal

pub loop-place-init : goal.loop-place-init
loop-place-init g c = record {
  within = omega arith;
  goes_on = nothing g.D.Device.is_known g.D.Device.synced c.args.file.now;
}

pub loop-place-preserved : goal.loop-place-preserved
loop-place-preserved g c =
    let place = c.loop-place.place in
    let count = c.min-count.result in
    let events = c.args.events.now in
    record {
      within = omega arith;
      goes_on = then g.D.Device.is_known g.D.Device.synced c.args.file.now c.loop-place.file c.append_some.new.file (take place events) (take count (drop place events)) (take (place + count) events) false false
          (sym (take-add place count events)) c.loop-place.invariant.goes_on c.in_ok-append_some.ensures;
    }

pub returns : goal.returns
returns g c =
    subst (λ (es : List Event). GoesOn g.D.Device.is_known g.D.Device.synced c.args.file.now c.loop-place.file es false) (take_all c.loop-place.place c.args.events.now (omega arith))
    c.loop-place.invariant.goes_on
