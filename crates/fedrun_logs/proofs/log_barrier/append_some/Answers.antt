use Rattle.std.proofs.Common.{List, ◌++◌, ◌∙◌, take, drop, false, ap, subst}
use Rattle.node.specs.declared.event.Event.{Event}
use Rattle.fedrun_logs.specs.Files.{GoesOn}
use Rattle.fedrun_logs.proofs.log_barrier.append_some.Goals as goal

pub returns : goal.returns
returns g c =
    let some = take c.args.count (drop c.args.place c.args.events.now) in
    subst (λ (es : List Event). GoesOn g.D.Device.is_known g.D.Device.synced c.args.file.now c.keep.new.self es false) (c.in_ok-append.ensures.all ∙ ap (λ (es : List Event). es ++ some) c.new-block.ensures)
    c.in_ok-keep.ensures.goes_on
