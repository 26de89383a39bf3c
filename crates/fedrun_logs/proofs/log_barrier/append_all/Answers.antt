use Rattle.std.proofs.Common.{Bool, List, true, false, ◌++◌, ◌∙◌, sym, ap, subst, append-nil}
use Rattle.node.specs.declared.event.Event.{Event}
use Rattle.fedrun_logs.proofs.Going.{then}
use Rattle.fedrun_logs.specs.Files.{GoesOn}
use Rattle.fedrun_logs.proofs.log_barrier.append_all.Goals as goal

pub returns-in_ok-keep : goal.returns-in_ok-keep
returns-in_ok-keep g c =
    let known = g.D.Device.is_known in
    let synced = g.D.Device.synced in
    let events = c.args.events.now in
    let told = then known synced c.args.file.now c.append_events.new.file c.keep.new.self events c.new-none.result events false true
    (ap (λ (es : List Event). events ++ es) c.new-none.ensures ∙ append-nil events) c.in_ok-append_events.ensures c.in_ok-keep.ensures.goes_on in
    subst (λ (told : Bool). GoesOn known synced c.args.file.now c.keep.new.self events told) (sym c.if-is_told.true) told

pub returns-else-is_told : goal.returns-else-is_told
returns-else-is_told g c =
    subst (λ (told : Bool). GoesOn g.D.Device.is_known g.D.Device.synced c.args.file.now c.append_events.new.file c.args.events.now told) (sym c.if-is_told.false) c.in_ok-append_events.ensures
