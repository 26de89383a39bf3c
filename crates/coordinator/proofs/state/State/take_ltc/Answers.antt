use Rattle.std.proofs.Common.{◌<◌, ◌≤◌, ◌++◌, [], Some, ◌∙◌, sym, ap, arith}
use Rattle.protocol.specs.FederateRecord.{after_ltc}
use Rattle.protocol.specs.FederateRecords.{federate_record_at}
use Rattle.protocol.specs.Coordinator.{noted}
use Rattle.signal.specs.declared.signal.Signal.TheVariants.{Ltc}
use Rattle.node.specs.Mail.{lacks_room}
use Rattle.grants.specs.Routes.{affected_by}
use Rattle.coordinator.specs.Sending.{grants_in}
use Rattle.coordinator.proofs.Signals.{stranger_ltc, in_time_is, ltc_passed, ltc_dropped, ltc_back, finished_step, failed_step, nothing_first, peers_are_there}
use Rattle.coordinator.proofs.state.State.take_ltc.Goals as goal

pub returns-then-peer-federates : goal.returns-then-peer-federates
returns-then-peer-federates c =
    let l : c.args.self.now.table.wiring.federates ≤ c.args.peer = omega arith in
    let in_time = in_time_is c.args.tag c.tag.result c.args.self.now.table.wiring.stop c.stop.result c.is_in_time.result c.tag.ensures c.stop.ensures c.is_in_time.ensures c.if-not-is_in_time.false in
    stranger_ltc c.args.self.now.table c.args.outbox.now.mail c.args.peer c.args.tag c.invariant.ensures c.requires.settled l in_time

pub returns-in-Err : goal.returns-in-Err
returns-in-Err c =
    let r = c.args.self.now.table in
    let s = federate_record_at r.federate_records c.args.peer in
    let there : c.args.peer < c.args.self.now.table.wiring.federates = omega arith in
    let taken = ltc_passed r c.set_completed.new.self c.args.peer c.args.tag c.tag.result c.tag-2.result c.stop.result c.completed.result c.is_in_time.result c.is_past.result c.invariant.ensures c.requires.settled there
    c.tag.ensures c.stop.ensures c.is_in_time.ensures c.if-not-is_in_time.false c.completed.ensures c.tag-2.ensures c.is_past.ensures c.if-not-is_past.false c.set_completed.ensures.value in
    let back = ltc_back r c.set_completed.new.self c.set_completed-in-Err.new.self c.args.peer c.set_completed-in-Err.new.self.looks c.args.tag c.completed-completed.result c.invariant.ensures there taken.wiring taken.federate_records
    c.completed-completed.ensures c.set_completed-in-Err.ensures.value in
    failed_step r c.set_completed.new.self c.set_completed-in-Err.new.self c.args.outbox.now.mail c.prepare.new.outbox.mail c.args.peer c.args.peer (Ltc c.args.tag)
    (noted (federate_record_at r.federate_records) c.args.peer (after_ltc s c.args.tag)) (record s { completed = Some c.args.tag }) (after_ltc s c.args.tag) c.clear.new.self.items c.in-Err.fault taken c.clear.ensures.items
    back.0 back.1 c.prepare.ensures.mail c.in-Err.ensures.answer

pub send-requires-clause-peers : goal.send-requires-clause-peers
send-requires-clause-peers c =
    peers_are_there c.set_completed.new.self c.args.peer c.drop_transit.new.self.wiring.federates [] c.as_slice.result.now tt
    (c.as_slice.ensures.value ∙ (c.in_default.ensures.posts ∙ ap (λ xs. xs ++ grants_in c.set_completed.new.self (affected_by c.set_completed.new.self.wiring c.args.peer)) c.clear.ensures.items))
    (ap (λ x. x.wiring.federates) (sym c.drop_transit.ensures))

pub returns : goal.returns
returns c =
    let r = c.args.self.now.table in
    let s = federate_record_at r.federate_records c.args.peer in
    let there : c.args.peer < c.args.self.now.table.wiring.federates = omega arith in
    let taken = ltc_passed r c.set_completed.new.self c.args.peer c.args.tag c.tag.result c.tag-2.result c.stop.result c.completed.result c.is_in_time.result c.is_past.result c.invariant.ensures c.requires.settled there
    c.tag.ensures c.stop.ensures c.is_in_time.ensures c.if-not-is_in_time.false c.completed.ensures c.tag-2.ensures c.is_past.ensures c.if-not-is_past.false c.set_completed.ensures.value in
    let dropped = ltc_dropped r c.set_completed.new.self c.drop_transit.new.self c.args.peer c.args.tag c.invariant.ensures there taken.wiring taken.federate_records c.drop_transit.ensures in
    finished_step r c.set_completed.new.self c.drop_transit.new.self c.send.new.table c.args.outbox.now.mail c.prepare.new.outbox.mail c.send.new.outbox.mail c.args.peer c.args.peer (Ltc c.args.tag)
    (noted (federate_record_at r.federate_records) c.args.peer (after_ltc s c.args.tag)) (record s { completed = Some c.args.tag }) (after_ltc s c.args.tag) c.clear.new.self.items c.as_slice.result.now taken c.clear.ensures.items nothing_first
    dropped.0 dropped.1 (c.as_slice.ensures.value ∙ c.in_default.ensures.posts) c.prepare.ensures.mail
    (ap (λ xs. lacks_room c.prepare.new.outbox.mail.ends xs) c.as_slice.ensures.value ∙ c.in_default.ensures.ready.room)
    c.send.ensures.wiring c.send.ensures.federate_records c.send.ensures.mail
