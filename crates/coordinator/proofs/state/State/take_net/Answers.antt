use Rattle.std.proofs.Common.{◌<◌, ◌∙◌, ap, refl, arith, []}
use Rattle.protocol.specs.FederateRecord.{after_net}
use Rattle.protocol.specs.FederateRecords.{federate_record_at}
use Rattle.protocol.specs.Coordinator.{noted}
use Rattle.signal.specs.declared.signal.Signal.TheVariants.{Net}
use Rattle.std.proofs.Common.{◌≤◌, ◌++◌}
use Rattle.node.specs.Mail.{lacks_room}
use Rattle.grants.specs.Routes.{affected_by}
use Rattle.coordinator.specs.Sending.{grants_in}
use Rattle.coordinator.proofs.Signals.{stranger_net, next_in_time_is, net_passed, net_back, finished_step, failed_step, nothing_first, peers_are_there}
use Rattle.coordinator.proofs.state.State.take_net.Goals as goal

pub returns-then-peer-federates : goal.returns-then-peer-federates
returns-then-peer-federates c =
    let l : c.args.self.now.table.wiring.federates ≤ c.args.peer = omega arith in
    let in_time = next_in_time_is c.args.tag c.args.self.now.table.wiring.stop c.stop.result c.is_next_in_time.result c.stop.ensures c.is_next_in_time.ensures c.if-not-is_next_in_time.false in
    stranger_net c.args.self.now.table c.args.outbox.now.mail c.args.peer c.args.tag c.invariant.ensures c.requires.settled l in_time

pub returns-in-Err : goal.returns-in-Err
returns-in-Err c =
    let r = c.args.self.now.table in
    let s = federate_record_at r.federate_records c.args.peer in
    let there : c.args.peer < c.args.self.now.table.wiring.federates = omega arith in
    let taken = net_passed r c.note_next.new.table c.note_announced.new.table c.args.peer c.args.tag c.lesser_with-least.result c.stop.result c.least_transit.result c.completed.result c.is_next_in_time.result c.is_past.result
    c.invariant.ensures c.requires.settled there c.stop.ensures c.is_next_in_time.ensures c.if-not-is_next_in_time.false c.completed.ensures c.is_past.ensures c.if-not-is_past.false c.least_transit.ensures.least
    c.lesser_with-least.ensures c.note_next.ensures c.note_announced.ensures in
    let back = net_back r c.note_announced.new.table c.set_announced.new.self c.set_next.new.self c.args.peer c.set_announced.new.self.looks c.set_next.new.self.looks
    c.announced-announced.result c.next-next.result (after_net s c.args.tag) c.invariant.ensures there taken.wiring taken.federate_records refl c.announced-announced.ensures c.next-next.ensures
    c.set_announced.ensures.value c.set_next.ensures.value in
    failed_step r c.note_announced.new.table c.set_next.new.self c.args.outbox.now.mail c.prepare.new.outbox.mail c.args.peer c.args.peer (Net c.args.tag)
    (noted (federate_record_at r.federate_records) c.args.peer (after_net s c.args.tag)) (after_net s c.args.tag) (after_net s c.args.tag) c.clear.new.self.items c.in-Err.fault taken c.clear.ensures.items
    back.0 back.1 c.prepare.ensures.mail c.in-Err.ensures.answer

pub send-requires-clause-peers : goal.send-requires-clause-peers
send-requires-clause-peers c =
    peers_are_there c.note_announced.new.table c.args.peer c.note_announced.new.table.wiring.federates [] c.as_slice.result.now tt
    (c.as_slice.ensures.value ∙ (c.in_default.ensures.posts ∙ ap (λ xs. xs ++ grants_in c.note_announced.new.table (affected_by c.note_announced.new.table.wiring c.args.peer)) c.clear.ensures.items)) refl

pub returns : goal.returns
returns c =
    let r = c.args.self.now.table in
    let s = federate_record_at r.federate_records c.args.peer in
    let there : c.args.peer < c.args.self.now.table.wiring.federates = omega arith in
    let taken = net_passed r c.note_next.new.table c.note_announced.new.table c.args.peer c.args.tag c.lesser_with-least.result c.stop.result c.least_transit.result c.completed.result c.is_next_in_time.result c.is_past.result
    c.invariant.ensures c.requires.settled there c.stop.ensures c.is_next_in_time.ensures c.if-not-is_next_in_time.false c.completed.ensures c.is_past.ensures c.if-not-is_past.false c.least_transit.ensures.least
    c.lesser_with-least.ensures c.note_next.ensures c.note_announced.ensures in
    finished_step r c.note_announced.new.table c.note_announced.new.table c.send.new.table c.args.outbox.now.mail c.prepare.new.outbox.mail c.send.new.outbox.mail c.args.peer c.args.peer (Net c.args.tag)
    (noted (federate_record_at r.federate_records) c.args.peer (after_net s c.args.tag)) (after_net s c.args.tag) (after_net s c.args.tag) c.clear.new.self.items c.as_slice.result.now taken c.clear.ensures.items nothing_first
    taken.wiring taken.federate_records (c.as_slice.ensures.value ∙ c.in_default.ensures.posts) c.prepare.ensures.mail
    (ap (λ xs. lacks_room c.prepare.new.outbox.mail.ends xs) c.as_slice.ensures.value ∙ c.in_default.ensures.ready.room)
    c.send.ensures.wiring c.send.ensures.federate_records c.send.ensures.mail
