use Rattle.std.proofs.Common.{◌≡◌, ◌<◌, ◌++◌, ◌∷◌, [], ◌∙◌, sym, ap, refl}
use Rattle.tag.specs.LogicalTime.{lesser}
use Rattle.protocol.specs.FederateRecord.{after_message}
use Rattle.protocol.specs.FederateRecords.{federate_record_at}
use Rattle.signal.specs.declared.signal.Signal.TheVariants.{Msg}
use Rattle.node.specs.Mail.{lacks_room}
use Rattle.grants.specs.Routes.{affected_by}
use Rattle.coordinator.specs.Sending.{grants_in}
use Rattle.std.proofs.Common.{w64, to_z, of_z}
use Rattle.std.proofs.lemmas.Int.{to_z-of_z}
use Rattle.node.specs.declared.fault.NodeFault.TheVariants as fault
use Rattle.coordinator.proofs.Signals.{ok_of, err_of, routed, target_is_there, message_passed, message_added, message_back, finished_step, failed_step, message_first, peers_are_there}
use Rattle.coordinator.proofs.state.State.route.Goals as goal

pub granted-requires : goal.granted-requires
granted-requires c =
    target_is_there c.args.self.now.table c.args.number c.target-target.result c.args.over c.in-Some.connection c.invariant.ensures c.requires.over c.in-Some.is c.target-target.ensures

pub next-next-requires : goal.next-next-requires
next-next-requires c =
    target_is_there c.args.self.now.table c.args.number c.target-target.result c.args.over c.in-Some.connection c.invariant.ensures c.requires.over c.in-Some.is c.target-target.ensures

pub note_next-requires : goal.note_next-requires
note_next-requires c =
    target_is_there c.args.self.now.table c.args.number c.target-target.result c.args.over c.in-Some.connection c.invariant.ensures c.requires.over c.in-Some.is c.target-target.ensures

pub prepare-requires : goal.prepare-requires
prepare-requires c =
    let r = c.args.self.now.table in
    let j = c.target-target.result in
    let there = target_is_there r c.args.number j c.args.over c.in-Some.connection c.invariant.ensures c.requires.over c.in-Some.is c.target-target.ensures in
    rw (ap (λ x. x.wiring.federates) c.note_next.ensures) there

pub set_next-requires : goal.set_next-requires
set_next-requires c =
    let r = c.args.self.now.table in
    let j = c.target-target.result in
    let there = target_is_there r c.args.number j c.args.over c.in-Some.connection c.invariant.ensures c.requires.over c.in-Some.is c.target-target.ensures in
    rw (ap (λ x. x.wiring.federates) c.note_next.ensures) there

pub add_transit-requires : goal.add_transit-requires
add_transit-requires c =
    let r = c.args.self.now.table in
    let j = c.target-target.result in
    let there = target_is_there r c.args.number j c.args.over c.in-Some.connection c.invariant.ensures c.requires.over c.in-Some.is c.target-target.ensures in
    rw (ap (λ x. x.wiring.federates) c.note_next.ensures) there

pub set_next-requires-then-is_err : goal.set_next-requires-then-is_err
set_next-requires-then-is_err c =
    let r = c.args.self.now.table in
    let j = c.target-target.result in
    let there = target_is_there r c.args.number j c.args.over c.in-Some.connection c.invariant.ensures c.requires.over c.in-Some.is c.target-target.ensures in
    let same = err_of c.add_transit.result (sym c.is_err.ensures.value ∙ c.if-is_err.true) c.add_transit.ensures.err in
    rw (ap (λ x. x.wiring.federates) same, ap (λ x. x.wiring.federates) c.note_next.ensures) there

pub returns-in-Err : goal.returns-in-Err
returns-in-Err c =
    let r = c.args.self.now.table in
    let j = c.target-target.result in
    let s = federate_record_at r.federate_records j in
    let message = Msg c.args.number c.args.tag c.args.value in
    let there = target_is_there r c.args.number j c.args.over c.in-Some.connection c.invariant.ensures c.requires.over c.in-Some.is c.target-target.ensures in
    let taken = message_passed r c.note_next.new.table c.args.peer j c.args.number c.source.result c.args.value c.args.tag c.tag.result c.tag-2.result c.tag-3.result c.next-next.result c.lesser.result c.stop.result
    c.granted.result c.args.over c.in-Some.connection c.is_in_time.result c.is_past.result c.invariant.ensures c.requires.settled c.requires.over c.in-Some.is c.source.ensures c.if-source-peer.false c.target-target.ensures
    c.tag.ensures c.stop.ensures c.is_in_time.ensures c.if-not-is_in_time.false c.granted.ensures c.tag-2.ensures c.is_past.ensures c.if-not-is_past.false c.next-next.ensures c.tag-3.ensures c.lesser.ensures
    c.note_next.ensures in
    let first = c.in_ok-push.ensures.items ∙
    (ap (λ xs. xs ++ record { peer = j; signal = Msg c.args.number c.args.tag (to_z w64 (of_z w64 c.args.value)) } ∷ []) c.clear.ensures.items ∙
    ap (λ v. record { peer = c.target-target.result; signal = Msg c.args.number c.args.tag v } ∷ []) (to_z-of_z w64 c.args.value c.ranges.value)) in
    let back = message_back r c.note_next.new.table c.set_next.new.self j c.set_next.new.self.looks c.args.tag c.next-next.result c.invariant.ensures there taken.wiring taken.federate_records
    c.next-next.ensures c.set_next.ensures.value in
    failed_step r c.note_next.new.table c.set_next.new.self c.args.outbox.now.mail c.prepare.new.outbox.mail c.args.peer j message
    (routed (federate_record_at r.federate_records) message j c.args.tag) (record s { next = lesser s.next c.args.tag }) (after_message s c.args.tag) c.push.new.self.items c.in-Err.fault taken first
    back.0 back.1 c.prepare.ensures.mail c.in-Err.ensures.answer

pub returns-then-is_err : goal.returns-then-is_err
returns-then-is_err c =
    let r = c.args.self.now.table in
    let j = c.target-target.result in
    let s = federate_record_at r.federate_records j in
    let message = Msg c.args.number c.args.tag c.args.value in
    let there = target_is_there r c.args.number j c.args.over c.in-Some.connection c.invariant.ensures c.requires.over c.in-Some.is c.target-target.ensures in
    let taken = message_passed r c.note_next.new.table c.args.peer j c.args.number c.source.result c.args.value c.args.tag c.tag.result c.tag-2.result c.tag-3.result c.next-next.result c.lesser.result c.stop.result
    c.granted.result c.args.over c.in-Some.connection c.is_in_time.result c.is_past.result c.invariant.ensures c.requires.settled c.requires.over c.in-Some.is c.source.ensures c.if-source-peer.false c.target-target.ensures
    c.tag.ensures c.stop.ensures c.is_in_time.ensures c.if-not-is_in_time.false c.granted.ensures c.tag-2.ensures c.is_past.ensures c.if-not-is_past.false c.next-next.ensures c.tag-3.ensures c.lesser.ensures
    c.note_next.ensures in
    let first = c.in_ok-push.ensures.items ∙
    (ap (λ xs. xs ++ record { peer = j; signal = Msg c.args.number c.args.tag (to_z w64 (of_z w64 c.args.value)) } ∷ []) c.clear.ensures.items ∙
    ap (λ v. record { peer = c.target-target.result; signal = Msg c.args.number c.args.tag v } ∷ []) (to_z-of_z w64 c.args.value c.ranges.value)) in
    let same = err_of c.add_transit.result (sym c.is_err.ensures.value ∙ c.if-is_err.true) c.add_transit.ensures.err in
    let back = message_back r c.add_transit.new.self c.set_next-then-is_err.new.self j c.set_next-then-is_err.new.self.looks c.args.tag c.next-next.result c.invariant.ensures there
    (ap (λ x. x.wiring) same ∙ taken.wiring) (ap (λ x. x.federate_records) same ∙ taken.federate_records) c.next-next.ensures c.set_next-then-is_err.ensures.value in
    failed_step r c.note_next.new.table c.set_next-then-is_err.new.self c.args.outbox.now.mail c.prepare.new.outbox.mail c.args.peer j message
    (routed (federate_record_at r.federate_records) message j c.args.tag) (record s { next = lesser s.next c.args.tag }) (after_message s c.args.tag) c.push.new.self.items fault.Memory taken first
    back.0 back.1 c.prepare.ensures.mail (λ unless. absurd (unless refl))

pub send-requires-clause-peers : goal.send-requires-clause-peers
send-requires-clause-peers c =
    let r = c.args.self.now.table in
    let j = c.target-target.result in
    let s = federate_record_at r.federate_records j in
    let message = Msg c.args.number c.args.tag c.args.value in
    let there = target_is_there r c.args.number j c.args.over c.in-Some.connection c.invariant.ensures c.requires.over c.in-Some.is c.target-target.ensures in
    let add = ok_of c.add_transit.result (sym c.is_err.ensures.value ∙ c.if-is_err.false) c.add_transit.ensures.ok in
    let many : c.add_transit.new.self.wiring.federates ≡ c.args.self.now.table.wiring.federates = ap (λ x. x.wiring.federates) add ∙ ap (λ x. x.wiring.federates) c.note_next.ensures in
    let put = c.in_ok-push.ensures.items ∙ ap (λ xs. xs ++ record { peer = j; signal = Msg c.args.number c.args.tag (to_z w64 (of_z w64 c.args.value)) } ∷ []) c.clear.ensures.items in
    let within : c.target-target.result < c.add_transit.new.self.wiring.federates = rw many there in
    peers_are_there c.note_next.new.table j c.add_transit.new.self.wiring.federates (record { peer = j; signal = Msg c.args.number c.args.tag (to_z w64 (of_z w64 c.args.value)) } ∷ []) c.as_slice.result.now (within, tt)
    (c.as_slice.ensures.value ∙ (c.in_default-prepare.ensures.posts ∙ ap (λ xs. xs ++ grants_in c.note_next.new.table (affected_by c.note_next.new.table.wiring j)) put))
    (ap (λ x. x.wiring.federates) (sym add))

pub returns : goal.returns
returns c =
    let r = c.args.self.now.table in
    let j = c.target-target.result in
    let s = federate_record_at r.federate_records j in
    let message = Msg c.args.number c.args.tag c.args.value in
    let there = target_is_there r c.args.number j c.args.over c.in-Some.connection c.invariant.ensures c.requires.over c.in-Some.is c.target-target.ensures in
    let taken = message_passed r c.note_next.new.table c.args.peer j c.args.number c.source.result c.args.value c.args.tag c.tag.result c.tag-2.result c.tag-3.result c.next-next.result c.lesser.result c.stop.result
    c.granted.result c.args.over c.in-Some.connection c.is_in_time.result c.is_past.result c.invariant.ensures c.requires.settled c.requires.over c.in-Some.is c.source.ensures c.if-source-peer.false c.target-target.ensures
    c.tag.ensures c.stop.ensures c.is_in_time.ensures c.if-not-is_in_time.false c.granted.ensures c.tag-2.ensures c.is_past.ensures c.if-not-is_past.false c.next-next.ensures c.tag-3.ensures c.lesser.ensures
    c.note_next.ensures in
    let first = c.in_ok-push.ensures.items ∙
    (ap (λ xs. xs ++ record { peer = j; signal = Msg c.args.number c.args.tag (to_z w64 (of_z w64 c.args.value)) } ∷ []) c.clear.ensures.items ∙
    ap (λ v. record { peer = c.target-target.result; signal = Msg c.args.number c.args.tag v } ∷ []) (to_z-of_z w64 c.args.value c.ranges.value)) in
    let add = ok_of c.add_transit.result (sym c.is_err.ensures.value ∙ c.if-is_err.false) c.add_transit.ensures.ok in
    let added = message_added r c.note_next.new.table c.add_transit.new.self j c.args.tag c.invariant.ensures there taken.wiring taken.federate_records add in
    finished_step r c.note_next.new.table c.add_transit.new.self c.send.new.table c.args.outbox.now.mail c.prepare.new.outbox.mail c.send.new.outbox.mail c.args.peer j message
    (routed (federate_record_at r.federate_records) message j c.args.tag) (record s { next = lesser s.next c.args.tag }) (after_message s c.args.tag) c.push.new.self.items c.as_slice.result.now taken first (message_first j c.args.number c.args.tag c.args.value)
    added.0 added.1 (c.as_slice.ensures.value ∙ c.in_default-prepare.ensures.posts) c.prepare.ensures.mail
    (ap (λ xs. lacks_room c.prepare.new.outbox.mail.ends xs) c.as_slice.ensures.value ∙ c.in_default-prepare.ensures.ready.room)
    c.send.ensures.wiring c.send.ensures.federate_records c.send.ensures.mail
