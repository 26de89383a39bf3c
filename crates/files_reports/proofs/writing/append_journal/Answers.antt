use Rattle.std.proofs.Common.{◌<◌, length, arith}
use Rattle.files_reports.specs.Said.{IsEvent}
use Rattle.files_reports.specs.Spelling.{event_bytes}
use Rattle.files_reports.proofs.Written.{none_written, one_written, all_written}
use Rattle.files_reports.proofs.writing.append_journal.Goals as goal

pub loop-place-init : goal.loop-place-init
loop-place-init c = none_written event_bytes IsEvent c.args.journal.now c.append_eight.new.bytes.items

pub loop-place-preserved : goal.loop-place-preserved
loop-place-preserved c =
    let there : c.loop-place.place < length c.args.journal.now = omega arith in
    one_written event_bytes IsEvent c.args.journal.now c.append_eight.new.bytes.items c.loop-place.place c.loop-place.bytes.items c.event.result c.append_event.new.bytes.items
    there c.event.ensures c.in_ok-append_event.ensures.is_event c.in_ok-append_event.ensures.written c.loop-place.invariant

pub returns-clause-written : goal.returns-clause-written
returns-clause-written c =
    (all_written event_bytes IsEvent c.args.journal.now c.args.bytes.now.items c.append_eight.new.bytes.items c.len.result c.loop-place.place c.loop-place.bytes.items
    c.in_ok-append_eight.ensures c.len.ensures (omega arith) (omega arith) c.loop-place.invariant).written

pub returns-clause-are_events : goal.returns-clause-are_events
returns-clause-are_events c =
    (all_written event_bytes IsEvent c.args.journal.now c.args.bytes.now.items c.append_eight.new.bytes.items c.len.result c.loop-place.place c.loop-place.bytes.items
    c.in_ok-append_eight.ensures c.len.ensures (omega arith) (omega arith) c.loop-place.invariant).are_counted
