use Rattle.std.proofs.Common.{◌<◌, length, arith}
use Rattle.files_reports.specs.Said.{IsEvent}
use Rattle.files_reports.specs.Spelling.{event_bytes}
use Rattle.files_reports.proofs.Written.{none_written, one_written}
use Rattle.files_logs.proofs.appending.append_events.Goals as goal

pub loop-place-init : goal.loop-place-init
loop-place-init c = none_written event_bytes IsEvent c.args.events.now c.args.bytes.now.items

pub loop-place-preserved : goal.loop-place-preserved
loop-place-preserved c =
    let there : c.loop-place.place < length c.args.events.now = omega arith in
    one_written event_bytes IsEvent c.args.events.now c.args.bytes.now.items c.loop-place.place c.loop-place.bytes.items c.event.result c.append_event.new.bytes.items
    there c.event.ensures c.in_ok-append_event.ensures.is_event c.in_ok-append_event.ensures.written c.loop-place.invariant
