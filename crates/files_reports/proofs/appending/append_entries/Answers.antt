use Rattle.std.proofs.Common.{length, refl, arith}
use Rattle.files_reports.specs.Said.{IsEntry}
use Rattle.files_reports.specs.Spelling.{entry_bytes}
use Rattle.files_reports.proofs.Written.{none_written, one_written, all_written}
use Rattle.files_reports.proofs.appending.append_entries.Goals as goal

pub loop-entry-init : goal.loop-entry-init
loop-entry-init c = none_written entry_bytes IsEntry c.args.entries.now c.append_eight.new.bytes.items

pub loop-entry-preserved : goal.loop-entry-preserved
loop-entry-preserved c =
    one_written entry_bytes IsEntry c.args.entries.now c.append_eight.new.bytes.items c.loop-entry.entry-index c.loop-entry.bytes.items c.entry-item.result c.append_entry.new.bytes.items
    c.loop-entry-test.true c.entry-item.is c.in_ok-append_entry.ensures.is_entry c.in_ok-append_entry.ensures.written c.loop-entry.invariant

pub returns-clause-written : goal.returns-clause-written
returns-clause-written c =
    (all_written entry_bytes IsEntry c.args.entries.now c.args.bytes.now.items c.append_eight.new.bytes.items (length c.args.entries.now) c.loop-entry.entry-index c.loop-entry.bytes.items
    c.in_ok-append_eight.ensures refl (omega arith) c.loop-entry-test.false c.loop-entry.invariant).written

pub returns-clause-are_entries : goal.returns-clause-are_entries
returns-clause-are_entries c =
    (all_written entry_bytes IsEntry c.args.entries.now c.args.bytes.now.items c.append_eight.new.bytes.items (length c.args.entries.now) c.loop-entry.entry-index c.loop-entry.bytes.items
    c.in_ok-append_eight.ensures refl (omega arith) c.loop-entry-test.false c.loop-entry.invariant).are_counted
