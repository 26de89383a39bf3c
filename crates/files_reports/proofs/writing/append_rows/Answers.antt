use Rattle.std.proofs.Common.{◌≡◌, ℕ, ◌<◌, length, ap, subst, ◌∙◌, arith}
use Rattle.network.specs.Undivided.{Row}
use Rattle.files_reports.specs.Said.{IsRowOf}
use Rattle.files_reports.specs.Spelling.{row_bytes}
use Rattle.files_reports.proofs.Written.{none_written, one_written, all_written}
use Rattle.files_reports.proofs.writing.append_rows.Goals as goal

pub loop-place-init : goal.loop-place-init
loop-place-init c = none_written row_bytes (IsRowOf c.args.federate) c.args.rows.now c.append_eight.new.bytes.items

pub loop-place-preserved : goal.loop-place-preserved
loop-place-preserved c =
    let there : c.loop-place.place < length c.args.rows.now = omega arith in
    let own : c.row.result.reactor ≡ c.args.federate = ap (λ (r : Row). r.reactor) c.row.ensures ∙ c.requires c.loop-place.place c.row.result there in
    let is_row : IsRowOf c.args.federate c.row.result = subst (λ (n : ℕ). IsRowOf n c.row.result) own c.in_ok-append_row.ensures.is_row in
    one_written row_bytes (IsRowOf c.args.federate) c.args.rows.now c.append_eight.new.bytes.items c.loop-place.place c.loop-place.bytes.items c.row.result c.append_row.new.bytes.items
    there c.row.ensures is_row c.in_ok-append_row.ensures.written c.loop-place.invariant

pub returns-clause-written : goal.returns-clause-written
returns-clause-written c =
    (all_written row_bytes (IsRowOf c.args.federate) c.args.rows.now c.args.bytes.now.items c.append_eight.new.bytes.items c.len.result c.loop-place.place c.loop-place.bytes.items
    c.in_ok-append_eight.ensures c.len.ensures (omega arith) (omega arith) c.loop-place.invariant).written

pub returns-clause-are_rows : goal.returns-clause-are_rows
returns-clause-are_rows c =
    (all_written row_bytes (IsRowOf c.args.federate) c.args.rows.now c.args.bytes.now.items c.append_eight.new.bytes.items c.len.result c.loop-place.place c.loop-place.bytes.items
    c.in_ok-append_eight.ensures c.len.ensures (omega arith) (omega arith) c.loop-place.invariant).are_counted
