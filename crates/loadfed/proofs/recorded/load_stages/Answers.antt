use Rattle.std.proofs.Common.{◌<◌, ◌≤◌, length, refl, arith}
use Rattle.std.proofs.lemmas.Result.{err_from_is_err_and}
use Rattle.toml.specs.View.{table_view}
use Rattle.loadfed_tables.specs.Sections.{members_of}
use Rattle.loadfed.specs.declared.recorded.TheConstants.{MOST_INPUT_BYTES}
use Rattle.loadfed.specs.InputShape.{too_long}
use Rattle.loadfed.proofs.InputReadings.{input_table_told, input_shape_told, checked_told}
use Rattle.loadfed.proofs.recorded.load_stages.Goals as goal

pub returns-then-bytes-gt-MOST_INPUT_BYTES : goal.returns-then-bytes-gt-MOST_INPUT_BYTES
returns-then-bytes-gt-MOST_INPUT_BYTES c =
    let long : MOST_INPUT_BYTES < length c.args.bytes.now = omega arith in
    too_long (record { told = refl; long = long })

pub returns-in_err-table : goal.returns-in_err-table
returns-in_err-table c =
    let few : length c.args.bytes.now ≤ MOST_INPUT_BYTES = omega arith in
    let p = err_from_is_err_and c.from_residual.result c.from_residual.ensures.1 in
    rw (p.1, p.2) (input_table_told c.args.plan.now c.args.bytes.now _ few c.in_err-table.ensures.refused)

pub returns-in_err-inputs : goal.returns-in_err-inputs
returns-in_err-inputs c =
    let few : length c.args.bytes.now ≤ MOST_INPUT_BYTES = omega arith in
    let p = err_from_is_err_and c.from_residual-in_err-inputs.result c.from_residual-in_err-inputs.ensures.1 in
    rw (p.1, p.2) (input_shape_told c.args.plan.now c.args.bytes.now (members_of c.new.result) (table_view c.in_ok-table.table) _ c.new.ensures few c.in_ok-table.ensures.ok c.in_err-inputs.ensures.refused)

pub returns : goal.returns
returns c =
    let few : length c.args.bytes.now ≤ MOST_INPUT_BYTES = omega arith in
    checked_told c.args.plan.now c.args.bytes.now (members_of c.new.result) (table_view c.in_ok-table.table) c.in_ok-inputs.inputs.items c.checked.result
    c.new.ensures few c.in_ok-table.ensures.ok c.in_ok-inputs.ensures.ok c.checked.ensures.ok c.checked.ensures.known c.checked.ensures.refused
