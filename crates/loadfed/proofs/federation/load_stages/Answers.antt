use Rattle.std.proofs.Common.{◌<◌, ◌≤◌, length, refl, arith}
use Rattle.std.proofs.lemmas.Result.{err_from_is_err_and}
use Rattle.toml.specs.View.{table_view}
use Rattle.loadfed_tables.specs.Sections.{members_of}
use Rattle.loadfed.specs.declared.federation.TheConstants.{MOST_BYTES}
use Rattle.loadfed.specs.Loaded.{too_long}
use Rattle.loadfed.proofs.Names.{all_ready}
use Rattle.loadfed.proofs.Planned.{table_told, shape_told, loaded_told}
use Rattle.loadfed.proofs.federation.load_stages.Goals as goal

pub returns-then-bytes-gt-MOST_BYTES : goal.returns-then-bytes-gt-MOST_BYTES
returns-then-bytes-gt-MOST_BYTES c =
    let long : MOST_BYTES < length c.args.bytes.now = omega arith in
    too_long (record { told = refl; long = long })

pub returns-in_err-table : goal.returns-in_err-table
returns-in_err-table c =
    let few : length c.args.bytes.now ≤ MOST_BYTES = omega arith in
    let p = err_from_is_err_and c.from_residual.result c.from_residual.ensures.1 in
    rw (p.1, p.2) (table_told c.args.bytes.now _ few c.in_err-table.ensures.refused)

pub returns-in_err-shape : goal.returns-in_err-shape
returns-in_err-shape c =
    let few : length c.args.bytes.now ≤ MOST_BYTES = omega arith in
    let p = err_from_is_err_and c.from_residual-in_err-shape.result c.from_residual-in_err-shape.ensures.1 in
    rw (p.1, p.2) (shape_told c.args.bytes.now (members_of c.new.result) (table_view c.in_ok-table.table) _ c.new.ensures few c.in_ok-table.ensures.ok c.in_err-shape.ensures.refused)

pub plan_and_programs-requires : goal.plan_and_programs-requires
plan_and_programs-requires c =
    all_ready (members_of c.new.result) c.in_ok-shape.shape.draft.federates c.in_ok-shape.shape.programs.items c.in_ok-shape.ensures.ok.federates_are

pub returns : goal.returns
returns c =
    let few : length c.args.bytes.now ≤ MOST_BYTES = omega arith in
    loaded_told c.args.bytes.now (members_of c.new.result) (table_view c.in_ok-table.table) c.in_ok-shape.shape.draft c.in_ok-shape.shape.programs.items c.plan_and_programs.result
    c.new.ensures few c.in_ok-table.ensures.ok c.in_ok-shape.ensures.ok c.plan_and_programs.ensures.plan c.plan_and_programs.ensures.legal c.plan_and_programs.ensures.spelled c.plan_and_programs.ensures.programs c.plan_and_programs.ensures.refused
