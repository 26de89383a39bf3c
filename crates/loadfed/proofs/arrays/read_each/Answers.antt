use Rattle.std.proofs.lemmas.Result.{err_from_is_err_and}
use Rattle.loadfed_tables.specs.Sections.{members_of}
use Rattle.loadfed.proofs.TableReadings.{read_none, read_more, read_all, array_told, entry_told, inside_told}
use Rattle.loadfed.proofs.arrays.read_each.Goals as goal

pub loop-value-preserved : goal.loop-value-preserved
loop-value-preserved g c =
    rw c.in_ok-push.ensures.items
    (read_more g.T.FromTable.says c.in_ok-values.values.now c.loop-value.each.items c.loop-value.value-index c.value-item.result (members_of c.in_ok-table.table) c.in_ok-entry.entry c.loop-value-test.true c.value-item.is c.loop-value.invariant c.in_ok-table.ensures.ok c.in_ok-entry.ensures.ok)

pub loop-value-init : goal.loop-value-init
loop-value-init g c = rw c.new-each.ensures.items (read_none g.T.FromTable.says)

pub returns-in_err-values-clause-refused : goal.returns-in_err-values-clause-refused
returns-in_err-values-clause-refused g c =
    let p = err_from_is_err_and c.from_residual.result c.from_residual.ensures.1 in
    rw (p.1, p.2) (array_told g.T.FromTable.has_fault c.args.key.now (members_of c.args.section.now) _ c.in_err-values.ensures.refused)

pub returns-in_err-table-clause-refused : goal.returns-in_err-table-clause-refused
returns-in_err-table-clause-refused g c =
    let p = err_from_is_err_and c.from_residual-in_err-table.result c.from_residual-in_err-table.ensures.1 in
    rw (p.1, p.2) (entry_told g.T.FromTable.has_fault c.args.key.now (members_of c.args.section.now) c.in_ok-values.values.now c.loop-value.value-index c.value-item.result _ c.in_ok-values.ensures.ok c.loop-value-test.true c.value-item.is c.in_err-table.ensures.refused)

pub returns-in_err-entry-clause-refused : goal.returns-in_err-entry-clause-refused
returns-in_err-entry-clause-refused g c =
    let p = err_from_is_err_and c.from_residual-in_err-entry.result c.from_residual-in_err-entry.ensures.1 in
    rw (p.1, p.2) (inside_told g.T.FromTable.has_fault c.args.key.now (members_of c.args.section.now) c.in_ok-values.values.now c.loop-value.value-index c.value-item.result (members_of c.in_ok-table.table) _ c.in_ok-values.ensures.ok c.loop-value-test.true c.value-item.is c.in_ok-table.ensures.ok c.in_err-entry.ensures.refused)

pub returns-clause-ok : goal.returns-clause-ok
returns-clause-ok g c = read_all g.T.FromTable.says c.args.key.now (members_of c.args.section.now) c.in_ok-values.values.now c.loop-value.each.items c.loop-value.value-index c.in_ok-values.ensures.ok c.loop-value.invariant c.loop-value-test.false
