use Rattle.toml.specs.View.{table_view}
use Rattle.loadfed_tables.specs.Sections.{members_of}
use Rattle.expand_federation.proofs.Arrays.{more_tables, all_tables_in}
use Rattle.expand_federation.proofs.tables.tables_at.Goals as goal

pub loop-value-preserved : goal.loop-value-preserved
loop-value-preserved c =
    rw c.in_ok-push.ensures.items
    (more_tables c.in_ok-value-items.value-items.now c.loop-value.tables.items c.loop-value.value-index c.value-item.result c.in_ok-table.table
    c.loop-value-test.true c.value-item.is c.loop-value.invariant c.in_ok-table.ensures)

pub returns : goal.returns
returns c =
    all_tables_in c.args.key.now (members_of c.new-section.result) (table_view c.args.members.now) c.in_ok-value-items.value-items.now c.loop-value.tables.items c.loop-value.value-index
    c.new-section.ensures c.in_ok-value-items.ensures.ok c.loop-value.invariant c.loop-value-test.false
