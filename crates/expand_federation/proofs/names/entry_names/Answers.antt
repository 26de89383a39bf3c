use Rattle.std.proofs.Common.{codes}
use Rattle.loadfed_tables.specs.Sections.{members_of}
use Rattle.loadfed_tables.specs.Tables.{SaysName}
use Rattle.loadfed.proofs.TableReadings.{read_none, read_more, read_all}
use Rattle.expand_federation.proofs.names.entry_names.Goals as goal

pub loop-value-init : goal.loop-value-init
loop-value-init c = rw c.new-names.ensures.items (read_none (SaysName (codes "name")))

pub loop-value-preserved : goal.loop-value-preserved
loop-value-preserved c =
    rw c.in_ok-push.ensures.items
    (read_more (SaysName (codes "name")) c.in_ok-value-items.value-items.now c.loop-value.names.items c.loop-value.value-index c.value-item.result (members_of c.in_ok-entry.entry) c.in_ok-name.name
    c.loop-value-test.true c.value-item.is c.loop-value.invariant c.in_ok-entry.ensures.ok c.in_ok-name.ensures.ok)

pub returns : goal.returns
returns c =
    rw c.new.ensures
    (read_all (SaysName (codes "name")) c.args.key.now (members_of c.args.federate.now) c.in_ok-value-items.value-items.now c.loop-value.names.items c.loop-value.value-index
    c.in_ok-value-items.ensures.ok c.loop-value.invariant c.loop-value-test.false)
