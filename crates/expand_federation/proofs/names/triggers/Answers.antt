use Rattle.std.proofs.Common.{codes}
use Rattle.loadfed_tables.specs.Sections.{members_of}
use Rattle.loadfed_tables.specs.Tables.{SaysTexts}
use Rattle.loadfed.proofs.TableReadings.{read_none, read_more, read_all}
use Rattle.expand_federation.proofs.names.triggers.Goals as goal

pub loop-value-init : goal.loop-value-init
loop-value-init c = rw c.new-triggers.ensures.items (read_none (SaysTexts (codes "triggers")))

pub loop-value-preserved : goal.loop-value-preserved
loop-value-preserved c =
    rw c.in_ok-push.ensures.items
    (read_more (SaysTexts (codes "triggers")) c.in_ok-value-items.value-items.now c.loop-value.triggers.items c.loop-value.value-index c.value-item.result (members_of c.in_ok-reaction.reaction) c.in_ok-own.own
    c.loop-value-test.true c.value-item.is c.loop-value.invariant c.in_ok-reaction.ensures.ok c.in_ok-own.ensures.ok)

pub returns : goal.returns
returns c =
    read_all (SaysTexts (codes "triggers")) (codes "reaction") (members_of c.args.federate.now) c.in_ok-value-items.value-items.now c.loop-value.triggers.items c.loop-value.value-index
    c.in_ok-value-items.ensures.ok c.loop-value.invariant c.loop-value-test.false
