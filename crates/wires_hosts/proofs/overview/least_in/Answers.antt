use Rattle.std.proofs.Common.{◌≡◌, List, Option, None, subst}
use Rattle.std.proofs.lemmas.List.{take_all}
use Rattle.std.proofs.lemmas.List.Elements.{All-nil}
use Rattle.tag.specs.LogicalTime.{LogicalTime}
use Rattle.wires_hosts.specs.declared.seen.Seen.{Seen}
use Rattle.wires_hosts.specs.Standing.{IsLeast}
use Rattle.wires_hosts.specs.Overview.{completed_by}
use Rattle.wires_hosts.proofs.Federates.{least_more}
use Rattle.wires_hosts.proofs.overview.least_in.Goals as goal

pub loop-of-init : goal.loop-of-init
loop-of-init c = All-nil (λ (last : Option LogicalTime). last ≡ None)

pub loop-of-preserved : goal.loop-of-preserved
loop-of-preserved c =
    least_more c.args.seen.now c.loop-of.of-index c.of-item.result c.loop-of.least c.least_of-least.result c.loop-of-test.true c.of-item.is c.least_of-least.ensures
    c.loop-of.invariant

pub returns : goal.returns
returns c =
    subst (λ (seen : List Seen). IsLeast (completed_by seen) c.loop-of.least) (take_all c.loop-of.of-index c.args.seen.now c.loop-of-test.false) c.loop-of.invariant
