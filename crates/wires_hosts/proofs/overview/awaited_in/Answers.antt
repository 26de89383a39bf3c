use Rattle.std.proofs.Common.{◌∙◌, List, ap}
use Rattle.std.proofs.lemmas.List.{take_all}
use Rattle.wires_hosts.specs.declared.seen.Seen.{Seen}
use Rattle.wires_hosts.specs.Awaited.{awaited_of}
use Rattle.wires_hosts.specs.Overview.{are_there}
use Rattle.wires_hosts.proofs.Federates.{awaited_more}
use Rattle.wires_hosts.proofs.overview.awaited_in.Goals as goal

pub loop-of-preserved : goal.loop-of-preserved
loop-of-preserved c =
    awaited_more c.args.seen.now c.loop-of.of-index c.of-item.result c.loop-of.awaited c.with-awaited.result c.is_none.result c.loop-of-test.true c.of-item.is
    c.is_none.ensures c.with-awaited.ensures c.loop-of.invariant

pub returns : goal.returns
returns c = c.loop-of.invariant ∙ ap (λ (seen : List Seen). awaited_of (are_there seen)) (take_all c.loop-of.of-index c.args.seen.now c.loop-of-test.false)
