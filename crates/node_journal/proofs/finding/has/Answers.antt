use Rattle.std.proofs.Common.{◌∙◌, ap, Option, None, Some, is_some}
use Rattle.node_journal.specs.declared.placed_block.PlacedBlock.{PlacedBlock}
use Rattle.node_journal.specs.Slips.{event_if}
use Rattle.node_journal.proofs.Places.{lent_in}
use Rattle.node_journal.proofs.finding.has.Goals as goal

pub returns-in-Some : goal.returns-in-Some
returns-in-Some c =
    c.has.ensures
    ∙ ap (λ (found : Option PlacedBlock). is_some (event_if found c.args.place)) (lent_in c.args.blocks.now c.args.position (Some c.in-Some.placed) c.in-Some.ensures.lookup)

pub returns-in-None : goal.returns-in-None
returns-in-None c = ap (λ (found : Option PlacedBlock). is_some (event_if found c.args.place)) (lent_in c.args.blocks.now c.args.position None c.in-None.ensures.lookup)
