use Rattle.std.proofs.Common.{◌≡◌, ℕ, ◌<◌, None}
use Rattle.node_journal.specs.Slips.{event_in}
use Rattle.node_journal.proofs.finding.find_anywhere.Given as goal

abbrev pub invariant-loop-position : goal.invariant-loop-position
invariant-loop-position l = (k : ℕ) → k < l.position → event_in l.blocks k l.place ≡ None
