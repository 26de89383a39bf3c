use Rattle.std.proofs.Common.{◌≡◌, ◌+◌, length}
use Rattle.std.specs.Vec.Iter.{into_iter_items, into_iter_len}
use Rattle.loadfed.proofs.Parsed.{AreParsed}
use Rattle.loadfed.proofs.federation.programs_of.Given as goal

abbrev pub invariant-loop-federate : goal.invariant-loop-federate
invariant-loop-federate l =
    (into_iter_len l.shapes + l.federate-index ≡ length l.federates)
    × AreParsed l.federates l.fn.shapes.items l.federate-index (into_iter_items l.shapes) l.programs.items
