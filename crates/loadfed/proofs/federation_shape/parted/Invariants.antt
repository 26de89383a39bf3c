use Rattle.std.proofs.Common.{◌≡◌, ◌++◌, map, length}
use Rattle.std.specs.Vec.Iter.{into_iter_items, into_iter_len}
use Rattle.loadfed.proofs.federation_shape.parted.Given as goal

abbrev pub invariant-loop-shape : goal.invariant-loop-shape
invariant-loop-shape l =
    (map (λ s. s.federate) l.yielded ≡ l.federates.items)
    × (map (λ s. s.program) l.yielded ≡ l.programs.items)
    × (l.fn.shapes.items ≡ l.yielded ++ into_iter_items l.shape-iterator)
    × (into_iter_len l.shape-iterator ≡ length (into_iter_items l.shape-iterator))
