use Rattle.std.specs.Prelude.{All, map}
use Rattle.loadfed_tables.proofs.KeyReadings.{IsKnown}
use Rattle.loadfed_tables.proofs.section.Section.has_only.Given as goal

abbrev pub invariant-loop-key : goal.invariant-loop-key
invariant-loop-key l = All (IsKnown (map (λ k. k.now) l.known)) l.yielded
