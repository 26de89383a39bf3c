use Rattle.std.proofs.Common.{◌++◌, take, codes}
use Rattle.std.specs.Io.KnownBytes.{Appends}
use Rattle.std.specs.List.{flat_map}
use Rattle.fedrun_trace.specs.Turns.{set_member}
use Rattle.fedrun_trace.proofs.turns.write_outputs.Given as goal

-- the entries so far are written
abbrev pub invariant-loop-entry : goal.invariant-loop-entry
invariant-loop-entry g l =
    Appends (g.W.Write.contents l.initial.out) (g.W.Write.contents l.out)
    (flat_map (λ e. codes "," ++ set_member l.slots e) (take l.entry-index l.rest))
