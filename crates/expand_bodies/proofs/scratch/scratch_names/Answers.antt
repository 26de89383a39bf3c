use Rattle.std.proofs.Common.{subst, sym}
use Rattle.expand_bodies.specs.Expanded.{AreScratchNames}
use Rattle.expand_bodies.proofs.Unused.{no_scratch}
use Rattle.expand_bodies.proofs.scratch.scratch_names.Goals as goal

pub loop-number-init : goal.loop-number-init
loop-number-init c =
    subst (λ names. AreScratchNames c.args.states.now names) (sym c.new-names.ensures.items) (no_scratch c.args.states.now)
