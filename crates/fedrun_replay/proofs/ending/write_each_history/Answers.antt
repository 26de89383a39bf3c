use Rattle.std.proofs.Common.{◌≡◌, ◌+◌, ℕ, suc, sym, subst, arith}
use Rattle.std.specs.Io.KnownBytes.{Appends}
use Rattle.std.proofs.KnownBytes.{Appends-trans}
use Rattle.files_text.specs.PlanText.{printed_each}
use Rattle.fedrun_replay.specs.Replayed.{history}
use Rattle.fedrun_replay.proofs.ending.write_each_history.Goals as goal

pub loop-federate-preserved : goal.loop-federate-preserved
loop-federate-preserved g c =
    let before = g.W.Write.contents c.args.out.now in
    let after = g.W.Write.contents c.write_history.new.out in
    let next : c.loop-federate.federate + 1 ≡ suc c.loop-federate.federate = omega arith in
    subst (λ (count : ℕ). Appends before after (printed_each (history c.args.format c.args.world.now) count)) (sym next)
    (Appends-trans (g.W.Write.contents c.args.out.now) (g.W.Write.contents c.loop-federate.out) (g.W.Write.contents c.write_history.new.out)
    (printed_each (history c.args.format c.args.world.now) c.loop-federate.federate) (history c.args.format c.args.world.now c.loop-federate.federate) c.loop-federate.invariant
    c.in_ok-write_history.ensures)
