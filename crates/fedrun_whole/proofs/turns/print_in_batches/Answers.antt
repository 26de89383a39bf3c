use Rattle.std.proofs.Common.{◌≡◌, ◌-◌, ◌<◌, ◌≤◌, ℕ, [], Ok, IfOk, Result, subst, arith, min}
use Rattle.reactor.specs.declared.memory.Memory.{Memory}
use Rattle.whole.specs.Progress.{pending_in}
use Rattle.fedrun_whole.specs.PrintedTurns.{let_go_after}
use Rattle.fedrun_whole.proofs.Batches.{going_on}
use Rattle.fedrun_whole.proofs.turns.print_in_batches.Goals as goal

pub loop-left-preserved : goal.loop-left-preserved
loop-left-preserved g c =
    let p = c.loop-left.program in
    let next = c.print_batch.new.program in
    let left = c.loop-left.left in
    let IsMade : Result ℕ Memory → Type 0 = λ answer. IfOk answer (λ made.
    (next ≡ let_go_after made p) × (made ≤ c.min-most.result) × (made < c.min-most.result → pending_in next ≡ [])) in
    let is_made : IsMade (Ok c.in-Ok.made) = subst IsMade c.in-Ok.is c.in_ok-made.ensures.made in
    let most : c.min-most.result ≡ min left 1024 = c.min-most.ensures in
    going_on c.args.format c.args.program.now p next c.args.turns left c.in-Ok.made (g.O.Write.contents c.args.out.now) (g.O.Write.contents c.loop-left.out)
    (g.O.Write.contents c.print_batch.new.out) c.loop-left.invariant is_made.0 c.in_ok-made.ensures.printed (left - c.in-Ok.made)
    (let few = is_made.1 in omega (arith, most, few))
