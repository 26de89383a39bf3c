use Rattle.std.proofs.lemmas.Result.{err_from_is_err_and}
use Rattle.reactor_program.proofs.Present.{well_formed}
use Rattle.reactor_program.proofs.OneReading.{only_memory}
use Rattle.reactor_program.proofs.program.Program.parse.Goals as goal

pub returns-in_err-reactions-clause-accepts : goal.returns-in_err-reactions-clause-accepts
returns-in_err-reactions-clause-accepts c spelled h =
    let p = err_from_is_err_and c.from_residual.result c.from_residual.ensures.1 in
    rw (p.1, p.2) (only_memory c.args.slots.now c.args.states.items c.args.reactions.now spelled c.in_err-reactions.field-0.0 h (rw c.as_slice-2.ensures.value at c.in_err-reactions.ensures.refused))

pub new-requires : goal.new-requires
new-requires c = rw c.in_ok-copy_of.ensures (well_formed c.args.slots.now c.args.states.items c.in_ok-reactions.reactions.items c.args.reactions.now (rw c.as_slice-2.ensures.value at c.in_ok-reactions.ensures.spelled))
