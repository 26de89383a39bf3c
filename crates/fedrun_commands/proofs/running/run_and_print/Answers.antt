use Rattle.std.proofs.Common.{inl}
use Rattle.fedrun_commands.proofs.running.run_and_print.Goals as goal

pub returns-in-Err-clause-stands : goal.returns-in-Err-clause-stands
returns-in-Err-clause-stands g c = inl c.in-Err.ensures.err
