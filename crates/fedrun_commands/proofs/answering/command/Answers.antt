-- What was gained of a line is a prefix of it.
use Rattle.std.proofs.Common.{IfSome}
use Rattle.fedrun_commands.specs.Faults.{printed_fault}
use Rattle.fedrun_commands.proofs.Lines.{if_there}
use Rattle.fedrun_commands.proofs.answering.command.Goals as goal

pub returns-clause-printed : goal.returns-clause-printed
returns-clause-printed g c failed =
    let answered = c.answer.ensures.printed failed in
    record {
      fault = answered.fault;
      stands = answered.stands;
      status_is = answered.status_is;
      line = if_there (printed_fault answered.fault) (λ text. λ gained. gained.begun) answered.line;
    }
