use Rattle.std.proofs.Common.{map, length}
use Rattle.recorder.specs.Placing.{initial_of}
use Rattle.recorder.proofs.Ahead.{read_from_initial}
use Rattle.recorder.proofs.incremental.search_from_initial.Goals as goal

pub returns-clause-searched : goal.returns-clause-searched
returns-clause-searched c =
    read_from_initial (initial_of c.args.plan.now c.args.programs.now c.args.inputs.now) c.in_ok-auditor.auditor c.in_ok-reading.reading (length c.args.journals.now)
    (map (λ j. j.now) c.args.journals.now) c.read_to_end.result c.nothing_is_read.ensures c.in_ok-auditor.ensures.initial c.in_ok-reading.ensures c.read_to_end.ensures.found
