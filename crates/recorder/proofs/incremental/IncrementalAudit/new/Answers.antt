use Rattle.recorder.specs.Placing.{initial_of}
use Rattle.recorder.proofs.Ahead.{begun_new}
use Rattle.recorder.proofs.incremental.IncrementalAudit.new.Goals as goal

pub invariant_of-result : goal.invariant_of-result
invariant_of-result c =
    begun_new (initial_of c.args.plan.now c.args.programs.now c.args.inputs.now) c.in_ok-auditor.auditor c.in_ok-reading.reading c.in_ok-known.known.items
    c.federate_count-count.result c.requires.programs c.requires.inputs c.in_ok-auditor.ensures.initial c.in_ok-reading.ensures
    c.federate_count-count.ensures c.nothing_is_read.ensures
