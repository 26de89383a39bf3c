use Rattle.std.proofs.Common.{ℕ, List, subst}
use Rattle.fedrun_hosts.specs.EndedLogs.{IsEndedLog}
use Rattle.fedrun_hosts.proofs.logged.finished_log.Goals as goal

pub returns-clause-ended : goal.returns-clause-ended
returns-clause-ended g c =
    subst (λ (b : List ℕ). IsEndedLog c.args.head.now b c.in_ok-log.log) c.as_slice.ensures.value c.in_ok-log.ensures
