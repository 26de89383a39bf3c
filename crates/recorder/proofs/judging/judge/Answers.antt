use Rattle.std.proofs.Common.{◌∙◌, sym, subst}
use Rattle.recorder.specs.Audited.{claim_of, HasSearched, IsProvedBy}
use Rattle.recorder.proofs.Judged.{listed_there, proved_so, finished_so}
use Rattle.recorder.proofs.judging.judge.Goals as goal

pub returns-in-None-clause-ended : goal.returns-in-None-clause-ended
returns-in-None-clause-ended c coordinator searched =
    let all = subst (HasSearched (claim_of c.args.world c.args.reports.now coordinator) c.args.world) c.in-None.ensures.0 searched in
    let listed = listed_there c.args.world c.args.reports.now coordinator all.0 all.2 ∙ sym c.run_of.ensures.steps in
    record {
      proved = subst (IsProvedBy (claim_of c.args.world c.args.reports.now coordinator)) listed
          (proved_so c.args.world c.args.reports.now coordinator all.0 c.requires.federation.0 c.requires.federation.1 c.requires.federation.2 c.requires.complete all.1 all.2 c.in-None.ensures.1);
      finished = finished_so c.args.world c.args.reports.now coordinator all.0 c.run_of.result.is_finished all.1 all.2 c.run_of.ensures.finished;
    }
