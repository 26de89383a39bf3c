use Rattle.std.proofs.Common.{rules, ◌≡◌}
use Rattle.std.proofs.lemmas.Result.{IfOk-weaker, IfErr-weaker}
use Rattle.recorder.specs.Audited.{Claim, HasEnded, HasSearched, IsUnproved, claim_of}
use Rattle.recorder.proofs.Judged.{complete_there, told_of}
use Rattle.recorder.proofs.incremental.IncrementalAudit.conclude_complete.Goals as goal

pub judge-requires-clause-complete : goal.judge-requires-clause-complete
judge-requires-clause-complete c =
    let claim : Claim = claim_of c.args.self c.args.reports.now c.args.coordinator.now in
    let there : c.into_world.result ≡ c.in_ok-auditor.auditor = search rules in
    rw there (complete_there claim c.in_ok-auditor.auditor c.in_ok-auditor.found c.in_ok-auditor.ensures.searched c.requires.complete)

pub returns-clause-ended : goal.returns-clause-ended
returns-clause-ended c =
    let claim : Claim = claim_of c.args.self c.args.reports.now c.args.coordinator.now in
    let there : c.into_world.result ≡ c.in_ok-auditor.auditor = search rules in
    let searched : HasSearched claim c.into_world.result c.in_ok-auditor.found = rw there c.in_ok-auditor.ensures.searched in
    IfOk-weaker c.judge.result _ _ (λ audited judged. told_of (λ d. HasEnded d audited) claim c.into_world.result c.in_ok-auditor.found searched judged) c.judge.ensures.ended

pub returns-clause-unproved : goal.returns-clause-unproved
returns-clause-unproved c =
    let claim : Claim = claim_of c.args.self c.args.reports.now c.args.coordinator.now in
    let there : c.into_world.result ≡ c.in_ok-auditor.auditor = search rules in
    let searched : HasSearched claim c.into_world.result c.in_ok-auditor.found = rw there c.in_ok-auditor.ensures.searched in
    IfErr-weaker c.judge.result _ _ (λ fault judged. told_of (λ d. IsUnproved d fault) claim c.into_world.result c.in_ok-auditor.found searched judged) c.judge.ensures.unproved
