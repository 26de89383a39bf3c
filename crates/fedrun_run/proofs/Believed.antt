-- Reports that an audit believes, and those that it doesn't.
use Rattle.std.proofs.Common.{◌≡◌, ℕ, true, inl, inr, List, Option, Some, None, MatchOption, IfSome, IsSomeAnd, Bor, Vec, Global, Result, Ok, Err, OnOk, IfOk, IfErr, sym, subst}
use Rattle.std.specs.Io.KnownBytes.{Appends}
use Rattle.std.proofs.lemmas.Result.{on_ok_weaker, IfErr-weaker}
use Rattle.plan.specs.declared.draft.Draft.{Draft}
use Rattle.plan.specs.declared.input.Input.{Input}
use Rattle.reactor_program.specs.Behaviour.{Behaviour}
use Rattle.node.specs.declared.event.Event.{Event}
use Rattle.world.specs.World.{WorldView}
use Rattle.recorder.specs.Placing.{initial_of}
use Rattle.recorder.specs.declared.audited_run.AuditedRun.{AuditedRun}
use Rattle.recorder_reports.specs.declared.report.Report.{Report}
use Rattle.recorder.specs.Audited.{HasEnded}
use Rattle.wires.specs.declared.threads.RunResults.{RunResults}
use Rattle.wires.specs.declared.run_fault.Cause.TheVariants.{TurnsUsedUp}
use Rattle.wires.specs.declared.run_fault.RunFault.{RunFault}
use Rattle.wires.specs.declared.run_fault.RunFault.TheVariants as run
use Rattle.fedrun_run.specs.declared.output.RunOutput.{RunOutput}
use Rattle.fedrun_run.specs.declared.fault.AuditedFault.{AuditedFault}
use Rattle.fedrun_run.specs.declared.fault.AuditedFault.TheVariants.{NotFinished, Unproved, Memory, CannotWrite}
use Rattle.fedrun_run.specs.Printed.{claim, printed_run, PrintsReports, PrintsAudited, IsAuditedFault, IsAuditedFaultOf, IsOfTheRun, fault_of_run}
use Rattle.fedrun_run.specs.Reported.{AreReportedBy}

module _ (d : Draft) (programs : List Behaviour) (inputs : List Input) (reports : List Report) (coordinator : List Event) where
  -- what is printed is of reports that an audit proved, and whose coordinator is finished
  pub prints_so : (output : RunOutput) (audited : AuditedRun) (before after : Option (List ℕ)) → HasEnded (claim d programs inputs reports coordinator) audited → audited.is_finished ≡ true →
      Appends before after (printed_run output d reports audited.steps.steps) → PrintsReports output d programs inputs reports coordinator before after
  prints_so output audited before after ended is printed =
      let finished = ended.finished.0 is in
      record {
        steps = audited.steps.steps;
        proved = ended.proved;
        finished = finished;
        prefix = ended.proved.prefix;
        whole_part = ended.proved.whole_run finished;
        printed = printed;
      }

  -- a fault of these reports and this journal, where a run's nodes gave them
  pub of_some : (left : RunResults) → AreReportedBy left reports coordinator → (told : AuditedFault) → IsAuditedFaultOf d programs inputs reports coordinator told →
      IsAuditedFault d programs inputs told
  of_some left reported (NotFinished cause) is = tt
  of_some left reported (Unproved failure) is = record { left = left; reports = reports; coordinator = coordinator; reported = reported; fails = is }
  of_some left reported Memory is = tt
  of_some left reported CannotWrite is = tt

-- the fault of a run whose nodes give nothing to audit
pub of_the_run : (d : Draft) (programs : List Behaviour) (inputs : List Input) (told : AuditedFault) → IsOfTheRun told → IsAuditedFault d programs inputs told
of_the_run d programs inputs (NotFinished cause) is = tt
of_the_run d programs inputs (Unproved failure) (inl other) = let bad : ⊥ = cc in absurd bad
of_the_run d programs inputs (Unproved failure) (inr other) = let bad : ⊥ = cc in absurd bad
of_the_run d programs inputs Memory is = tt
of_the_run d programs inputs CannotWrite is = tt

-- it is why the run gave no desks, or that its coordinator isn't finished
pub no_desks : {T : Type 0} (gathered : Result T RunFault) (told : AuditedFault) (P : T → Type 0) → IfOk gathered (λ desks. P desks × (told ≡ NotFinished TurnsUsedUp)) →
    IfErr gathered (λ why. told ≡ fault_of_run why) → IsOfTheRun told
no_desks (Ok desks) told P unfinished fault = inl (TurnsUsedUp, unfinished.1)
no_desks (Err (run.NotFinished cause)) told P unfinished fault = inl (cause, fault)
no_desks (Err run.Memory) told P unfinished fault = inr fault

-- what is passed on of a run's nodes is what they gave
pub same_reports_of : {reports others : List Report} {coordinator journal : List Event} → reports ≡ others → coordinator ≡ journal →
    (left : RunResults) × AreReportedBy left others journal → (left : RunResults) × AreReportedBy left reports coordinator
same_reports_of {reports} {others} {coordinator} {journal} same_reports same_journal run = (
  run.0,
  subst (λ (rs : List Report). AreReportedBy run.0 rs coordinator) (sym same_reports)
      (subst (λ (events : List Event). AreReportedBy run.0 others events) (sym same_journal) run.1),
)

-- the federation of an audit is the one that it was begun for
pub printed_of_some : (output : RunOutput) (d : Draft) (programs : List Behaviour) (inputs : List Input) (w : WorldView) (reports : List Report) (coordinator : List Event) (before after : Option (List ℕ))
    (result : Result (Unit {0}) AuditedFault) → (left : RunResults) × AreReportedBy left reports coordinator → w ≡ initial_of d programs inputs →
    OnOk result (PrintsReports output d w.programs w.inputs reports coordinator before after) → OnOk result (PrintsAudited output d programs inputs before after)
printed_of_some output d programs inputs w reports coordinator before after result run is =
    on_ok_weaker {P = PrintsReports output d w.programs w.inputs reports coordinator before after} {Q = PrintsAudited output d programs inputs before after} result (λ prints. record {
      left = run.0;
      reports = reports;
      coordinator = coordinator;
      reported = run.1;
      prints = subst (λ (x : WorldView). PrintsReports output d x.programs x.inputs reports coordinator before after) is prints;
    })

pub fault_of_some : (d : Draft) (programs : List Behaviour) (inputs : List Input) (w : WorldView) (reports : List Report) (coordinator : List Event)
    (result : Result (Unit {0}) AuditedFault) → (left : RunResults) × AreReportedBy left reports coordinator → w ≡ initial_of d programs inputs →
    IfErr result (IsAuditedFaultOf d w.programs w.inputs reports coordinator) → IfErr result (IsAuditedFault d programs inputs)
fault_of_some d programs inputs w reports coordinator result run is =
    IfErr-weaker result (IsAuditedFaultOf d w.programs w.inputs reports coordinator) (IsAuditedFault d programs inputs)
    (λ told fails. of_some d programs inputs reports coordinator run.0 run.1 told
    (subst (λ (x : WorldView). IsAuditedFaultOf d x.programs x.inputs reports coordinator told) is fails))

-- what holds of a text's bytes holds of them where they are lent
pub text_lent : (P : List ℕ → Type 0) (IsLent : Vec ℕ Global → Bor (List ℕ) → Type 0) → ((x : Vec ℕ Global) (y : Bor (List ℕ)) → IsLent x y → y.now ≡ x.items) →
    (text : Option (Vec ℕ Global)) (lent : Option (Bor (List ℕ))) → MatchOption text (lent ≡ None) (λ x. IsSomeAnd lent (IsLent x)) → IfSome text (λ x. P x.items) → IfSome lent (λ y. P y.now)
text_lent P IsLent same None lent none holds = subst (λ o. IfSome o (λ y. P y.now)) (sym none) tt
text_lent P IsLent same (Some x) (Some y) is holds = subst P (sym (same x y is)) holds
text_lent P IsLent same (Some x) None is holds = absurd is
