-- What a search for the journals of a claim says of it.
use Rattle.std.proofs.Common.{◌≡◌, ◌∙◌, ℕ, ◌<◌, Bool, true, List, [], sym, ap, subst}
use Rattle.std.specs.Prelude.{◌↔◌}
use Rattle.plan.specs.External.{AreInputsOf}
use Rattle.plan.specs.Federation.{federate_count}
use Rattle.plan.specs.Legal.{IsLegal}
use Rattle.reactor_programs.specs.Programs.{AreProgramsOf}
use Rattle.node.specs.declared.event.Event.{Event}
use Rattle.node_cores.specs.CoordinatorCore.{coordinator_core}
use Rattle.world_stations.specs.declared.step.Step.{Step}
use Rattle.recorder_search.specs.Motion.{after_all}
use Rattle.recorder_search.specs.declared.found.Found.{Found}
use Rattle.recorder_search.specs.declared.found.Found.TheVariants.{All as Whole, Stuck}
use Rattle.world.specs.World.{WorldView, stations_of}
use Rattle.recorder_reports.specs.declared.report.Report.{Report}
use Rattle.recorder_reports.specs.Reports.{AreComplete}
use Rattle.recorder.specs.Placing.{world_motion}
use Rattle.recorder.specs.Audited.{Claim, world_of, claim_of, AgreesWith, HasReportedRows, HasSearched, IsFirstApart, IsMismatch, IsProvedBy, IsFinishedBy}
use Rattle.recorder.proofs.Proved.{after_world, coordinator_there, proved}

-- the world that is left is of the claim's federation
pub same_claim : (c : Claim) (w : WorldView) (found : Found) → HasSearched c w found → claim_of w c.reports c.coordinator ≡ c
same_claim c w Whole searched = ap (λ v. claim_of v c.reports c.coordinator) (searched.2 ∙ after_world (world_of c []) searched.0)
same_claim c w (Stuck node event) searched = ap (λ v. claim_of v c.reports c.coordinator) (searched.2 ∙ after_world (world_of c []) searched.0)

pub complete_there : (c : Claim) (w : WorldView) (found : Found) → HasSearched c w found → AreComplete (federate_count c.draft) c.reports →
    AreComplete (federate_count w.draft) c.reports
complete_there c w found searched complete =
    let P : Claim → Type 0 = λ d. AreComplete (federate_count d.draft) d.reports in
    subst P (sym (same_claim c w found searched)) complete

-- what is said of that world's federation, whatever the coordinator's journal is, is said of the claim
pub told_of : (P : Claim → Type 0) (c : Claim) (w : WorldView) (found : Found) → HasSearched c w found →
    ((coordinator : List Event) → HasSearched (claim_of w c.reports coordinator) w found → P (claim_of w c.reports coordinator)) → P c
told_of P c w found searched judged =
    let same = same_claim c w found searched in
    subst P same (judged c.coordinator (subst (λ (d : Claim). HasSearched d w found) (sym same) searched))

module _ (w : WorldView) (reports : List Report) (coordinator : List Event) where
  found_world : (steps : List Step) → w ≡ after_all world_motion (world_of (claim_of w reports coordinator) []) steps → w ≡ world_of (claim_of w reports coordinator) steps
  found_world steps is = is ∙ after_world (world_of (claim_of w reports coordinator) []) steps

  -- these steps agree with the journals, and this is the first place at which rows differ
  pub apart_so : (steps : List Step) (j row : ℕ) → AgreesWith (claim_of w reports coordinator) steps →
      w ≡ after_all world_motion (world_of (claim_of w reports coordinator) []) steps → IsFirstApart w reports j row → IsMismatch (claim_of w reports coordinator) steps j row
  apart_so steps j row agrees is apart = record {
    agrees = agrees;
    apart = subst (λ v. IsFirstApart v reports j row) (found_world steps is) apart;
  }

  -- the steps are those that are listed in that world
  pub listed_there : (steps : List Step) → w ≡ after_all world_motion (world_of (claim_of w reports coordinator) []) steps → steps ≡ w.steps
  listed_there steps is = sym (ap (λ v. v.steps) (found_world steps is))

  -- or no rows differ
  pub proved_so : (steps : List Step) → IsLegal w.draft → AreProgramsOf w.draft w.programs → AreInputsOf w.draft w.inputs → AreComplete (federate_count w.draft) reports →
      AgreesWith (claim_of w reports coordinator) steps → w ≡ after_all world_motion (world_of (claim_of w reports coordinator) []) steps →
      ((j : ℕ) → j < federate_count w.draft → HasReportedRows w reports j) → IsProvedBy (claim_of w reports coordinator) steps
  proved_so steps legal are given complete agrees is rows =
      proved (claim_of w reports coordinator) legal are given steps complete agrees
      (λ j below. subst (λ v. HasReportedRows v reports j) (found_world steps is) (rows j below))

  -- and whether the coordinator is finished there is whether its journal gives a finished one
  pub finished_so : (steps : List Step) (is_finished : Bool) → AgreesWith (claim_of w reports coordinator) steps →
      w ≡ after_all world_motion (world_of (claim_of w reports coordinator) []) steps → is_finished ≡ coordinator_core.finished (stations_of w).coordinator.node →
      (is_finished ≡ true) ↔ IsFinishedBy (claim_of w reports coordinator)
  finished_so steps is_finished agrees is tells =
      let same = tells ∙ ap (λ v. coordinator_core.finished (stations_of v).coordinator.node) (found_world steps is)
      ∙ ap (λ s. coordinator_core.finished s.node) (coordinator_there (claim_of w reports coordinator) steps agrees) in
      ((λ told. sym same ∙ told), (λ finished. same ∙ finished))
