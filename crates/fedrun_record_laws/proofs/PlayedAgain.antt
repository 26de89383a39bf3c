-- A replay of recorded steps.
use Rattle.std.proofs.Common.{◌≡◌, ◌∙◌, ℕ, zero, suc, ◌+◌, ◌<◌, ◌≤◌, true, if◌then◌else◌, List, [], ◌∷◌, ◌++◌, codes, refl, sym, ap, subst, append-nil, arith}
use Rattle.std.specs.Prelude.{Option, None}
use Rattle.std.specs.List.{list_any}
use Rattle.std.specs.Io.KnownBytes.{Appends}
use Rattle.std.proofs.KnownBytes.{Appends-trans}
use Rattle.plan.specs.Federation.{federate_count}
use Rattle.world_stations.specs.declared.step.Step.{Step}
use Rattle.world_stations.specs.Kept.{is_forget, is_kept}
use Rattle.world_stations.specs.Federation.{rows_in}
use Rattle.world_stations.proofs.Worlds.{listed_so}
use Rattle.world_stations.proofs.Rows.{all_kept}
use Rattle.world_progress.specs.Rounds.{Playing, makes, after_tasks}
use Rattle.world.specs.World.{WorldView, stations_of, with_steps}
use Rattle.recorder.specs.Audited.{Claim, world_of, IsProvedBy}
use Rattle.recorder_reports.specs.Reports.{reported_rows}
use Rattle.files_text.specs.declared.row_format.RowFormat.TheVariants.{Text}
use Rattle.files_text.specs.RowText.{printed_rows}
use Rattle.files_text.specs.PlanText.{federate_name, printed_each}
use Rattle.files_script.specs.Scripts.{Script, IsScriptOf}
use Rattle.files_script.specs.declared.script.ScheduleLine.{ScheduleLine}
use Rattle.files_record.specs.StepText.{printed_steps}
use Rattle.files_record.specs.ReadAgain.{AreRecorded, SaysSteps, lines_from}
use Rattle.files_record.proofs.Lines.{read_again}
use Rattle.fedrun_replay.specs.Play.{Made, unasked, unasked_player, playing_of, made_by, steps_of, refusals}
use Rattle.fedrun_replay.specs.Closing.{made_in_all}
use Rattle.fedrun_replay.specs.Replayed.{history, histories, IsReplayed}
use Rattle.fedrun_run.specs.Printed.{printed_reports}
use Rattle.fedrun_record_laws.specs.PlayedAgain.{made_from, PrintsAgain}

-- lines that say steps make these steps
made_again : (federates number : ℕ) (steps : List Step) (p : Playing) → made_by federates (lines_from number steps) p ≡ made_from number steps
made_again federates number [] p = refl
made_again federates number (step ∷ rest) p =
    ap (λ (more : List Made). record { line = number; step = step } ∷ more) (made_again federates (number + 1) rest (after_tasks (makes step ∷ []) p))

steps_again : (number : ℕ) (steps : List Step) → steps_of (made_from number steps) ≡ steps
steps_again number [] = refl
steps_again number (step ∷ rest) = ap (λ (more : List Step). step ∷ more) (steps_again (number + 1) rest)

-- and where no closing rounds are made, no others
all_made : (federates : ℕ) (steps : List Step) (s : Script) (p : Playing) (rounds : ℕ) → SaysSteps steps s → rounds ≤ 0 →
    made_in_all federates s rounds p ≡ made_from 1 steps
all_made federates steps s p zero says none =
    append-nil (made_by federates s.lines p)
    ∙ (ap (λ (lines : List ScheduleLine). made_by federates lines p) says.lines ∙ made_again federates 1 steps p)
all_made federates steps s p (suc rounds) says none = absurd (omega arith)

module _ (c : Claim) (steps : List Step) (proved : IsProvedBy c steps) where
  kept_there : (j : ℕ) → is_kept steps j ≡ true
  kept_there j =
      all_kept c.draft c.programs c.inputs steps
      (ap (list_any is_forget) (listed_so c.draft c.programs c.inputs steps) ∙ proved.agrees.none_forgets) j

  -- a federate's history is the rows that it reports
  history_again : (j : ℕ) → j < federate_count c.draft → history Text (world_of c steps) j ≡ printed_rows c.draft.federates (reported_rows c.reports j)
  history_again j below =
      ap (λ b. if b then printed_rows c.draft.federates (rows_in (stations_of (world_of c steps)) j) else federate_name c.draft j ++ codes " forgotten\n") (kept_there j)
      ∙ ap (printed_rows c.draft.federates) (sym (proved.rows j below))

  histories_again : (count : ℕ) → count ≤ federate_count c.draft →
      printed_each (history Text (world_of c steps)) count ≡ printed_each (λ j. printed_rows c.draft.federates (reported_rows c.reports j)) count
  histories_again zero few = refl
  histories_again (suc count) few =
      ap (λ front. front ++ history Text (world_of c steps) count) (histories_again count (omega arith))
      ∙ ap (λ last. printed_each (λ j. printed_rows c.draft.federates (reported_rows c.reports j)) count ++ last) (history_again count (omega arith))

  -- the replay prints them, after what was refused
  pub prints_again : (s : Script) (before after : Option (List ℕ)) → AreRecorded c.draft steps → IsScriptOf c.draft (printed_steps c.draft steps) s →
      IsReplayed c.draft c.programs c.inputs s None before after → PrintsAgain c steps before after
  prints_again s before after recorded is replayed =
      let played = replayed.plays in
      let player = unasked_player c.draft c.programs c.inputs in
      let all : made_in_all (federate_count c.draft) s played.rounds (playing_of player) ≡ made_from 1 steps =
      all_made (federate_count c.draft) steps s (playing_of player) played.rounds (read_again c.draft steps s recorded is) played.all.may.at_most in
      let same : steps_of (made_in_all (federate_count c.draft) s played.rounds (playing_of player)) ≡ steps = ap steps_of all ∙ steps_again 1 steps in
      let last : replayed.last ≡ world_of c steps = played.plays.later_is ∙ ap (with_steps (unasked c.draft c.programs c.inputs)) same in
      let refused : Appends before replayed.played (refusals (stations_of (world_of c [])) (made_from 1 steps)) =
      subst (λ (made : List Made). Appends before replayed.played (refusals (stations_of (world_of c [])) made)) all played.plays.printed in
      let ended : Appends replayed.played after (histories (world_of c steps)) =
      subst (λ (w : WorldView). Appends replayed.played after (histories w)) last replayed.ended in
      let rows : Appends replayed.played after (printed_reports Text c.draft c.reports ++ codes "end\n") =
      subst (λ (text : List ℕ). Appends replayed.played after (text ++ codes "end\n")) (histories_again (federate_count c.draft) (omega arith)) ended in
      Appends-trans before replayed.played after _ _ refused rows
