-- What is written of steps, one after the other.
use Rattle.std.proofs.Common.{◌≡◌, ℕ, ◌+◌, ◌<◌, List, [], ◌∷◌, ◌++◌, length, get_or, take, drop, Option, Result, Ok, Err, OnOk, IfErr, refl, sym, ap, ◌∙◌, subst, append_assoc, append-nil, arith}
use Rattle.std.proofs.lemmas.List.{take_more, take-append-drop, map-append}
use Rattle.std.specs.Io.KnownBytes.{Appends}
use Rattle.std.proofs.KnownBytes.{Appends-nil, Appends-trans}
use Rattle.network.specs.Undivided.{Row}
use Rattle.plan.specs.declared.draft.Draft.{Draft}
use Rattle.plan.specs.declared.input.Input.{Input}
use Rattle.plan.specs.Federation.{federate_count}
use Rattle.reactor_program.specs.Behaviour.{Behaviour}
use Rattle.node_cores.specs.FederateCore.{federate_core}
use Rattle.node_cores.specs.CoordinatorCore.{coordinator_core}
use Rattle.world_stations.specs.declared.step.Step.{Step}
use Rattle.world_stations.specs.declared.outcome.Outcome.{Outcome}
use Rattle.world_stations.specs.World.{after_steps}
use Rattle.world_stations.specs.Federation.{Federation, initial_world, step_in}
use Rattle.world.specs.World.{WorldView, stations_of, with_step, with_steps}
use Rattle.files_script.specs.Scripts.{Script}
use Rattle.fedrun_replay.specs.declared.fault.ReplayFault.{ReplayFault}
use Rattle.fedrun_replay.specs.declared.fault.ReplayFault.TheVariants.{World, CannotWrite}
use Rattle.fedrun_replay.specs.Play.{Made, steps_of}
use Rattle.fedrun_replay.specs.Closing.{made_in_all}
use Rattle.fedrun_replay.proofs.Playing.{stations_after}
use Rattle.fedrun_frames.specs.declared.brought.Brought.{Brought}
use Rattle.fedrun_frames.specs.declared.counts.LinkCounts.{LinkCounts}
use Rattle.fedrun_frames.specs.Brought.{brought_by}
use Rattle.fedrun_frames.specs.Accounts.{counts_in, row_made, Account, account_of, account_text, made_text, frames_text}
use Rattle.fedrun_frames.specs.Shown.{unplayed, AreStepsOf, ShowsSchedule, ShowsSomeOf, HasShown, IsUntouched, IsBrokenOff}

-- the world after these steps from another
abbrev after : Federation → List Step → Federation
after w steps = after_steps coordinator_core federate_core w steps

-- steps, and then further ones
text_append : (d : Draft) (w : Federation) (first then : List Made) → frames_text d w (first ++ then) ≡ frames_text d w first ++ frames_text d (after w (steps_of first)) then
text_append d w [] then = refl
text_append d w (made ∷ rest) then =
    let here : List ℕ = made_text d w made in
    let next : Federation = (step_in w made.step).world in
    ap (λ (text : List ℕ). here ++ text) (text_append d next rest then) ∙ sym (append_assoc here (frames_text d next rest) (frames_text d (after next (steps_of rest)) then))

-- the stations after one more step
pub stations_next : (w : WorldView) (step : Step) → stations_of (with_step w step) ≡ (step_in (stations_of w) step).world
stations_next w step = stations_after w (step ∷ [])

-- these steps were made, and written
pub record Shows (d : Draft) (made : List Made) (w later : WorldView) (a b : Option (List ℕ)) : Type 0 where
  pub later_is : later ≡ with_steps w (steps_of made)
  pub written : Appends a b (frames_text d (stations_of w) made)

-- none was made
pub shows_none : (d : Draft) (w : WorldView) (bytes : Option (List ℕ)) → Shows d [] w w bytes bytes
shows_none d w bytes = record {
  later_is = ap (λ (steps : List Step). record w { steps = steps }) (sym (append-nil w.steps));
  written = Appends-nil bytes;
}

shows_on : (d : Draft) (xs : List Made) (made : Made) (w mid later : WorldView) (a b c : Option (List ℕ)) → Shows d xs w mid a b
    → later ≡ with_step mid made.step → Appends b c (made_text d (stations_of mid) made) → Shows d (xs ++ made ∷ []) w later a c
shows_on d xs made w mid later a b c first is one =
    let stations : stations_of mid ≡ after (stations_of w) (steps_of xs) = ap stations_of first.later_is ∙ stations_after w (steps_of xs) in
    let last : frames_text d (stations_of mid) (made ∷ []) ≡ made_text d (stations_of mid) made = append-nil (made_text d (stations_of mid) made) in
    let text : frames_text d (stations_of w) (xs ++ made ∷ []) ≡ frames_text d (stations_of w) xs ++ made_text d (stations_of mid) made =
    text_append d (stations_of w) xs (made ∷ [])
    ∙ ap (λ (v : Federation). frames_text d (stations_of w) xs ++ frames_text d v (made ∷ [])) (sym stations)
    ∙ ap (λ (t : List ℕ). frames_text d (stations_of w) xs ++ t) last in
    let steps : (w.steps ++ steps_of xs) ++ made.step ∷ [] ≡ w.steps ++ steps_of (xs ++ made ∷ []) =
    append_assoc w.steps (steps_of xs) (made.step ∷ []) ∙ ap (λ (s : List Step). w.steps ++ s) (sym (map-append (λ (m : Made). m.step) xs (made ∷ []))) in
    record {
      later_is = is ∙ ap (λ (v : WorldView). with_step v made.step) first.later_is ∙ ap (λ (s : List Step). record w { steps = s }) steps;
      written = subst (Appends a c) (sym text) (Appends-trans a b c _ _ first.written one);
    }

-- the step at this place was made, and written, too
pub shows_next : (d : Draft) (all : List Made) (place : ℕ) (x made : Made) (w mid later : WorldView) (a b c : Option (List ℕ)) → place < length all
    → made ≡ get_or all place x → Shows d (take place all) w mid a b → later ≡ with_step mid made.step → Appends b c (made_text d (stations_of mid) made)
    → Shows d (take (place + 1) all) w later a c
shows_next d all place x made w mid later a b c there is_that first is one =
    subst (λ (front : List Made). Shows d front w later a c) (sym (take_more all place x there))
    (subst (λ (m : Made). Shows d (take place all ++ m ∷ []) w later a c) is_that (shows_on d (take place all) made w mid later a b c first is one))

-- there was no memory for a step, or the writer refused
pub shows_stopped : {T : Type 0} (result : Result T ReplayFault) (fault : ReplayFault) (d : Draft) (all : List Made) (place : ℕ) (w mid : WorldView) (a b c : Option (List ℕ))
    → result ≡ Err fault → Shows d (take place all) w mid a b → IsUntouched fault b c → HasShown result d (stations_of w) all a c
shows_stopped {T} result fault d all place w mid a b c failed first untouched =
    subst (λ (r : Result T ReplayFault). HasShown r d (stations_of w) all a c) (sym failed) (by_fault fault untouched)
  where
    by_fault : (f : ReplayFault) → IsUntouched f b c → HasShown {T = T} (Err f) d (stations_of w) all a c
    by_fault (World memory) same = record {
      made = take place all;
      unmade = drop place all;
      first = sym (take-append-drop place all);
      written = subst (λ (bytes : Option (List ℕ)). Appends a bytes (frames_text d (stations_of w) (take place all))) (sym same) first.written;
    }
    by_fault CannotWrite same = tt

-- what is written of a step made in a world, by its account in the world after it
pub made_is : (d : Draft) (w later : WorldView) (made : Made) (account : Account) → d ≡ w.draft → later ≡ with_step w made.step
    → account ≡ account_of (stations_of w) (federate_count w.draft) made → account_text d (stations_of later) account ≡ made_text d (stations_of w) made
made_is d w later made account draft is accounts =
    ap (λ (v : WorldView). account_text d (stations_of v) account) is
    ∙ ap (λ (v : Federation). account_text d v account) (stations_next w made.step)
    ∙ ap (account_text d (step_in (stations_of w) made.step).world) accounts
    ∙ ap (λ (e : Draft). account_text d (step_in (stations_of w) made.step).world (account_of (stations_of w) (federate_count e) made)) (sym draft)

-- the account of a step, by its parts
pub account_is : (w later : WorldView) (made : Made) (line : ℕ) (step : Step) (brought : Brought) (outcome : Outcome) (row : List Row) (before : List LinkCounts)
    → line ≡ made.line → step ≡ made.step → brought ≡ brought_by (stations_of w) step → outcome ≡ (step_in (stations_of w) step).outcome
    → row ≡ row_made step outcome (stations_of later) → later ≡ with_step w step → before ≡ counts_in (stations_of w) (federate_count w.draft)
    → ◌≡◌ {A = Account} (record { line = line; step = step; brought = brought; outcome = outcome; row = row; before = before }) (account_of (stations_of w) (federate_count w.draft) made)
account_is w later made line step brought outcome row before line_is step_is brought_is outcome_is row_is later_is before_is =
    let at : row ≡ row_made step (step_in (stations_of w) step).outcome (step_in (stations_of w) step).world =
    row_is ∙ ap (λ (o : Outcome). row_made step o (stations_of later)) outcome_is
    ∙ ap (λ (v : WorldView). row_made step (step_in (stations_of w) step).outcome (stations_of v)) later_is
    ∙ ap (λ (v : Federation). row_made step (step_in (stations_of w) step).outcome v) (stations_next w step) in
    let parts : ◌≡◌ {A = Account} (record { line = line; step = step; brought = brought; outcome = outcome; row = row; before = before })
    (account_of (stations_of w) (federate_count w.draft) (record { line = made.line; step = step })) =
    λ y. record { line = line_is y; step = step; brought = brought_is y; outcome = outcome_is y; row = at y; before = before_is y } in
    parts ∙ ap (λ (s : Step). account_of (stations_of w) (federate_count w.draft) (record { line = made.line; step = s })) step_is

module _ (d : Draft) (programs : List Behaviour) (inputs : List Input) (s : Script) (closing : Option ℕ) where
  -- nothing was written
  pub none_written : (bytes : Option (List ℕ)) → ShowsSomeOf d programs inputs s closing bytes bytes
  none_written bytes = record {
    rounds = 0;
    may = record { at_most = omega arith; not_before = λ earlier less. absurd (omega arith) };
    some = record { made = []; unmade = made_in_all (federate_count d) s 0 (unplayed d programs inputs); first = refl; written = Appends-nil bytes };
  }

  none_shown : (bytes : Option (List ℕ)) (fault : ReplayFault) → IsBrokenOff d programs inputs s closing bytes bytes fault
  none_shown bytes (World memory) = none_written bytes
  none_shown bytes CannotWrite = tt

  -- a call failed before anything was written
  pub failed_early : {T : Type 0} (result : Result T ReplayFault) (fault : ReplayFault) (bytes : Option (List ℕ)) → result ≡ Err fault
      → IfErr result (IsBrokenOff d programs inputs s closing bytes bytes)
  failed_early {T} result fault bytes failed =
      subst (λ (r : Result T ReplayFault). IfErr r (IsBrokenOff d programs inputs s closing bytes bytes)) (sym failed) (none_shown bytes fault)

  -- all was written
  pub all_shown : {T : Type 0} (result : Result T ReplayFault) (made : List Made) (a b : Option (List ℕ)) → AreStepsOf d programs inputs s closing made
      → HasShown result d (initial_world d programs inputs) made a b → OnOk result (ShowsSchedule d programs inputs s closing a b)
  all_shown {T} (Ok done) made a b are shown = record { made = made; are = are; written = shown }
  all_shown (Err fault) made a b are shown = tt

  -- there was no memory for one of the steps, or the writer refused
  pub some_shown : {T : Type 0} (result : Result T ReplayFault) (made : List Made) (a b : Option (List ℕ)) → AreStepsOf d programs inputs s closing made
      → HasShown result d (initial_world d programs inputs) made a b → IfErr result (IsBrokenOff d programs inputs s closing a b)
  some_shown {T} (Ok done) made a b are shown = tt
  some_shown (Err (World memory)) made a b are shown = record {
    rounds = are.rounds;
    may = are.all.may;
    some = record { made = shown.made; unmade = shown.unmade; first = sym are.are ∙ shown.first; written = shown.written };
  }
  some_shown (Err CannotWrite) made a b are shown = tt
