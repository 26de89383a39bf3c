-- Reports of desks, one after the other.
use Rattle.std.proofs.Common.{◌≡◌, ℕ, Bool, true, inl, inr, List, [], ◌∷◌, ◌++◌, length, Option, Result, Ok, Err, IsOkAnd, sym, subst, arith}
use Rattle.std.proofs.lemmas.List.{length_push}
use Rattle.std.proofs.lemmas.Option.{slice_get_within}
use Rattle.node.specs.declared.event.Event.{Event}
use Rattle.node.specs.Core.{Core}
use Rattle.desk.specs.Replay.{Desk}
use Rattle.recorder_reports.specs.declared.report.Report.{Report}
use Rattle.wires.specs.declared.threads.RunResults.{RunResults}
use Rattle.wires.specs.Gathered.{AreGathered}
use Rattle.wires.proofs.Pushed.{get_pushed}
use Rattle.fedrun_run.specs.Reported.{StationIsReplay, IsReportOf, AreReportsOf, AreReported}

-- one desk more, with its report
pub one_desk_more : {View Row : Type 0} (core : Core View Row) (is_coordinator : Bool) (Tells : View → Report → Type 0) (desks : List (Desk View)) (desk : Desk View) (reports after : List Report) (report : Report) (number : ℕ) →
    after ≡ reports ++ report ∷ [] → number ≡ length reports → AreReportsOf core is_coordinator Tells desks reports → IsReportOf core is_coordinator Tells number desk report →
    AreReportsOf core is_coordinator Tells (desks ++ desk ∷ []) after
one_desk_more {View = View} core is_coordinator Tells desks desk reports after report number taken counted are is = subst (λ (rs : List Report). AreReportsOf core is_coordinator Tells (desks ++ desk ∷ []) rs) (sym taken) (record {
  count = let a = length_push desks desk in let b = length_push reports report in let c = are.count in omega arith;
  each = λ j one its there here.
      elim (get_pushed desks desk one j there) [
        | inl early ↦ elim (get_pushed reports report its j here) [
          | inl before ↦ are.each j one its early before
          | inr last ↦ let bad : ⊥ = omega (arith, slice_get_within desks j one early, last.0, are.count) in absurd bad
        ]
        | inr end ↦ elim (get_pushed reports report its j here) [
          | inl before ↦ let bad : ⊥ = omega (arith, slice_get_within reports j its before, end.0, are.count) in absurd bad
          | inr last ↦
              let same : number ≡ j = omega (arith, counted, last.0) in
              subst (λ (r : Report). IsReportOf core is_coordinator Tells j one r) last.1
              (subst (λ (d : Desk View). IsReportOf core is_coordinator Tells j d report) end.1
              (subst (λ (k : ℕ). IsReportOf core is_coordinator Tells k desk report) same is))
        ]
      ];
})

-- what follows of each value holds of that of a result
ok_and : {T E : Type 0} (r : Result T E) (P Q : T → Type 0) → ((x : T) → P x → Q x) → IsOkAnd r P → IsOkAnd r Q
ok_and (Ok x) P Q follows p = follows x p
ok_and (Err e) P Q follows p = p

-- what the desks of a finished run say, of which it is known from what they were gathered
pub reported_so : {OfCoordinator CoordinatorRow OfFederate FederateRow E : Type 0} (core : Core OfCoordinator CoordinatorRow) (is_coordinator : Bool) (of_federates : Core OfFederate FederateRow) (federates_coordinate : Bool)
    (Tells : OfFederate → Report → Type 0) (results : Result RunResults E)
    (coordinator : Desk OfCoordinator) (federates : List (Desk OfFederate)) (reports : List Report) (journal : List Event) →
    IsOkAnd results (λ left. AreGathered coordinator federates left) → StationIsReplay core is_coordinator coordinator → core.finished coordinator.station.node ≡ true →
    journal ≡ coordinator.journal → AreReportsOf of_federates federates_coordinate Tells federates reports →
    IsOkAnd results (λ left. AreReported core is_coordinator of_federates federates_coordinate Tells left reports journal)
reported_so core is_coordinator of_federates federates_coordinate Tells results coordinator federates reports journal gathered replayed finished from are =
    ok_and results (λ left. AreGathered coordinator federates left) (λ left. AreReported core is_coordinator of_federates federates_coordinate Tells left reports journal)
    (λ left p. record {
      coordinator = coordinator;
      federates = federates;
      gathered = p;
      replayed = replayed;
      finished = finished;
      from_coordinator = from;
      from_federates = are;
    })
    gathered

-- what holds of what a run's workers left holds of something that they left
pub of_some_left : {E : Type 0} (results : Result RunResults E) (P : RunResults → Type 0) →
    IsOkAnd results (λ left. P left) → (left : RunResults) × P left
of_some_left (Ok left) P holds = (left, holds)
of_some_left (Err fault) P holds = absurd holds
