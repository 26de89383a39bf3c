-- An audit that is begun goes on, and journals go on while it does.
use Rattle.std.proofs.Common.{◌≡◌, ◌∙◌, ℕ, zero, suc, ◌+◌, Bool, true, false, List, [], ◌∷◌, ◌++◌, length, map, set, get_or, replicate, refl, sym, ap, subst, append-nil, arith}
use Rattle.std.specs.Prelude.{Result, Ok, Err, IfOk, OnOk, OnErr, is_err}
use Rattle.std.proofs.lemmas.List.{length-map, length-replicate}
use Rattle.std.proofs.lemmas.List.FromFn.{length-map-range_with_len}
use Rattle.plan.specs.External.{AreInputsOf}
use Rattle.plan.specs.Federation.{federate_count}
use Rattle.reactor_programs.specs.Programs.{AreProgramsOf}
use Rattle.node.specs.declared.event.Event.{Event}
use Rattle.recorder_search.specs.Journals.{IsFound}
use Rattle.recorder_search.specs.declared.found.Found.{Found}
use Rattle.recorder_search.specs.Reading.{Position, IsReading, GrewTo}
use Rattle.world.specs.World.{WorldView}
use Rattle.recorder_reports.specs.declared.report.Report.{Report}
use Rattle.recorder_reports.specs.Reports.{all_journals, journal_of, report_of}
use Rattle.recorder.specs.Incremental.{IsAhead, IsIncremental}
use Rattle.recorder.specs.Placing.{world_motion}

-- what is known is read on
pub reads_on : {E : Type 0} (r : Result (Unit {0}) E) (known : List (List Event)) (journals : List (List Event)) (before after : WorldView) (read more : List ℕ) →
    journals ≡ known →
    OnOk r ((initial : WorldView) → IsReading world_motion initial journals (record { state = before; read = read }) →
    IsReading world_motion initial journals (record { state = after; read = more })) →
    OnOk r (length more ≡ length read) →
    OnOk r ((initial : WorldView) → IsAhead initial before read known → IsAhead initial after more known)
reads_on (Ok u) known journals before after read more are reading sized = λ initial ahead. record {
  sized = sized ∙ ahead.sized;
  reading = subst (λ js. IsReading world_motion initial js (record { state = after; read = more })) are
      (reading initial (subst (λ js. IsReading world_motion initial js (record { state = before; read = read })) (sym are) ahead.reading));
}
reads_on (Err e) known journals before after read more are reading sized = tt

-- a journal that goes on with events, among others
grown : (journals : List (List Event)) (place : ℕ) (events : List Event) → GrewTo journals (set journals place (get_or journals place [] ++ events))
grown [] place events k = ([], refl)
grown (journal ∷ journals) zero events zero = (events, refl)
grown (journal ∷ journals) zero events (suc k) = ([], sym (append-nil (get_or journals k [])))
grown (journal ∷ journals) (suc place) events zero = ([], sym (append-nil journal))
grown (journal ∷ journals) (suc place) events (suc k) = grown journals place events k

-- what is said where what is read of journals is read of longer ones
abbrev pub StaysRead : Type 0
StaysRead = (initial : WorldView) (journals longer : List (List Event)) (p : Position WorldView) → GrewTo journals longer →
    IsReading world_motion initial journals p → IsReading world_motion initial longer p

module _ (initial made : WorldView) (read : List ℕ) (known more : List (List Event)) (is_given_up : Bool) (begun : IsIncremental initial made read known is_given_up) where
  -- it is begun with more events of a journal, or with the same where there is no memory for them
  pub begun_more : {E : Type 0} (r : Result (Unit {0}) E) (place : ℕ) (events : List Event) → StaysRead →
      OnOk r (more ≡ set known place (get_or known place [] ++ events)) → OnErr r (more ≡ known) →
      IsIncremental initial made read more is_given_up
  begun_more (Ok u) place events stays added same = record {
    programs = begun.programs;
    inputs = begun.inputs;
    ahead = λ going. record {
      sized = (begun.ahead going).sized;
      reading = stays initial known more (record { state = made; read = read })
          (subst (λ js. GrewTo known js) (sym added) (grown known place events)) (begun.ahead going).reading;
    };
  }
  begun_more (Err e) place events stays added same = record {
    programs = begun.programs;
    inputs = begun.inputs;
    ahead = λ going. record {
      sized = (begun.ahead going).sized;
      reading = subst (λ js. IsReading world_motion initial js (record { state = made; read = read })) (sym same) (begun.ahead going).reading;
    };
  }

  -- or after what is known was read on
  pub begun_on : {E : Type 0} (r : Result (Unit {0}) E) (after : WorldView) (further : List ℕ) → is_given_up ≡ false → is_err r ≡ false →
      OnOk r ((o : WorldView) → IsAhead o made read known → IsAhead o after further known) → IsIncremental initial after further known is_given_up
  begun_on (Ok u) after further going good on = record {
    programs = begun.programs;
    inputs = begun.inputs;
    ahead = λ still. on initial (begun.ahead still);
  }
  begun_on (Err e) after further going good on = absurd (let no : true ≡ false = good in cc)

-- before the first step nothing is read
pub begun_new : (initial made : WorldView) (read : List ℕ) (known : List (List Event)) (count : ℕ) → AreProgramsOf initial.draft initial.programs →
    AreInputsOf initial.draft initial.inputs → made ≡ initial → read ≡ replicate (count + 1) 0 → count ≡ federate_count initial.draft →
    ((o : WorldView) (journals : List (List Event)) (n : ℕ) → IsReading world_motion o journals (record { state = o; read = replicate n 0 })) →
    IsIncremental initial made read known false
begun_new initial made read known count are given there none counted law = record {
  programs = are;
  inputs = given;
  ahead = λ going. record {
    sized = ap (length {A = ℕ}) none ∙ length-replicate (count + 1) 0 ∙ ap (λ n. n + 1) counted;
    reading = rw (there, none) (law initial known (count + 1));
  };
}

-- there are as many journals as nodes
pub journals_counted : {X : Type 0} (f : X → List Event) (journals : List X) (count : ℕ) (reports : List Report) (coordinator : List Event) →
    map f journals ≡ all_journals count reports coordinator → length journals ≡ count + 1
journals_counted f journals count reports coordinator are =
    let mapped = length-map journals f in
    let same : length (map f journals) ≡ length (all_journals count reports coordinator) = ap length are in
    let federates = length-map-range_with_len (λ j. journal_of (report_of reports j)) 0 count in
    omega arith

-- where what is known is a prefix of these journals, and reading ends after what is read, the search has ended
pub read_on_longer : {E : Type 0} (initial made : WorldView) (read : List ℕ) (known : List (List Event)) (journals : List (List Event)) (r : Result (WorldView × Found) E) →
    StaysRead → IsAhead initial made read known → GrewTo known journals →
    IfOk r (λ ended. (o : WorldView) → IsReading world_motion o journals (record { state = made; read = read }) → IsFound world_motion o journals ended.0 ended.1) →
    IfOk r (λ ended. IsFound world_motion initial journals ended.0 ended.1)
read_on_longer initial made read known journals (Ok ended) stays ahead grew ends =
    ends initial (stays initial known journals (record { state = made; read = read }) grew ahead.reading)
read_on_longer initial made read known journals (Err e) stays ahead grew ends = tt

-- or where nothing was read before the first step
pub read_from_initial : {E : Type 0} (initial made : WorldView) (read : List ℕ) (count : ℕ) (journals : List (List Event)) (r : Result (WorldView × Found) E) →
    ((o : WorldView) (js : List (List Event)) (n : ℕ) → IsReading world_motion o js (record { state = o; read = replicate n 0 })) →
    made ≡ initial → read ≡ replicate count 0 →
    IfOk r (λ ended. (o : WorldView) → IsReading world_motion o journals (record { state = made; read = read }) → IsFound world_motion o journals ended.0 ended.1) →
    IfOk r (λ ended. IsFound world_motion initial journals ended.0 ended.1)
read_from_initial initial made read count journals (Ok ended) law there none ends = ends initial (rw (there, none) (law initial journals count))
read_from_initial initial made read count journals (Err e) law there none ends = tt
