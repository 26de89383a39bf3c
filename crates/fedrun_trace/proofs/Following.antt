-- The events of steps, one step after the other.
use Rattle.std.proofs.Common.{◌≡◌, ℕ, ◌+◌, ◌<◌, ◌≤◌, List, [], ◌∷◌, ◌++◌, length, get_or, drop, Option, Result, Ok, Err, OnOk, IfErr, refl, sym, ap, ◌∙◌, subst, append_assoc, append-nil, arith}
use Rattle.std.proofs.lemmas.List.{drop_more, drop_all}
use Rattle.std.specs.Io.KnownBytes.{Appends}
use Rattle.std.proofs.KnownBytes.{Appends-nil, Appends-trans}
use Rattle.plan.specs.declared.draft.Draft.{Draft}
use Rattle.plan.specs.declared.input.Input.{Input}
use Rattle.plan.specs.Federation.{federate_count}
use Rattle.reactor_program.specs.Behaviour.{Behaviour}
use Rattle.signal.specs.declared.frame.Frame.{Frame}
use Rattle.world_stations.specs.Federation.{Federation, initial_world, step_in}
use Rattle.world.specs.World.{WorldView, stations_of, with_step}
use Rattle.files_script.specs.Scripts.{Script}
use Rattle.fedrun_replay.specs.declared.fault.ReplayFault.{ReplayFault}
use Rattle.fedrun_replay.specs.declared.fault.ReplayFault.TheVariants.{World, CannotWrite}
use Rattle.fedrun_replay.specs.Play.{Made}
use Rattle.fedrun_replay.specs.Closing.{made_in_all}
use Rattle.fedrun_frames.specs.Accounts.{Account, account_of}
use Rattle.fedrun_frames.specs.Shown.{unplayed, AreStepsOf, IsUntouched}
use Rattle.fedrun_frames.proofs.Telling.{stations_next}
use Rattle.fedrun_trace.specs.Steps.{events_text, step_text, steps_text, found_frame}
use Rattle.fedrun_trace.specs.Traced.{trace_text, HasPrefix, TracesSchedule, TracesSomeOf, HasTraced, IsBrokenOff}

-- some first steps were made and their events written; the events of the others are what is left of a text
pub record Traces (d : Draft) (all : List Made) (place : ℕ) (text : List ℕ) (w : WorldView) (a b : Option (List ℕ)) : Type 0 where
  pub draft : d ≡ w.draft
  pub front : List ℕ
  pub is : text ≡ front ++ steps_text d all (place + 1) (stations_of w) (drop place all)
  pub written : Appends a b front

-- none was made
pub traces_none : (d : Draft) (all : List Made) (w : WorldView) (a : Option (List ℕ)) → d ≡ w.draft
    → Traces d all 0 (steps_text d all 1 (stations_of w) all) w a a
traces_none d all w a draft = record { draft = draft; front = []; is = refl; written = Appends-nil a }

-- one more was made
pub traces_next : (d : Draft) (all : List Made) (place : ℕ) (made : Made) (text : List ℕ) (mid later : WorldView) (a b c : Option (List ℕ)) → place < length all
    → made ≡ get_or all place made → Traces d all place text mid a b → later ≡ with_step mid made.step
    → Appends b c (step_text d all (place + 1) (stations_of mid) made) → Traces d all (place + 1) text later a c
traces_next d all place made text mid later a b c there is so_far stepped one =
    let here : List ℕ = step_text d all (place + 1) (stations_of mid) made in
    let after : List Made = drop (place + 1) all in
    let rest : drop place all ≡ made ∷ after = drop_more all place made there ∙ ap (λ (m : Made). m ∷ after) (sym is) in
    let next : (step_in (stations_of mid) made.step).world ≡ stations_of later = sym (ap stations_of stepped ∙ stations_next mid made.step) in
    record {
      draft = so_far.draft ∙ ap (λ (v : WorldView). v.draft) (sym stepped);
      front = so_far.front ++ here;
      is =
          so_far.is ∙ ap (λ (ms : List Made). so_far.front ++ steps_text d all (place + 1) (stations_of mid) ms) rest
          ∙ ap (λ (v : Federation). so_far.front ++ (here ++ steps_text d all (place + 1 + 1) v after)) next
          ∙ sym (append_assoc so_far.front here (steps_text d all (place + 1 + 1) (stations_of later) after));
      written = Appends-trans a b c _ _ so_far.written one;
    }

-- all were made
pub traces_all : (d : Draft) (all : List Made) (place : ℕ) (text : List ℕ) (w : WorldView) (a b : Option (List ℕ)) → length all ≤ place
    → Traces d all place text w a b → Appends a b text
traces_all d all place text w a b end traced =
    let whole : text ≡ traced.front =
    traced.is ∙ ap (λ (ms : List Made). traced.front ++ steps_text d all (place + 1) (stations_of w) ms) (drop_all place all end) ∙ append-nil traced.front in
    subst (Appends a b) (sym whole) traced.written

-- there was no memory for a step, or the writer refused
pub traces_stopped : {T : Type 0} (result : Result T ReplayFault) (fault : ReplayFault) (d : Draft) (all : List Made) (place : ℕ) (text : List ℕ) (w : WorldView)
    (a b c : Option (List ℕ)) → result ≡ Err fault → Traces d all place text w a b → IsUntouched fault b c → HasTraced result text a c
traces_stopped {T} result fault d all place text w a b c failed traced untouched =
    subst (λ (r : Result T ReplayFault). HasTraced r text a c) (sym failed) (by_fault fault untouched)
  where
    by_fault : (f : ReplayFault) → IsUntouched f b c → HasTraced {T = T} (Err f) text a c
    by_fault (World memory) same = record {
      front = traced.front;
      rest = steps_text d all (place + 1) (stations_of w) (drop place all);
      is = traced.is;
      written = subst (λ (bytes : Option (List ℕ)). Appends a bytes traced.front) (sym same) traced.written;
    }
    by_fault CannotWrite same = tt

-- the events of a step made in a world, by its account in the world after it
pub events_are : (d : Draft) (all : List Made) (n : ℕ) (w later : WorldView) (made : Made) (found : Option Frame) (account : Account) → d ≡ w.draft
    → later ≡ with_step w made.step → found ≡ found_frame (stations_of w) made.step → account ≡ account_of (stations_of w) (federate_count w.draft) made
    → events_text d all n found (stations_of later) account ≡ step_text d all n (stations_of w) made
events_are d all n w later made found account draft is finds accounts =
    ap (λ (v : WorldView). events_text d all n found (stations_of v) account) is
    ∙ ap (λ (v : Federation). events_text d all n found v account) (stations_next w made.step)
    ∙ ap (λ (f : Option Frame). events_text d all n f (step_in (stations_of w) made.step).world account) finds
    ∙ ap (events_text d all n (found_frame (stations_of w) made.step) (step_in (stations_of w) made.step).world) accounts
    ∙ ap (λ (e : Draft). events_text d all n (found_frame (stations_of w) made.step) (step_in (stations_of w) made.step).world
    (account_of (stations_of w) (federate_count e) made)) (sym draft)

-- a text behind another one is broken off
pub prefix_behind : (x y z : List ℕ) (a b c : Option (List ℕ)) → Appends a b x → HasPrefix y b c → HasPrefix (x ++ (y ++ z)) a c
prefix_behind x y z a b c first broken = record {
  front = x ++ broken.front;
  rest = broken.rest ++ z;
  is = ap (λ (t : List ℕ). x ++ (t ++ z)) broken.is ∙ ap (λ (t : List ℕ). x ++ t) (append_assoc broken.front broken.rest z)
      ∙ sym (append_assoc x broken.front (broken.rest ++ z));
  written = Appends-trans a b c _ _ first broken.written;
}

-- a call in the midst failed, and so does the whole
pub behind_failed : {T U : Type 0} (result : Result T ReplayFault) (answer : Result U ReplayFault) (fault : ReplayFault) (x y z : List ℕ) (a b c : Option (List ℕ))
    → answer ≡ Err fault → result ≡ Err fault → Appends a b x → HasTraced answer y b c → HasTraced result (x ++ (y ++ z)) a c
behind_failed {T} {U} result answer fault x y z a b c failed fails first traced =
    subst (λ (r : Result T ReplayFault). HasTraced r (x ++ (y ++ z)) a c) (sym fails)
    (by_fault fault (subst (λ (r : Result U ReplayFault). HasTraced r y b c) failed traced))
  where
    by_fault : (f : ReplayFault) → HasTraced {T = U} (Err f) y b c → HasTraced {T = T} (Err f) (x ++ (y ++ z)) a c
    by_fault (World memory) broken = prefix_behind x y z a b c first broken
    by_fault CannotWrite broken = tt

-- a call that only writes failed
pub write_failed : {T : Type 0} (result : Result T ReplayFault) (text : List ℕ) (a c : Option (List ℕ)) → result ≡ Err CannotWrite → HasTraced result text a c
write_failed {T} result text a c fails = subst (λ (r : Result T ReplayFault). HasTraced r text a c) (sym fails) tt

module _ (d : Draft) (programs : List Behaviour) (inputs : List Input) (s : Script) (closing : Option ℕ) where
  -- nothing was written
  pub none_written : (bytes : Option (List ℕ)) → TracesSomeOf d programs inputs s closing bytes bytes
  none_written bytes = record {
    rounds = 0;
    may = record { at_most = omega arith; not_before = λ earlier less. absurd (omega arith) };
    some = record {
      front = [];
      rest = trace_text d (initial_world d programs inputs) (made_in_all (federate_count d) s 0 (unplayed d programs inputs));
      is = refl;
      written = Appends-nil bytes;
    };
  }

  none_traced : (bytes : Option (List ℕ)) (fault : ReplayFault) → IsBrokenOff d programs inputs s closing bytes bytes fault
  none_traced bytes (World memory) = none_written bytes
  none_traced bytes CannotWrite = tt

  -- a call failed before anything was written
  pub failed_early : {T : Type 0} (result : Result T ReplayFault) (fault : ReplayFault) (bytes : Option (List ℕ)) → result ≡ Err fault
      → IfErr result (IsBrokenOff d programs inputs s closing bytes bytes)
  failed_early {T} result fault bytes failed =
      subst (λ (r : Result T ReplayFault). IfErr r (IsBrokenOff d programs inputs s closing bytes bytes)) (sym failed) (none_traced bytes fault)

  -- all was written
  pub all_traced : {T : Type 0} (result : Result T ReplayFault) (made : List Made) (a b : Option (List ℕ)) → AreStepsOf d programs inputs s closing made
      → HasTraced result (trace_text d (initial_world d programs inputs) made) a b → OnOk result (TracesSchedule d programs inputs s closing a b)
  all_traced {T} (Ok done) made a b are traced = record { made = made; are = are; written = traced }
  all_traced (Err fault) made a b are traced = tt

  -- there was no memory for one of the steps, or the writer refused
  pub some_traced : {T : Type 0} (result : Result T ReplayFault) (made : List Made) (a b : Option (List ℕ)) → AreStepsOf d programs inputs s closing made
      → HasTraced result (trace_text d (initial_world d programs inputs) made) a b → IfErr result (IsBrokenOff d programs inputs s closing a b)
  some_traced {T} (Ok done) made a b are traced = tt
  some_traced (Err (World memory)) made a b are traced = record {
    rounds = are.rounds;
    may = are.all.may;
    some = subst (λ (ms : List Made). HasPrefix (trace_text d (initial_world d programs inputs) ms) a b) are.are traced;
  }
  some_traced (Err CannotWrite) made a b are traced = tt
