-- Steps that are events are of federates that are there, and of frames that were sent.
use Rattle.std.proofs.Common.{◌≡◌, ◌∙◌, ℕ, zero, suc, ◌<◌, ◌^◌, Bool, true, false, if◌then◌else◌, List, [], ◌∷◌, ◌++◌, length, get_or, slice_get, refl, arith}
use Rattle.std.specs.Prelude.{All, Option, None, Some, IsSome, nat_lt}
use Rattle.std.proofs.lemmas.Bool.{ltb-true}
use Rattle.std.proofs.lemmas.List.Elements.{All-cons, All-nil, All-head, All-tail}
use Rattle.std.proofs.lemmas.Option.{slice_get_within}
use Rattle.signal.specs.declared.frame.Frame.{Frame}
use Rattle.plan.specs.declared.draft.Draft.{Draft}
use Rattle.plan.specs.External.{AreInputsOf}
use Rattle.plan.specs.Federation.{federate_count}
use Rattle.plan.specs.Legal.{IsLegal}
use Rattle.reactor_programs.specs.Programs.{AreProgramsOf}
use Rattle.plan_network.proofs.LawfulNetwork.{gives_lawful_with}
use Rattle.world_stations.specs.declared.dir.Dir.{Dir}
use Rattle.world_stations.specs.declared.dir.Dir.TheVariants.{Up, Down}
use Rattle.world_stations.specs.declared.step.Step.{Step}
use Rattle.world_stations.specs.declared.step.Step.TheVariants.{Deliver, Resend, Reconnect, Announce, Advance, Forget}
use Rattle.world_stations.specs.World.{occurrence_of, frames_in, frame_at, delivered, federate_of}
use Rattle.world_stations.specs.Federation.{Federation}
use Rattle.world_stations.proofs.Worlds.{stands}
use Rattle.world.specs.World.{stations_of}
use Rattle.recorder_search.specs.Journals.{AreEvents}
use Rattle.recorder.specs.Placing.{world_motion}
use Rattle.recorder.specs.Audited.{Claim, world_of, IsProvedBy}
use Rattle.files_script.specs.Scripts.{IsDirOf, IsStepOf}
use Rattle.files_record.specs.ReadAgain.{IsNamed, AreRecorded}
use Rattle.fedrun_record_laws.specs.PlayedAgain.{frame_in}

-- this many federates are there, with frames to and from each
record HasAsMany (w : Federation) (count : ℕ) : Type 0 where
  federates : length w.federates ≡ count
  ups : length w.up ≡ count
  downs : length w.down ≡ count

some_if : {X : Type 0} (b : Bool) (x : X) → IsSome (if b then Some x else None) → b ≡ true
some_if true x is = refl
some_if false x is = is

below : {X : Type 0} (j count n : ℕ) (x : X) → n ≡ count → IsSome (if nat_lt j n then Some x else None) → j < count
below j count n x many is = let less = ltb-true j n (some_if (nat_lt j n) x is) in omega arith

-- where one of several lists has something, there is such a list
list_there : {X : Type 0} (lists : List (List X)) (j k : ℕ) → k < length (get_or lists j []) → j < length lists
list_there [] j k within = let no : ⊥ = grind arith in absurd no
list_there (xs ∷ lists) zero k within = omega arith
list_there (xs ∷ lists) (suc j) k within = omega (arith, list_there lists j k within)

-- a frame that comes stands at a number from 1 on
record IsFrame (frames : List Frame) (k : ℕ) : Type 0 where
  some : 0 < k
  place : ℕ
  within : place < length frames

frame_there : (dir : Dir) (frames : List Frame) (k : ℕ) → IsSome (delivered dir (frame_at frames k)) → IsFrame frames k
frame_there dir frames zero is = cc
frame_there dir frames (suc k) is = at (slice_get frames k) refl is
  where
    at : (found : Option Frame) → slice_get frames k ≡ found → IsSome (delivered dir found) → IsFrame frames (suc k)
    at None there is = cc
    at (Some frame) there is = record { some = omega arith; place = k; within = slice_get_within frames k frame there }

dir_there : (d : Draft) (w : Federation) (dir : Dir) (k : ℕ) → HasAsMany w (federate_count d) → k < length (frames_in w dir) → IsDirOf d dir
dir_there d w (Up j) k many within = let there = list_there w.up j k within in let count = many.ups in omega arith
dir_there d w (Down j) k many within = let there = list_there w.down j k within in let count = many.downs in omega arith

-- a step that is an event
step_there : (d : Draft) (w : Federation) (step : Step) → HasAsMany w (federate_count d) → IsSome (occurrence_of w step) → frame_in step < 2 ^ 32 → IsStepOf d step
step_there d w (Deliver dir k) many is few =
    let frame = frame_there dir (frames_in w dir) k is in
    (dir_there d w dir frame.place many frame.within, frame.some, few)
step_there d w (Resend dir) many is few = below (federate_of dir) (federate_count d) (length w.federates) _ many.federates is
step_there d w (Reconnect dir) many is few = below (federate_of dir) (federate_count d) (length w.federates) _ many.federates is
step_there d w (Announce j) many is few = below j (federate_count d) (length w.federates) _ many.federates is
step_there d w (Advance j) many is few = below j (federate_count d) (length w.federates) _ many.federates is
step_there d w (Forget j) many is few = cc

module _ (c : Claim) (legal : IsLegal c.draft) (are : AreProgramsOf c.draft c.programs) (given : AreInputsOf c.draft c.inputs) where
  as_many : (steps : List Step) → HasAsMany (stations_of (world_of c steps)) (federate_count c.draft)
  as_many steps =
      let shown = (stands c.draft c.programs c.inputs steps (gives_lawful_with c.draft c.programs c.inputs legal are given)).stands.run.shown in
      record { federates = shown.federates; ups = shown.ups; downs = shown.downs }

  steps_there : (before steps : List Step) → AreEvents world_motion (world_of c before) steps → All (λ step. frame_in step < 2 ^ 32) steps → All (IsStepOf c.draft) steps
  steps_there before [] each few = All-nil (IsStepOf c.draft)
  steps_there before (step ∷ steps) each few =
      All-cons (IsStepOf c.draft) step steps
      (step_there c.draft (stations_of (world_of c before)) step (as_many before) each.0 (All-head (λ (s : Step). frame_in s < 2 ^ 32) step steps few))
      (steps_there (before ++ step ∷ []) steps each.1 (All-tail (λ (s : Step). frame_in s < 2 ^ 32) step steps few))

pub may_be_recorded : (c : Claim) (steps : List Step) → IsNamed c.draft → AreProgramsOf c.draft c.programs → AreInputsOf c.draft c.inputs → IsProvedBy c steps →
    All (λ step. frame_in step < 2 ^ 32) steps → AreRecorded c.draft steps
may_be_recorded c steps named are given proved few = record { named = named; steps_of = steps_there c named.legal are given [] steps proved.agrees.each few }
