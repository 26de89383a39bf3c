-- Before a fair segment the world is stuck, or by it less is to be done or more is acknowledged; so fair schedules end stuck.
use Rattle.std.proofs.Common.{◌≡◌, ℕ, suc, ◌+◌, ◌^◌, ◌<◌, ◌⊎◌, inl, inr, Bool, false, ◌||◌, List, [], ◌∷◌, ◌++◌, length, slice_get, refl, sym, ap, subst, ◌∙◌, arith, Some}
use Rattle.std.specs.List.{list_any, AllByRecursion}
use Rattle.std.proofs.lemmas.Bool.{or_parts}
use Rattle.network.specs.Tables.{IsLawfulWith}
use Rattle.signal.specs.declared.signal.Signal.{Signal}
use Rattle.signal.specs.declared.frame.Frame.{Frame}
use Rattle.signal.specs.declared.frame.Frame.TheVariants.{Data, Ack}
use Rattle.plan.specs.declared.draft.Draft.{Draft}
use Rattle.plan.specs.declared.input.Input.{Input}
use Rattle.plan.specs.Federation.{federate_count}
use Rattle.plan.specs.Least.{least_of}
use Rattle.plan.specs.Legal.{IsLegal}
use Rattle.reactor_program.specs.Behaviour.{Behaviour}
use Rattle.plan_network.specs.Network.{network_of}
use Rattle.link_laws.proofs.Places.{get_more, get_below}
use Rattle.world_stations.specs.declared.dir.Dir.{Dir}
use Rattle.world_stations.specs.declared.step.Step.{Step}
use Rattle.world_stations.specs.declared.step.Step.TheVariants.{Deliver, Resend, Announce, Advance}
use Rattle.world_stations.specs.World.{frames_in, federate_of}
use Rattle.world_stations.specs.Kept.{is_forget}
use Rattle.world_stations.specs.Federation.{Federation, IsStuck, step_in, world_after}
use Rattle.world_progress.specs.Fuel.{fuel_of}
use Rattle.world_progress.specs.Rounds.{Playing, with_made}
use Rattle.world_progress.specs.Fair.{back, after_these, Makes, Brings, Serves, IsFair, AreFair, all_steps}
use Rattle.world_progress.proofs.Reached.{Reached, Next, ahead, acked}
use Rattle.world_progress.proofs.Facing.{side_out, side_in, back_of, Falls, IsSame, same_itself, frames_more}
use Rattle.world_progress.proofs.Serving.{after_one, Stage, fell, still, Persists, one_step, steps_on}
use Rattle.world_progress.proofs.Settling.{Takes, resent_at, told_at, never_told}
use Rattle.world_progress.proofs.Halting.{stuck_unless, acked_within, reached_steps}

-- steps in two parts
parts_keep : (steps more : List Step) → AllByRecursion (λ (step : Step). is_forget step ≡ false) (steps ++ more) → AllByRecursion (λ (step : Step). is_forget step ≡ false) steps × AllByRecursion (λ (step : Step). is_forget step ≡ false) more
parts_keep [] more kept = (tt, kept)
parts_keep (step ∷ steps) more kept = let rest = parts_keep steps more kept.1 in ((kept.0, rest.0), rest.1)

made_then : (steps more : List Step) (p : Playing) → with_made p (steps ++ more) ≡ with_made (with_made p steps) more
made_then [] more p = refl
made_then (step ∷ steps) more p = made_then steps more (after_one p step)

none_forget : (steps : List Step) → list_any is_forget steps ≡ false → AllByRecursion (λ (step : Step). is_forget step ≡ false) steps
none_forget [] none = tt
none_forget (step ∷ rest) none = let both = or_parts (is_forget step) (list_any is_forget rest) none in (both.0, none_forget rest both.1)

module _ (d : Draft) (programs : List Behaviour) (inputs : List Input) (lawful : IsLawfulWith (network_of d programs inputs) (least_of d)) (v : Federation) (s : Reached d programs inputs v) where
  abbrev At : (Playing → Type 0) → Playing → Type 0
  At C p = Stage d programs inputs v s C p

  -- a step is made among others
  abbrev Kept : List Step → Type 0
  Kept steps = AllByRecursion (λ (step : Step). is_forget step ≡ false) steps

  made_at : (K : Type 0) (steps : List Step) (p : Playing) (key : Step) (m : Makes steps key) → Kept steps → (Kept m.after → At (λ q. K) (with_made (after_one (with_made p m.before) key) m.after)) → At (λ q. K) (with_made p steps)
  made_at K steps p key m kept stage =
      let P : List Step → Type 0 = λ x. At (λ q. K) (with_made p x) in
      let Q : Playing → Type 0 = λ x. At (λ q. K) x in
      let R : List Step → Type 0 = λ x. Kept x in
      let all = parts_keep m.before (key ∷ m.after) (subst R m.is kept) in
      subst P (sym m.is) (subst Q (sym (made_then m.before (key ∷ m.after) p)) (stage all.1.1))

  before_kept : (steps : List Step) (key : Step) (m : Makes steps key) → Kept steps → Kept m.before × (is_forget key ≡ false)
  before_kept steps key m kept =
      let R : List Step → Type 0 = λ x. Kept x in
      let all = parts_keep m.before (key ∷ m.after) (subst R m.is kept) in
      (all.0, all.1.0)

  rest_on : (K : Type 0) (steps : List Step) (p : Playing) → Kept steps → At (λ q. K) p → At (λ q. K) (with_made p steps)
  rest_on K steps p kept stage = steps_on d programs inputs lawful v s (λ q. K) (λ q step not_forget r same x stays k. k) steps p kept stage

  -- a fact shows at a step that is made
  shows_in : (K : Type 0) (key : Step) → ((p : Playing) (r : Reached d programs inputs p.world) → IsSame d programs inputs v s p.world r → (x : Next d programs inputs p.world r key) → IsSame d programs inputs v s (step_in p.world key).world x.now → K)
      → (steps : List Step) (p : Playing) → Makes steps key → Kept steps → At (λ q. Unit {0}) p → At (λ q. K) (with_made p steps)
  shows_in K key shows steps p m kept stage =
      let first = before_kept steps key m kept in
      let there = rest_on (Unit {0}) m.before p first.0 stage in
      made_at K steps p key m kept
      (λ after. rest_on K m.after (after_one (with_made p m.before) key) after
      (one_step d programs inputs lawful v s (λ q. Unit {0}) (λ q. K) (with_made p m.before) key first.1 (λ r same x stays k. shows (with_made p m.before) r same x stays) there))

  -- a frame stays at its place
  held_on : (K : Type 0) (dir : Dir) → federate_of dir < federate_count d → (frame : Frame) (place : ℕ) → Persists d programs inputs lawful v s (λ q. K ⊎ (slice_get (frames_in q.world dir) place ≡ Some frame))
  held_on K dir below frame place p step not_forget r same x stays c = elim c [
    | inl k ↦ inl k
    | inr at ↦
        let more = frames_more d programs inputs p.world r step x dir below in
        let P : List Frame → Type 0 = λ y. slice_get y place ≡ Some frame in
        inr (subst P (sym more.1) (get_more (frames_in p.world dir) more.0 place frame at))
  ]

module _ (d : Draft) (programs : List Behaviour) (inputs : List Input) (lawful : IsLawfulWith (network_of d programs inputs) (least_of d)) (v : Federation) (s : Reached d programs inputs v) (dir : Dir) (below : federate_of dir < federate_count d) (taking : Takes d programs inputs v s dir) where
  abbrev On : (Playing → Type 0) → Playing → Type 0
  On C p = Stage d programs inputs v s C p

  abbrev Settled : Type 0
  Settled = length (side_out dir s.links).end.kept ≡ 0

  abbrev NoneForgets : List Step → Type 0
  NoneForgets steps = AllByRecursion (λ (step : Step). is_forget step ≡ false) steps

  answers_below : federate_of (back dir) < federate_count d
  answers_below = let P : ℕ → Type 0 = λ x. x < federate_count d in subst P (sym (back_of dir)) below

  -- the answer comes
  answered : (steps : List Step) (p : Playing) (place : ℕ) → (side_out dir s.links).end.acknowledged < (side_in dir s.links).end.taken → Makes steps (Deliver (back dir) (suc place)) → NoneForgets steps
      → On (λ q. Settled ⊎ (slice_get (frames_in q.world (back dir)) place ≡ Some (Ack 1 (side_in dir s.links).end.taken))) p → On (λ q. Settled) (with_made p steps)
  answered steps p place less m kept stage =
      let first = before_kept d programs inputs lawful v s steps (Deliver (back dir) (suc place)) m kept in
      let there = steps_on d programs inputs lawful v s (λ q. Settled ⊎ (slice_get (frames_in q.world (back dir)) place ≡ Some (Ack 1 (side_in dir s.links).end.taken)))
      (held_on d programs inputs lawful v s Settled (back dir) answers_below (Ack 1 (side_in dir s.links).end.taken) place) m.before p first.0 stage in
      made_at d programs inputs lawful v s Settled steps p (Deliver (back dir) (suc place)) m kept
      (λ after. rest_on d programs inputs lawful v s Settled m.after (after_one (with_made p m.before) (Deliver (back dir) (suc place))) after
      (one_step d programs inputs lawful v s (λ q. Settled ⊎ (slice_get (frames_in q.world (back dir)) place ≡ Some (Ack 1 (side_in dir s.links).end.taken))) (λ q. Settled) (with_made p m.before) (Deliver (back dir) (suc place)) first.1
      (λ r same x stays c. elim c [
        | inl k ↦ k
        | inr at ↦ absurd (never_told d programs inputs lawful v s dir below taking (with_made p m.before).world r same place less at x stays)
      ]) there))

  -- the first frame comes, and then the first of its answer
  abbrev IsTold : (place : ℕ) → Playing → Type 0
  IsTold place q = Settled ⊎ (((side_out dir s.links).end.acknowledged < (side_in dir s.links).end.taken) × (slice_get (frames_in q.world (back dir)) place ≡ Some (Ack 1 (side_in dir s.links).end.taken)))

  brought_once : (steps : List Step) (p : Playing) (place : ℕ) (signal : Signal) → Brings p.world dir (suc place) steps → NoneForgets steps
      → On (λ q. Settled ⊎ (slice_get (frames_in q.world dir) place ≡ Some (Data 1 ((side_out dir s.links).end.acknowledged + 1) signal))) p → On (λ q. Settled) (with_made p steps)
  brought_once steps p place signal b kept stage =
      let first = before_kept d programs inputs lawful v s steps (Deliver dir (suc place)) b.comes kept in
      let there = steps_on d programs inputs lawful v s (λ q. Settled ⊎ (slice_get (frames_in q.world dir) place ≡ Some (Data 1 ((side_out dir s.links).end.acknowledged + 1) signal)))
      (held_on d programs inputs lawful v s Settled dir below (Data 1 ((side_out dir s.links).end.acknowledged + 1) signal) place) b.comes.before p first.0 stage in
      made_at d programs inputs lawful v s Settled steps p (Deliver dir (suc place)) b.comes kept
      (λ after. go_on after
      (one_step d programs inputs lawful v s (λ q. Settled ⊎ (slice_get (frames_in q.world dir) place ≡ Some (Data 1 ((side_out dir s.links).end.acknowledged + 1) signal))) (IsTold (length (frames_in (with_made p b.comes.before).world (back dir)))) (with_made p b.comes.before) (Deliver dir (suc place)) first.1
      (λ r same x stays c. elim c [
        | inl k ↦ inl k
        | inr at ↦ inr (told_at d programs inputs lawful v s dir below taking (with_made p b.comes.before).world r same signal place at x stays)
      ]) there))
    where
      go_on : NoneForgets b.comes.after → On (IsTold (length (frames_in (with_made p b.comes.before).world (back dir)))) (after_one (with_made p b.comes.before) (Deliver dir (suc place))) → On (λ q. Settled) (with_made (after_one (with_made p b.comes.before) (Deliver dir (suc place))) b.comes.after)
      go_on after (fell r f) = rest_on d programs inputs lawful v s Settled b.comes.after (after_one (with_made p b.comes.before) (Deliver dir (suc place))) after (fell r f)
      go_on after (still r same (inl k)) = rest_on d programs inputs lawful v s Settled b.comes.after (after_one (with_made p b.comes.before) (Deliver dir (suc place))) after (still r same k)
      go_on after (still r same (inr told)) =
          answered b.comes.after (after_one (with_made p b.comes.before) (Deliver dir (suc place))) (length (frames_in (with_made p b.comes.before).world (back dir))) told.0
          (b.answers (get_below (frames_in (after_one (with_made p b.comes.before) (Deliver dir (suc place))).world (back dir)) (length (frames_in (with_made p b.comes.before).world (back dir))) (Ack 1 (side_in dir s.links).end.taken) told.1))
          after (still r same (inr told.1))

  -- a direction is served
  abbrev IsResent : (place : ℕ) → Playing → Type 0
  IsResent place q = Settled ⊎ ((signal : Signal) × (slice_get (frames_in q.world dir) place ≡ Some (Data 1 ((side_out dir s.links).end.acknowledged + 1) signal)))

  pub served : (steps : List Step) (p : Playing) → Serves p.world dir steps → NoneForgets steps → On (λ q. Unit {0}) p → On (λ q. Settled) (with_made p steps)
  served steps p serves kept stage =
      let first = before_kept d programs inputs lawful v s steps (Resend dir) serves.resends kept in
      let there = rest_on d programs inputs lawful v s (Unit {0}) serves.resends.before p first.0 stage in
      made_at d programs inputs lawful v s Settled steps p (Resend dir) serves.resends kept
      (λ after. go_on after
      (one_step d programs inputs lawful v s (λ q. Unit {0}) (IsResent (length (frames_in (with_made p serves.resends.before).world dir))) (with_made p serves.resends.before) (Resend dir) first.1
      (λ r same x stays c. resent_at d programs inputs lawful v s dir below taking (with_made p serves.resends.before).world r same) there))
    where
      go_on : NoneForgets serves.resends.after → On (IsResent (length (frames_in (with_made p serves.resends.before).world dir))) (after_one (with_made p serves.resends.before) (Resend dir)) → On (λ q. Settled) (with_made (after_one (with_made p serves.resends.before) (Resend dir)) serves.resends.after)
      go_on after (fell r f) = rest_on d programs inputs lawful v s Settled serves.resends.after (after_one (with_made p serves.resends.before) (Resend dir)) after (fell r f)
      go_on after (still r same (inl k)) = rest_on d programs inputs lawful v s Settled serves.resends.after (after_one (with_made p serves.resends.before) (Resend dir)) after (still r same k)
      go_on after (still r same (inr some)) =
          brought_once serves.resends.after (after_one (with_made p serves.resends.before) (Resend dir)) (length (frames_in (with_made p serves.resends.before).world dir)) some.0
          (serves.brings (get_below (frames_in (after_one (with_made p serves.resends.before) (Resend dir)).world dir) (length (frames_in (with_made p serves.resends.before).world dir)) (Data 1 ((side_out dir s.links).end.acknowledged + 1) some.0) some.1))
          after (still r same (inr some.1))

-- after some of these segments the world is stuck
record EndsAmong (w : Federation) (segments : List (List Step)) : Type 0 where
  before : List (List Step)
  after : List (List Step)
  are : segments ≡ before ++ after
  stuck : IsStuck (after_these w (all_steps before))

module _ (d : Draft) (programs : List Behaviour) (inputs : List Input) (legal : IsLegal d) (lawful : IsLawfulWith (network_of d programs inputs) (least_of d)) (small : fuel_of (network_of d programs inputs) < 2 ^ 63) where
  -- less is to be done, or more is acknowledged, after these steps
  abbrev FallsIn : (w : Federation) → Reached d programs inputs w → List Step → Type 0
  FallsIn w s steps = (r : Reached d programs inputs (after_these w steps)) × Falls d programs inputs w s (after_these w steps) r

  abbrev alone : Federation → Playing
  alone w = record { world = w; cursors = record { up = []; down = [] } }

  either : (K : Type 0) (w : Federation) (s : Reached d programs inputs w) (steps : List Step) → Stage d programs inputs w s (λ q. K) (with_made (alone w) steps) → K ⊎ FallsIn w s steps
  either K w s steps (fell r f) = inr (r, f)
  either K w s steps (still r same k) = inl k

  segment_falls : (w : Federation) (s : Reached d programs inputs w) (steps : List Step) → IsFair (federate_count d) w steps → AllByRecursion (λ (step : Step). is_forget step ≡ false) steps → IsStuck w ⊎ FallsIn w s steps
  segment_falls w s steps fair kept =
      stuck_unless d programs inputs legal lawful small w s (FallsIn w s steps)
      (λ dir l taking. either (length (side_out dir s.links).end.kept ≡ 0) w s steps (served d programs inputs lawful w s dir l taking steps (alone w) (fair.serves dir l) kept (still s (same_itself d programs inputs w s) tt)))
      (λ j l K shows. either K w s steps (shows_in d programs inputs lawful w s K (Announce j) shows steps (alone w) (fair.announces j l) kept (still s (same_itself d programs inputs w s) tt)))
      (λ j l K shows. either K w s steps (shows_in d programs inputs lawful w s K (Advance j) shows steps (alone w) (fair.advances j l) kept (still s (same_itself d programs inputs w s) tt)))

  steps_then : (w : Federation) (steps more : List Step) → after_these w (steps ++ more) ≡ after_these (after_these w steps) more
  steps_then w [] more = refl
  steps_then w (step ∷ steps) more = steps_then (step_in w step).world steps more

  any_parts : (steps more : List Step) → list_any is_forget (steps ++ more) ≡ false → (list_any is_forget steps ≡ false) × (list_any is_forget more ≡ false)
  any_parts [] more none = (refl, none)
  any_parts (step ∷ steps) more none =
      let both = or_parts (is_forget step) (list_any is_forget (steps ++ more)) none in
      let rest = any_parts steps more both.1 in
      (ap (λ (b : Bool). b || list_any is_forget steps) both.0 ∙ rest.0, rest.1)

  segments_end : (segments : List (List Step)) (w : Federation) (s : Reached d programs inputs w) → AreFair (federate_count d) w segments → list_any is_forget (all_steps segments) ≡ false → ahead d programs inputs w s < length segments + acked d programs inputs w s → EndsAmong w segments
  segments_end [] w s fair none left = let some = acked_within d programs inputs legal lawful small w s in absurd (omega arith)
  segments_end (steps ∷ rest) w s fair none left =
      let both = any_parts steps (all_steps rest) none in
      elim (segment_falls w s steps fair.0 (none_forget steps both.0)) [
        | inl stuck ↦ record { before = []; after = steps ∷ rest; are = refl; stuck = stuck }
        | inr f ↦
            let falls = f.1 in
            let later = segments_end rest (after_these w steps) f.0 fair.1 both.1 (omega arith) in
            let P : Federation → Type 0 = λ x. IsStuck x in
            record { before = steps ∷ later.before; after = later.after; are = ap (λ (x : List (List Step)). steps ∷ x) later.are; stuck = subst P (sym (steps_then w steps (all_steps later.before))) later.stuck }
      ]

  pub fair_schedules_end : (steps : List Step) (segments : List (List Step)) → AreFair (federate_count d) (world_after d programs inputs steps) segments → list_any is_forget steps ≡ false → list_any is_forget (all_steps segments) ≡ false → fuel_of (network_of d programs inputs) < length segments
      → (before : List (List Step)) × (after : List (List Step)) × (segments ≡ before ++ after) × IsStuck (after_these (world_after d programs inputs steps) (all_steps before))
  fair_schedules_end steps segments fair none none_later enough =
      let s = reached_steps d programs inputs lawful steps none in
      let spent = s.spent in
      let all = segments_end segments (world_after d programs inputs steps) s fair none_later (omega arith) in
      (all.before, all.after, all.are, all.stuck)
