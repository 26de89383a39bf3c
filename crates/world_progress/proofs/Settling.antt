-- What a sender keeps, as it is sent again, comes and is acknowledged while nothing else changes: then it keeps nothing.
use Rattle.std.proofs.Common.{◌≡◌, ℕ, suc, ◌+◌, ◌-◌, ◌<◌, ◌⊎◌, inl, inr, max, Bool, true, false, List, [], ◌∷◌, ◌++◌, length, slice_get, refl, sym, ap, subst, ◌∙◌, arith, Some, Ok, if◌then◌else◌}
use Rattle.std.specs.List.{AllByRecursion}
use Rattle.std.proofs.lemmas.Bool.{cases_lt}
use Rattle.network.specs.Tables.{IsLawfulWith}
use Rattle.signal.specs.declared.signal.Signal.{Signal}
use Rattle.signal.specs.declared.frame.Frame.{Frame}
use Rattle.signal.specs.declared.frame.Frame.TheVariants.{Data, Ack}
use Rattle.signal.specs.Batch.{numbered}
use Rattle.link.specs.declared.arrival.Arrival.TheVariants as arrival
use Rattle.link.specs.Image.{Image, answer_of, after_frame, ack_of, resent_by}
use Rattle.plan.specs.declared.draft.Draft.{Draft}
use Rattle.plan.specs.declared.input.Input.{Input}
use Rattle.plan.specs.Federation.{federate_count}
use Rattle.plan.specs.Least.{least_of}
use Rattle.reactor_program.specs.Behaviour.{Behaviour}
use Rattle.plan_network.specs.Network.{network_of}
use Rattle.link_laws.specs.Link.{Side}
use Rattle.link_laws.proofs.Places.{get_seam, get_below}
use Rattle.link_laws.proofs.Taken.{last_is_offered}
use Rattle.world_stations.specs.declared.dir.Dir.{Dir}
use Rattle.world_stations.specs.declared.step.Step.TheVariants.{Deliver, Resend}
use Rattle.world_stations.specs.World.{frames_in, federate_of}
use Rattle.world_stations.specs.Federation.{Federation, IsHarmless, step_in}
use Rattle.world_stations.proofs.Courses.{some_of}
use Rattle.world_progress.specs.Rounds.{Playing, with_cursor, sent_in, with_made, delivers, Task, makes, brings, skips, after_task, after_tasks}
use Rattle.world_progress.proofs.Reached.{Reached, Next}
use Rattle.world_progress.specs.Fair.{back}
use Rattle.world_progress.proofs.Facing.{side_out, side_in, back_of, back_out, direction, unclosed, IsSame, kept_same}
use Rattle.world_progress.proofs.Happening.{sends_again, repeats, acknowledges, IsTaken}
use Rattle.world_progress.proofs.Serving.{cursor_at, after_one, AreWithin, Stage, fell, still, Waiting, IsOfRound, IsAmong, Apart, same_dir, back_apart, apart_back, deliveries_keep, cursor_makes, data_answer, ack_answer, old_answer, next_answer, Effect, reached_of, staged_as, one_step, moved_as, within_task, Persists, steps_on, constants_on, constant_on, waits_on, waits_moved, brought}

-- what was to be acknowledged and isn't: nothing; or the first signal of it is under way; or that all was taken is
pub data Claim (d : Draft) (programs : List Behaviour) (inputs : List Input) (v : Federation) (s : Reached d programs inputs v) (dir : Dir) (data_may ack_may : Bool) (p : Playing) : Type 0 where
  settled : length (side_out dir s.links).end.kept ≡ 0 → Claim d programs inputs v s dir data_may ack_may p
  again : data_may ≡ true → (signal : Signal) → Waiting dir (Data 1 ((side_out dir s.links).end.acknowledged + 1) signal) p → Claim d programs inputs v s dir data_may ack_may p
  told : ack_may ≡ true → (side_out dir s.links).end.acknowledged < (side_in dir s.links).end.taken → Waiting (back dir) (Ack 1 (side_in dir s.links).end.taken) p → Claim d programs inputs v s dir data_may ack_may p

-- a signal in its turn is taken, as there is room for what its receiver sends
abbrev pub Takes : (d : Draft) (programs : List Behaviour) (inputs : List Input) (v : Federation) (s : Reached d programs inputs v) (dir : Dir) → Type 0
Takes d programs inputs v s dir =
    (w : Federation) (r : Reached d programs inputs w) → IsSame d programs inputs v s w r → (place n : ℕ) (signal : Signal) → slice_get (frames_in w dir) place ≡ Some (Data 1 n signal) → answer_of (side_in dir r.links).end (Data 1 n signal) ≡ Ok arrival.Signal
    → IsHarmless (step_in w (Deliver dir (suc place))).outcome → IsTaken (step_in w (Deliver dir (suc place))).world dir (side_in dir r.links).end n

module _ (d : Draft) (programs : List Behaviour) (inputs : List Input) (lawful : IsLawfulWith (network_of d programs inputs) (least_of d)) (v : Federation) (s : Reached d programs inputs v) (dir : Dir) (below : federate_of dir < federate_count d) (taking : Takes d programs inputs v s dir) where
  abbrev Claims : Bool → Bool → Playing → Type 0
  Claims x y p = Claim d programs inputs v s dir x y p

  abbrev At : (Playing → Type 0) → Playing → Type 0
  At C p = Stage d programs inputs v s C p

  back_below : federate_of (back dir) < federate_count d
  back_below = let P : ℕ → Type 0 = λ x. x < federate_count d in subst P (sym (back_of dir)) below

  -- the receiving side
  in_open : (w : Federation) (r : Reached d programs inputs w) → (side_in dir r.links).end.closed ≡ false
  in_open w r =
      let P : Side → Type 0 = λ x. x.end.closed ≡ false in
      subst P (back_out dir r.links) (unclosed d programs inputs w r (back dir) back_below)

  claims_on : (x y : Bool) → Persists d programs inputs lawful v s (Claims x y)
  claims_on x y p step not_forget r same next_one stays c = elim c [
    | settled e ↦ settled e
    | again may signal w ↦ again may signal (waits_on d programs inputs lawful v s dir below (Data 1 ((side_out dir s.links).end.acknowledged + 1) signal) p step r next_one w)
    | told may less w ↦ told may less (waits_on d programs inputs lawful v s (back dir) back_below (Ack 1 (side_in dir s.links).end.taken) p step r next_one w)
  ]

  -- it is sent again
  kept_again : (w : Federation) (r : Reached d programs inputs w) → IsSame d programs inputs v s w r → (kept : List Signal) → (side_out dir r.links).end.kept ≡ kept
      → (length (side_out dir s.links).end.kept ≡ 0) ⊎ ((signal : Signal) × (rest : List Frame) × (resent_by (side_out dir r.links).end ≡ Data 1 ((side_out dir s.links).end.acknowledged + 1) signal ∷ rest))
  kept_again w r same [] is = inl (sym (kept_same d programs inputs v s w r dir below same) ∙ ap length is)
  kept_again w r same (signal ∷ rest) is =
      let at = direction d programs inputs w r dir below in
      let opened = unclosed d programs inputs w r dir below in
      let first : resent_by (side_out dir r.links).end ≡ numbered 1 ((side_out dir s.links).end.acknowledged + 1) (signal ∷ rest) =
      ap (λ (b : Bool). if b then [] else numbered (side_out dir r.links).end.incarnation ((side_out dir r.links).end.acknowledged + 1) (side_out dir r.links).end.kept) opened ∙
      ap (λ (x : ℕ). numbered x ((side_out dir r.links).end.acknowledged + 1) (side_out dir r.links).end.kept) at.linked.here ∙
      ap (λ (x : ℕ). numbered 1 (x + 1) (side_out dir r.links).end.kept) (same.acknowledged dir below) ∙
      ap (λ (x : List Signal). numbered 1 ((side_out dir s.links).end.acknowledged + 1) x) is in
      inr (signal, numbered 1 ((side_out dir s.links).end.acknowledged + 1 + 1) rest, first)

  pub resent_at : (w : Federation) (r : Reached d programs inputs w) → IsSame d programs inputs v s w r
      → (length (side_out dir s.links).end.kept ≡ 0) ⊎ ((signal : Signal) × (slice_get (frames_in (step_in w (Resend dir)).world dir) (length (frames_in w dir)) ≡ Some (Data 1 ((side_out dir s.links).end.acknowledged + 1) signal)))
  resent_at w r same =
      let frames = sends_again d programs inputs w r dir below in
      elim (kept_again w r same (side_out dir r.links).end.kept refl) [
        | inl none ↦ inl none
        | inr some ↦
            let P : List Frame → Type 0 = λ y. slice_get y (length (frames_in w dir)) ≡ Some (Data 1 ((side_out dir s.links).end.acknowledged + 1) some.0) in
            inr (some.0, subst P (sym (frames ∙ ap (λ (y : List Frame). frames_in w dir ++ y) some.2)) (get_seam (frames_in w dir) (Data 1 ((side_out dir s.links).end.acknowledged + 1) some.0) some.1 (length (frames_in w dir)) refl))
      ]

  resent : (p : Playing) → AreWithin d p → Effect d programs inputs lawful v s (λ q. Unit {0}) (Claims true true) p (Resend dir)
  resent p within r same x stays c = elim (resent_at p.world r same) [
    | inl none ↦ settled none
    | inr some ↦
        let cursor = cursor_makes p (Resend dir) dir in
        let few = within dir below in
        again refl some.0 (record { place = length (frames_in p.world dir); passed = omega arith; at = some.1 })
  ]

  -- it comes: it was taken before, and that is told; or it would be taken now
  pub told_at : (w : Federation) (r : Reached d programs inputs w) → IsSame d programs inputs v s w r → (signal : Signal) (place : ℕ) → slice_get (frames_in w dir) place ≡ Some (Data 1 ((side_out dir s.links).end.acknowledged + 1) signal)
      → (x : Next d programs inputs w r (Deliver dir (suc place))) → IsSame d programs inputs v s (step_in w (Deliver dir (suc place))).world x.now
      → ((side_out dir s.links).end.acknowledged < (side_in dir s.links).end.taken) × (slice_get (frames_in (step_in w (Deliver dir (suc place))).world (back dir)) (length (frames_in w (back dir))) ≡ Some (Ack 1 (side_in dir s.links).end.taken))
  told_at w r same signal place found x stays =
      let at = direction d programs inputs w r dir below in
      let taken = same.taken dir below in
      let acknowledged = same.acknowledged dir below in
      let answer = data_answer (side_in dir r.links).end ((side_out dir s.links).end.acknowledged + 1) signal at.linked.there (in_open w r) in
      elim (cases_lt (side_out dir s.links).end.acknowledged (side_in dir s.links).end.taken) [
        | inl less ↦
            let old = old_answer ((side_out dir s.links).end.acknowledged + 1) (side_in dir r.links).end.taken (omega arith) in
            let frames = repeats d programs inputs w r dir place 1 ((side_out dir s.links).end.acknowledged + 1) signal below found (answer ∙ old) in
            let most : max (side_in dir r.links).end.taken ((side_out dir s.links).end.acknowledged + 1) ≡ (side_in dir s.links).end.taken = omega arith in
            let ack : ack_of (after_frame (side_in dir r.links).end (Data 1 ((side_out dir s.links).end.acknowledged + 1) signal)) ≡ Ack 1 (side_in dir s.links).end.taken =
            ap (λ (k : ℕ). Ack k (max (side_in dir r.links).end.taken ((side_out dir s.links).end.acknowledged + 1))) at.linked.there ∙ ap (λ (k : ℕ). Ack 1 k) most in
            let P : List Frame → Type 0 = λ y. slice_get y (length (frames_in w (back dir))) ≡ Some (Ack 1 (side_in dir s.links).end.taken) in
            (less, subst P (sym (frames ∙ ap (λ (y : Frame). frames_in w (back dir) ++ y ∷ []) ack)) (get_seam (frames_in w (back dir)) (Ack 1 (side_in dir s.links).end.taken) [] (length (frames_in w (back dir))) refl))
        | inr not_less ↦
            let within_taken = at.linked.out.acknowledged_taken in
            let number : (side_out dir s.links).end.acknowledged + 1 ≡ (side_in dir r.links).end.taken + 1 = omega arith in
            let in_turn = next_answer ((side_out dir s.links).end.acknowledged + 1) (side_in dir r.links).end.taken number in
            let risen = taking w r same place ((side_out dir s.links).end.acknowledged + 1) signal found (answer ∙ in_turn) x.harmless in
            let after = direction d programs inputs (step_in w (Deliver dir (suc place))).world x.now dir below in
            let one : risen.end ≡ (side_in dir x.now.links).end = some_of risen.end (side_in dir x.now.links).end (sym risen.receiving ∙ after.receiving) in
            let stays_taken = stays.taken dir below in
            let same_taken : risen.end.taken ≡ (side_in dir x.now.links).end.taken = ap (λ (y : Image). y.taken) one in
            let risen_taken = risen.taken in
            absurd (omega arith)
      ]

  data_comes : (signal : Signal) (p : Playing) (place : ℕ) → AreWithin d p → slice_get (frames_in p.world dir) place ≡ Some (Data 1 ((side_out dir s.links).end.acknowledged + 1) signal) → Effect d programs inputs lawful v s (λ q. Unit {0}) (Claims false true) p (Deliver dir (suc place))
  data_comes signal p place within found r same x stays c =
      let is = told_at p.world r same signal place found x stays in
      let cursor = cursor_makes p (Deliver dir (suc place)) (back dir) in
      let few = within (back dir) back_below in
      told refl is.0 (record { place = length (frames_in p.world (back dir)); passed = omega arith; at = is.1 })

  -- that comes: more would be acknowledged
  pub never_told : (w : Federation) (r : Reached d programs inputs w) → IsSame d programs inputs v s w r → (place : ℕ) → (side_out dir s.links).end.acknowledged < (side_in dir s.links).end.taken → slice_get (frames_in w (back dir)) place ≡ Some (Ack 1 (side_in dir s.links).end.taken)
      → (x : Next d programs inputs w r (Deliver (back dir) (suc place))) → IsSame d programs inputs v s (step_in w (Deliver (back dir) (suc place))).world x.now → ⊥
  never_told w r same place less found x stays =
      let at = direction d programs inputs w r dir below in
      let last = last_is_offered 1 (side_out dir r.links) (side_in dir r.links) at.linked in
      let offered = at.linked.out.taken_offered in
      let taken = same.taken dir below in
      let answer = ack_answer (side_out dir r.links).end (side_in dir s.links).end.taken at.linked.here (unclosed d programs inputs w r dir below) (omega arith) in
      let told_so = acknowledges d programs inputs w r dir place 1 (side_in dir s.links).end.taken below found answer in
      let after = direction d programs inputs (step_in w (Deliver (back dir) (suc place))).world x.now dir below in
      let one : after_frame (side_out dir r.links).end (Ack 1 (side_in dir s.links).end.taken) ≡ (side_out dir x.now.links).end =
      some_of (after_frame (side_out dir r.links).end (Ack 1 (side_in dir s.links).end.taken)) (side_out dir x.now.links).end (sym told_so ∙ after.sending) in
      let risen : max (side_out dir r.links).end.acknowledged (side_in dir s.links).end.taken ≡ (side_out dir x.now.links).end.acknowledged = ap (λ (z : Image). z.acknowledged) one in
      let stays_so = stays.acknowledged dir below in
      omega arith

  ack_comes : (y : Bool) (p : Playing) (place : ℕ) → (side_out dir s.links).end.acknowledged < (side_in dir s.links).end.taken → slice_get (frames_in p.world (back dir)) place ≡ Some (Ack 1 (side_in dir s.links).end.taken) → Effect d programs inputs lawful v s (λ q. Unit {0}) (Claims y false) p (Deliver (back dir) (suc place))
  ack_comes y p place less found r same x stays c = absurd (never_told p.world r same place less found x stays)

  claims_moved : (x y : Bool) (moved : Dir) → Apart moved dir → Apart moved (back dir) → (p : Playing) (count : ℕ) → Claims x y p → Claims x y (with_cursor p moved count)
  claims_moved x y moved apart apart_too p count c = elim c [
    | settled e ↦ settled e
    | again may signal w ↦ again may signal (waits_moved d programs inputs lawful v s moved dir apart (Data 1 ((side_out dir s.links).end.acknowledged + 1) signal) p count w)
    | told may less w ↦ told may less (waits_moved d programs inputs lawful v s moved (back dir) apart_too (Ack 1 (side_in dir s.links).end.taken) p count w)
  ]

  -- what is brought of another direction
  brings_other : (x y : Bool) (p : Playing) (moved : Dir) → Apart moved dir → Apart moved (back dir) → At (Claims x y) p → At (Claims x y) (after_task (brings moved) p)
  brings_other x y p moved apart apart_too stage =
      moved_as d programs inputs lawful v s (Claims x y) (Claims x y) (with_made p (delivers moved (cursor_at p moved) (sent_in p moved - cursor_at p moved))) moved (sent_in p moved)
      (claims_moved x y moved apart apart_too (with_made p (delivers moved (cursor_at p moved) (sent_in p moved - cursor_at p moved))) (sent_in p moved))
      (steps_on d programs inputs lawful v s (Claims x y) (claims_on x y) (delivers moved (cursor_at p moved) (sent_in p moved - cursor_at p moved)) p
      (deliveries_keep moved (cursor_at p moved) (sent_in p moved - cursor_at p moved)) stage)

  -- what is brought of this one
  told_moved : (p : Playing) (count : ℕ) → Claims false true p → Claims false true (with_cursor p dir count)
  told_moved p count c = elim c [
    | settled e ↦ settled e
    | again may signal w ↦ absurd (let never = may in cc)
    | told may less w ↦ told may less (waits_moved d programs inputs lawful v s dir (back dir) (back_apart dir) (Ack 1 (side_in dir s.links).end.taken) p count w)
  ]

  brings_data : (x y : Bool) (p : Playing) → AreWithin d p → At (Claims x y) p → At (Claims false true) (after_task (brings dir) p)
  brings_data x y p within stage =
      moved_as d programs inputs lawful v s (Claims false true) (Claims false true) (with_made p (delivers dir (cursor_at p dir) (sent_in p dir - cursor_at p dir))) dir (sent_in p dir)
      (told_moved (with_made p (delivers dir (cursor_at p dir) (sent_in p dir - cursor_at p dir))) (sent_in p dir)) (by_stage stage)
    where
      rest : At (Claims false true) p → At (Claims false true) (with_made p (delivers dir (cursor_at p dir) (sent_in p dir - cursor_at p dir)))
      rest here =
          steps_on d programs inputs lawful v s (Claims false true) (claims_on false true) (delivers dir (cursor_at p dir) (sent_in p dir - cursor_at p dir)) p
          (deliveries_keep dir (cursor_at p dir) (sent_in p dir - cursor_at p dir)) here

      by_claim : (r : Reached d programs inputs p.world) → IsSame d programs inputs v s p.world r → Claims x y p → At (Claims false true) (with_made p (delivers dir (cursor_at p dir) (sent_in p dir - cursor_at p dir)))
      by_claim r same (settled e) = rest (still r same (settled e))
      by_claim r same (told may less w) = rest (still r same (told refl less w))
      by_claim r same (again may signal w) =
          let low = w.passed in
          let high = get_below (frames_in p.world dir) w.place (Data 1 ((side_out dir s.links).end.acknowledged + 1) signal) w.at in
          brought d programs inputs lawful v s dir below (Data 1 ((side_out dir s.links).end.acknowledged + 1) signal) (Claims false true) (claims_on false true)
          (λ q place within_q found. data_comes signal q place within_q found) (sent_in p dir - cursor_at p dir) (cursor_at p dir) p within
          (still r same (inr (record { place = w.place; low = w.passed; high = omega arith; at = w.at })))

      by_stage : At (Claims x y) p → At (Claims false true) (with_made p (delivers dir (cursor_at p dir) (sent_in p dir - cursor_at p dir)))
      by_stage (fell r f) = rest (fell r f)
      by_stage (still r same c) = by_claim r same c

  -- what is brought of the one that answers
  data_moved : (x : Bool) (p : Playing) (count : ℕ) → Claims x false p → Claims x false (with_cursor p (back dir) count)
  data_moved x p count c = elim c [
    | settled e ↦ settled e
    | again may signal w ↦ again may signal (waits_moved d programs inputs lawful v s (back dir) dir (apart_back dir) (Data 1 ((side_out dir s.links).end.acknowledged + 1) signal) p count w)
    | told may less w ↦ absurd (let never = may in cc)
  ]

  brings_ack : (x y : Bool) (p : Playing) → AreWithin d p → At (Claims x y) p → At (Claims x false) (after_task (brings (back dir)) p)
  brings_ack x y p within stage =
      moved_as d programs inputs lawful v s (Claims x false) (Claims x false) (with_made p (delivers (back dir) (cursor_at p (back dir)) (sent_in p (back dir) - cursor_at p (back dir)))) (back dir) (sent_in p (back dir))
      (data_moved x (with_made p (delivers (back dir) (cursor_at p (back dir)) (sent_in p (back dir) - cursor_at p (back dir)))) (sent_in p (back dir))) (by_stage stage)
    where
      rest : At (Claims x false) p → At (Claims x false) (with_made p (delivers (back dir) (cursor_at p (back dir)) (sent_in p (back dir) - cursor_at p (back dir))))
      rest here =
          steps_on d programs inputs lawful v s (Claims x false) (claims_on x false) (delivers (back dir) (cursor_at p (back dir)) (sent_in p (back dir) - cursor_at p (back dir))) p
          (deliveries_keep (back dir) (cursor_at p (back dir)) (sent_in p (back dir) - cursor_at p (back dir))) here

      by_claim : (r : Reached d programs inputs p.world) → IsSame d programs inputs v s p.world r → Claims x y p → At (Claims x false) (with_made p (delivers (back dir) (cursor_at p (back dir)) (sent_in p (back dir) - cursor_at p (back dir))))
      by_claim r same (settled e) = rest (still r same (settled e))
      by_claim r same (again may signal w) = rest (still r same (again may signal w))
      by_claim r same (told may less w) =
          let low = w.passed in
          let high = get_below (frames_in p.world (back dir)) w.place (Ack 1 (side_in dir s.links).end.taken) w.at in
          brought d programs inputs lawful v s (back dir) back_below (Ack 1 (side_in dir s.links).end.taken) (Claims x false) (claims_on x false)
          (λ q place within_q found. ack_comes x q place less found) (sent_in p (back dir) - cursor_at p (back dir)) (cursor_at p (back dir)) p within
          (still r same (inr (record { place = w.place; low = w.passed; high = omega arith; at = w.at })))

      by_stage : At (Claims x y) p → At (Claims x false) (with_made p (delivers (back dir) (cursor_at p (back dir)) (sent_in p (back dir) - cursor_at p (back dir))))
      by_stage (fell r f) = rest (fell r f)
      by_stage (still r same c) = by_claim r same c

  -- what may be under way stays among what may be
  wider : (x y more also : Bool) → (x ≡ true → more ≡ true) → (y ≡ true → also ≡ true) → (p : Playing) → At (Claims x y) p → At (Claims more also) p
  wider x y more also f g p stage =
      staged_as d programs inputs lawful v s (Claims x y) (Claims more also) p
      (λ c. elim c [ settled e ↦ settled e | again may signal w ↦ again (f may) signal w | told may less w ↦ told (g may) less w ]) stage

  -- each task
  task_sent : (p : Playing) (task : Task) → IsOfRound task → AreWithin d p → At (Claims true true) p → At (Claims true true) (after_task task p)
  task_sent p (makes step) of within stage = one_step d programs inputs lawful v s (Claims true true) (Claims true true) p step of (claims_on true true p step of) stage
  task_sent p (brings moved) of within stage = elim (same_dir moved dir) [
    | inl here ↦
        let P : Dir → Type 0 = λ x. At (Claims true true) (after_task (brings x) p) in
        subst P (sym here) (wider false true true true (λ e. refl) (λ e. refl) (after_task (brings dir) p) (brings_data true true p within stage))
    | inr apart ↦ elim (same_dir moved (back dir)) [
      | inl here ↦
          let P : Dir → Type 0 = λ x. At (Claims true true) (after_task (brings x) p) in
          subst P (sym here) (wider true false true true (λ e. refl) (λ e. refl) (after_task (brings (back dir)) p) (brings_ack true true p within stage))
      | inr apart_too ↦ brings_other true true p moved apart apart_too stage
    ]
  ]
  task_sent p (skips moved) of within stage = absurd of

  task_told : (p : Playing) (task : Task) → IsOfRound task → AreWithin d p → At (Claims false true) p → At (Claims false true) (after_task task p)
  task_told p (makes step) of within stage = one_step d programs inputs lawful v s (Claims false true) (Claims false true) p step of (claims_on false true p step of) stage
  task_told p (brings moved) of within stage = elim (same_dir moved dir) [
    | inl here ↦
        let P : Dir → Type 0 = λ x. At (Claims false true) (after_task (brings x) p) in
        subst P (sym here) (brings_data false true p within stage)
    | inr apart ↦ elim (same_dir moved (back dir)) [
      | inl here ↦
          let P : Dir → Type 0 = λ x. At (Claims false true) (after_task (brings x) p) in
          subst P (sym here) (wider false false false true (λ e. e) (λ e. refl) (after_task (brings (back dir)) p) (brings_ack false true p within stage))
      | inr apart_too ↦ brings_other false true p moved apart apart_too stage
    ]
  ]
  task_told p (skips moved) of within stage = absurd of

  -- in tasks in which it is sent again, brought, and answered
  is_settled : (p : Playing) → At (Claims false false) p → At (λ q. length (side_out dir s.links).end.kept ≡ 0) p
  is_settled p stage =
      staged_as d programs inputs lawful v s (Claims false false) (λ q. length (side_out dir s.links).end.kept ≡ 0) p
      (λ c. elim c [ settled e ↦ e | again may signal w ↦ absurd (let never = may in cc) | told may less w ↦ absurd (let never = may in cc) ]) stage

  then_answered : (tasks : List Task) (p : Playing) → IsAmong (brings (back dir) ∷ []) tasks → AllByRecursion IsOfRound tasks → AreWithin d p → At (Claims false true) p → At (λ q. length (side_out dir s.links).end.kept ≡ 0) (after_tasks tasks p)
  then_answered [] p among of within stage = absurd among
  then_answered (task ∷ rest) p (inl here) of within stage =
      let P : Task → Type 0 = λ x. At (λ q. length (side_out dir s.links).end.kept ≡ 0) (after_tasks rest (after_task x p)) in
      subst P (sym here.0)
      (constants_on d programs inputs lawful v s (length (side_out dir s.links).end.kept ≡ 0) rest (after_task (brings (back dir)) p) of.1
      (is_settled (after_task (brings (back dir)) p) (brings_ack false true p within stage)))
  then_answered (task ∷ rest) p (inr later) of within stage =
      then_answered rest (after_task task p) later of.1 (within_task d programs inputs lawful v s p task of.0 (reached_of d programs inputs lawful v s (Claims false true) p stage) within) (task_told p task of.0 within stage)

  then_brought : (tasks : List Task) (p : Playing) → IsAmong (brings dir ∷ brings (back dir) ∷ []) tasks → AllByRecursion IsOfRound tasks → AreWithin d p → At (Claims true true) p → At (λ q. length (side_out dir s.links).end.kept ≡ 0) (after_tasks tasks p)
  then_brought [] p among of within stage = absurd among
  then_brought (task ∷ rest) p (inl here) of within stage =
      let P : Task → Type 0 = λ x. At (λ q. length (side_out dir s.links).end.kept ≡ 0) (after_tasks rest (after_task x p)) in
      subst P (sym here.0)
      (then_answered rest (after_task (brings dir) p) here.1 of.1 (within_task d programs inputs lawful v s p (brings dir) tt (reached_of d programs inputs lawful v s (Claims true true) p stage) within) (brings_data true true p within stage))
  then_brought (task ∷ rest) p (inr later) of within stage =
      then_brought rest (after_task task p) later of.1 (within_task d programs inputs lawful v s p task of.0 (reached_of d programs inputs lawful v s (Claims true true) p stage) within) (task_sent p task of.0 within stage)

  pub settles : (tasks : List Task) (p : Playing) → IsAmong (makes (Resend dir) ∷ brings dir ∷ brings (back dir) ∷ []) tasks → AllByRecursion IsOfRound tasks → AreWithin d p → At (λ q. Unit {0}) p → At (λ q. length (side_out dir s.links).end.kept ≡ 0) (after_tasks tasks p)
  settles [] p among of within stage = absurd among
  settles (task ∷ rest) p (inl here) of within stage =
      let P : Task → Type 0 = λ x. At (λ q. length (side_out dir s.links).end.kept ≡ 0) (after_tasks rest (after_task x p)) in
      subst P (sym here.0)
      (then_brought rest (after_one p (Resend dir)) here.1 of.1 (within_task d programs inputs lawful v s p (makes (Resend dir)) refl (reached_of d programs inputs lawful v s (λ q. Unit {0}) p stage) within)
      (one_step d programs inputs lawful v s (λ q. Unit {0}) (Claims true true) p (Resend dir) refl (resent p within) stage))
  settles (task ∷ rest) p (inr later) of within stage =
      settles rest (after_task task p) later of.1 (within_task d programs inputs lawful v s p task of.0 (reached_of d programs inputs lawful v s (λ q. Unit {0}) p stage) within) (constant_on d programs inputs lawful v s (Unit {0}) p task of.0 stage)
