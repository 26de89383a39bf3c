-- A direction that is served: what its sender keeps is sent again, comes, and is acknowledged. Where nothing is done, taken or
-- acknowledged meanwhile, its sender keeps nothing.
use Rattle.std.proofs.Common.{◌≡◌, ◌≢◌, ℕ, zero, suc, ◌+◌, ◌-◌, ◌<◌, ◌≤◌, ◌⊎◌, inl, inr, Bool, true, false, List, [], ◌∷◌, ◌++◌, length, length-append, get_or, set, slice_get, refl, sym, ap, subst, ◌∙◌, arith, Some, Ok, Err, if◌then◌else◌}
use Rattle.std.specs.Prelude.{nat_eq, nat_le, nat_lt}
use Rattle.std.specs.List.{AllByRecursion}
use Rattle.std.proofs.lemmas.Bool.{cases_lt, eq-eqb}
use Rattle.std.proofs.lemmas.Bool.Decides.{nat_tests}
use Rattle.network.specs.Tables.{IsLawfulWith}
use Rattle.signal.specs.declared.signal.Signal.{Signal}
use Rattle.signal.specs.declared.frame.Frame.{Frame}
use Rattle.signal.specs.declared.frame.Frame.TheVariants.{Data, Ack}
use Rattle.link.specs.declared.arrival.Arrival.TheVariants as arrival
use Rattle.link.specs.declared.fault.LinkFault.{LinkFault}
use Rattle.link.specs.Image.{Image, last_number, answer_of}
use Rattle.plan.specs.declared.draft.Draft.{Draft}
use Rattle.plan.specs.declared.input.Input.{Input}
use Rattle.plan.specs.Federation.{federate_count}
use Rattle.plan.specs.Least.{least_of}
use Rattle.reactor_program.specs.Behaviour.{Behaviour}
use Rattle.plan_network.specs.Network.{network_of}
use Rattle.link_laws.proofs.Places.{get_more}
use Rattle.world_stations.specs.declared.dir.Dir.{Dir}
use Rattle.world_stations.specs.declared.dir.Dir.TheVariants.{Up, Down}
use Rattle.world_stations.specs.declared.step.Step.{Step}
use Rattle.world_stations.specs.declared.step.Step.TheVariants.{Deliver}
use Rattle.world_stations.specs.World.{frames_in, federate_of}
use Rattle.world_stations.specs.Kept.{is_forget}
use Rattle.world_stations.specs.Federation.{Federation, step_in}
use Rattle.world_stations.proofs.Shown.{same_or_not}
use Rattle.world_progress.specs.Rounds.{Playing, cursor_in, with_cursor, sent_in, with_made, delivers, Task, makes, brings, skips, after_task, after_tasks}
use Rattle.world_progress.proofs.Reached.{Reached, Next, next}
use Rattle.world_progress.specs.Fair.{back}
use Rattle.world_progress.proofs.Facing.{Falls, IsSame, falls_or_stays, falls_on, frames_more}

-- the cursor of a direction
abbrev pub cursor_at : Playing → Dir → ℕ
cursor_at p dir = cursor_in p.cursors dir

-- one step more
abbrev pub after_one : Playing → Step → Playing
after_one p step = record p { world = (step_in p.world step).world }

-- rounds have gone past no more frames of a direction than were sent
abbrev pub AreWithin : Draft → Playing → Type 0
AreWithin d p = (dir : Dir) → federate_of dir < federate_count d → cursor_at p dir ≤ length (frames_in p.world dir)

-- since a world less is left to do or more is acknowledged; or nothing changed, and this is so
pub data Stage (d : Draft) (programs : List Behaviour) (inputs : List Input) (v : Federation) (s : Reached d programs inputs v) (C : Playing → Type 0) (p : Playing) : Type 0 where
  fell : (r : Reached d programs inputs p.world) → Falls d programs inputs v s p.world r → Stage d programs inputs v s C p
  still : (r : Reached d programs inputs p.world) → IsSame d programs inputs v s p.world r → C p → Stage d programs inputs v s C p

-- a frame of a direction that rounds haven't gone past
pub record Waiting (dir : Dir) (frame : Frame) (p : Playing) : Type 0 where
  pub place : ℕ
  pub passed : cursor_at p dir ≤ place
  pub at : slice_get (frames_in p.world dir) place ≡ Some frame

-- the same, among those from a place on
pub record InFront (dir : Dir) (frame : Frame) (gone count : ℕ) (p : Playing) : Type 0 where
  pub place : ℕ
  pub low : gone ≤ place
  pub high : place < gone + count
  pub at : slice_get (frames_in p.world dir) place ≡ Some frame

-- a task of a round
abbrev pub IsOfRound : Task → Type 0
IsOfRound (makes step) = is_forget step ≡ false
IsOfRound (brings dir) = Unit {0}
IsOfRound (skips dir) = ⊥

-- these tasks stand among those, in this order
abbrev pub IsAmong : List Task → List Task → Type 0
IsAmong [] tasks = Unit {0}
IsAmong (key ∷ keys) [] = ⊥
IsAmong (key ∷ keys) (task ∷ tasks) = ((task ≡ key) × IsAmong keys tasks) ⊎ IsAmong (key ∷ keys) tasks

-- cursors
pub cursor_makes : (p : Playing) (step : Step) (dir : Dir) → cursor_at (after_one p step) dir ≡ cursor_at p dir
cursor_makes p step dir = refl

world_moved : (p : Playing) (dir : Dir) (count : ℕ) → (with_cursor p dir count).world ≡ p.world
world_moved p dir count = refl

set_own : (xs : List ℕ) (j count : ℕ) → get_or (set xs j count) j 0 ≤ count
set_own [] j count = omega arith
set_own (x ∷ xs) zero count = omega arith
set_own (x ∷ xs) (suc j) count = set_own xs j count

set_other : (xs : List ℕ) (k j count : ℕ) → j ≢ k → get_or (set xs k count) j 0 ≡ get_or xs j 0
set_other [] k j count apart = refl
set_other (x ∷ xs) zero zero count apart = absurd (apart refl)
set_other (x ∷ xs) zero (suc j) count apart = refl
set_other (x ∷ xs) (suc k) zero count apart = refl
set_other (x ∷ xs) (suc k) (suc j) count apart = set_other xs k j count (λ e. apart (ap suc e))

-- a cursor is another direction's, or not
abbrev pub Apart : Dir → Dir → Type 0
Apart moved dir = (p : Playing) (count : ℕ) → cursor_at (with_cursor p moved count) dir ≡ cursor_at p dir

pub same_dir : (moved dir : Dir) → (moved ≡ dir) ⊎ Apart moved dir
same_dir (Up k) (Up j) = elim (same_or_not k j) [
  | inl here ↦ inl (ap (λ (x : ℕ). Up x) (sym here))
  | inr apart ↦ inr (λ p count. set_other p.cursors.up k j count apart)
]
same_dir (Up k) (Down j) = inr (λ p count. refl)
same_dir (Down k) (Up j) = inr (λ p count. refl)
same_dir (Down k) (Down j) = elim (same_or_not k j) [
  | inl here ↦ inl (ap (λ (x : ℕ). Down x) (sym here))
  | inr apart ↦ inr (λ p count. set_other p.cursors.down k j count apart)
]

pub back_apart : (dir : Dir) → Apart dir (back dir)
back_apart (Up j) p count = refl
back_apart (Down j) p count = refl

pub apart_back : (dir : Dir) → Apart (back dir) dir
apart_back (Up j) p count = refl
apart_back (Down j) p count = refl

own_cursor : (p : Playing) (dir : Dir) (count : ℕ) → cursor_at (with_cursor p dir count) dir ≤ count
own_cursor p (Up j) count = set_own p.cursors.up j count
own_cursor p (Down j) count = set_own p.cursors.down j count

-- deliveries forget nothing
pub deliveries_keep : (dir : Dir) (gone count : ℕ) → AllByRecursion (λ (step : Step). is_forget step ≡ false) (delivers dir gone count)
deliveries_keep dir gone zero = tt
deliveries_keep dir gone (suc count) = (refl, deliveries_keep dir (gone + 1) count)

-- what an end of the first incarnation answers
pub data_answer : (e : Image) (n : ℕ) (signal : Signal) → e.incarnation ≡ 1 → e.closed ≡ false → answer_of e (Data 1 n signal) ≡ (if nat_le n e.taken then Ok arrival.Repeated else if nat_eq n (e.taken + 1) then Ok arrival.Signal else Err LinkFault.Gap)
data_answer e n signal is opened =
    ap (λ (b : Bool). if b then (if e.closed then Err LinkFault.Closed else if nat_le n e.taken then Ok arrival.Repeated else if nat_eq n (e.taken + 1) then Ok arrival.Signal else Err LinkFault.Gap) else Err LinkFault.Stranger) (eq-eqb 1 e.incarnation (sym is)) ∙
    ap (λ (b : Bool). if b then Err LinkFault.Closed else if nat_le n e.taken then Ok arrival.Repeated else if nat_eq n (e.taken + 1) then Ok arrival.Signal else Err LinkFault.Gap) opened

pub ack_answer : (e : Image) (n : ℕ) → e.incarnation ≡ 1 → e.closed ≡ false → n ≤ last_number e → answer_of e (Ack 1 n) ≡ Ok arrival.Acked
ack_answer e n is opened few =
    ap (λ (b : Bool). if b then (if e.closed then Err LinkFault.Closed else if nat_lt (last_number e) n then Err LinkFault.AckOfUnsent else Ok arrival.Acked) else Err LinkFault.Stranger) (eq-eqb 1 e.incarnation (sym is)) ∙
    ap (λ (b : Bool). if b then Err LinkFault.Closed else if nat_lt (last_number e) n then Err LinkFault.AckOfUnsent else Ok arrival.Acked) opened ∙
    ap (λ (b : Bool). if b then Err LinkFault.AckOfUnsent else Ok arrival.Acked) (not_below (last_number e) n few)
  where
    not_below : (a b : ℕ) → b ≤ a → nat_lt a b ≡ false
    not_below a b h = grind (arith, nat_tests)

pub old_answer : (n taken : ℕ) → n ≤ taken → (if nat_le n taken then Ok arrival.Repeated else if nat_eq n (taken + 1) then Ok arrival.Signal else Err LinkFault.Gap) ≡ Ok arrival.Repeated
old_answer n taken l = ap (λ (b : Bool). if b then Ok arrival.Repeated else if nat_eq n (taken + 1) then Ok arrival.Signal else Err LinkFault.Gap) (at_most n taken l)
  where
    at_most : (a b : ℕ) → a ≤ b → nat_le a b ≡ true
    at_most a b h = grind (arith, nat_tests)

pub next_answer : (n taken : ℕ) → n ≡ taken + 1 → (if nat_le n taken then Ok arrival.Repeated else if nat_eq n (taken + 1) then Ok arrival.Signal else Err LinkFault.Gap) ≡ Ok arrival.Signal
next_answer n taken e =
    ap (λ (b : Bool). if b then Ok arrival.Repeated else if nat_eq n (taken + 1) then Ok arrival.Signal else Err LinkFault.Gap) (above n taken (omega arith)) ∙
    ap (λ (b : Bool). if b then Ok arrival.Signal else Err LinkFault.Gap) (eq-eqb n (taken + 1) e)
  where
    above : (a b : ℕ) → b < a → nat_le a b ≡ false
    above a b h = grind (arith, nat_tests)

module _ (d : Draft) (programs : List Behaviour) (inputs : List Input) (lawful : IsLawfulWith (network_of d programs inputs) (least_of d)) (v : Federation) (s : Reached d programs inputs v) where
  abbrev pub Staged : (Playing → Type 0) → Playing → Type 0
  Staged C p = Stage d programs inputs v s C p

  -- what becomes of this by a step by which nothing changes
  abbrev pub Effect : (Playing → Type 0) → (Playing → Type 0) → Playing → Step → Type 0
  Effect C D p step =
      (r : Reached d programs inputs p.world) → IsSame d programs inputs v s p.world r → (x : Next d programs inputs p.world r step) → IsSame d programs inputs v s (step_in p.world step).world x.now → C p → D (after_one p step)

  pub reached_of : (C : Playing → Type 0) (p : Playing) → Staged C p → Reached d programs inputs p.world
  reached_of C p (fell r f) = r
  reached_of C p (still r same c) = r

  pub staged_as : (C D : Playing → Type 0) (p : Playing) → (C p → D p) → Staged C p → Staged D p
  staged_as C D p f (fell r h) = fell r h
  staged_as C D p f (still r same c) = still r same (f c)

  pub one_step : (C D : Playing → Type 0) (p : Playing) (step : Step) → is_forget step ≡ false → Effect C D p step → Staged C p → Staged D (after_one p step)
  one_step C D p step not_forget effect (fell r f) =
      let x = next d programs inputs lawful p.world r step not_forget in
      fell x.now (falls_on d programs inputs v s p.world r step x f)
  one_step C D p step not_forget effect (still r same c) =
      let x = next d programs inputs lawful p.world r step not_forget in
      elim (falls_or_stays d programs inputs v s p.world r step x same) [
        | inl falls ↦ fell x.now falls
        | inr stays ↦ still x.now stays (effect r same x stays c)
      ]

  pub moved_as : (C D : Playing → Type 0) (p : Playing) (dir : Dir) (count : ℕ) → (C p → D (with_cursor p dir count)) → Staged C p → Staged D (with_cursor p dir count)
  moved_as C D p (Up j) count f (fell r h) = fell r h
  moved_as C D p (Up j) count f (still r same c) = still r same (f c)
  moved_as C D p (Down j) count f (fell r h) = fell r h
  moved_as C D p (Down j) count f (still r same c) = still r same (f c)

  -- cursors stay within what was sent
  within_step : (p : Playing) (step : Step) → is_forget step ≡ false → Reached d programs inputs p.world → AreWithin d p → AreWithin d (after_one p step)
  within_step p step not_forget r within dir below =
      let x = next d programs inputs lawful p.world r step not_forget in
      let more = frames_more d programs inputs p.world r step x dir below in
      let size = length-append (frames_in p.world dir) more.0 in
      let longer : length (frames_in (step_in p.world step).world dir) ≡ length (frames_in p.world dir ++ more.0) = ap length more.1 in
      let before = within dir below in
      let cursor = cursor_makes p step dir in
      omega arith

  within_steps : (steps : List Step) (p : Playing) → AllByRecursion (λ (step : Step). is_forget step ≡ false) steps → Reached d programs inputs p.world → AreWithin d p → AreWithin d (with_made p steps)
  within_steps [] p kept r within = within
  within_steps (step ∷ rest) p kept r within =
      within_steps rest (after_one p step) kept.1 (next d programs inputs lawful p.world r step kept.0).now (within_step p step kept.0 r within)

  pub within_cursor : (p : Playing) (moved : Dir) → AreWithin d p → AreWithin d (with_cursor p moved (sent_in p moved))
  within_cursor p moved within dir below =
      let same : length (frames_in (with_cursor p moved (sent_in p moved)).world dir) ≡ length (frames_in p.world dir) = ap (λ (w : Federation). length (frames_in w dir)) (world_moved p moved (sent_in p moved)) in
      let before = within dir below in
      elim (same_dir moved dir) [
        | inl here ↦
            let P : Dir → Type 0 = λ x. cursor_at (with_cursor p moved (sent_in p moved)) x ≤ length (frames_in p.world x) in
            let own = subst P here (own_cursor p moved (sent_in p moved)) in
            omega arith
        | inr apart ↦ let cursor = apart p (sent_in p moved) in omega arith
      ]

  pub within_task : (p : Playing) (task : Task) → IsOfRound task → Reached d programs inputs p.world → AreWithin d p → AreWithin d (after_task task p)
  within_task p (makes step) of r within = within_steps (step ∷ []) p (of, tt) r within
  within_task p (brings (Up j)) of r within =
      within_steps (delivers (Up j) (cursor_at p (Up j)) (sent_in p (Up j) - cursor_at p (Up j))) (with_cursor p (Up j) (sent_in p (Up j))) (deliveries_keep (Up j) (cursor_at p (Up j)) (sent_in p (Up j) - cursor_at p (Up j))) r (within_cursor p (Up j) within)
  within_task p (brings (Down j)) of r within =
      within_steps (delivers (Down j) (cursor_at p (Down j)) (sent_in p (Down j) - cursor_at p (Down j))) (with_cursor p (Down j) (sent_in p (Down j))) (deliveries_keep (Down j) (cursor_at p (Down j)) (sent_in p (Down j) - cursor_at p (Down j))) r (within_cursor p (Down j) within)
  within_task p (skips dir) of r within = absurd of

  -- what is so through each step, through steps
  abbrev pub Persists : (Playing → Type 0) → Type 0
  Persists C = (p : Playing) (step : Step) → is_forget step ≡ false → Effect C C p step

  pub steps_on : (C : Playing → Type 0) → Persists C → (steps : List Step) (p : Playing) → AllByRecursion (λ (step : Step). is_forget step ≡ false) steps → Staged C p → Staged C (with_made p steps)
  steps_on C persists [] p kept stage = stage
  steps_on C persists (step ∷ rest) p kept stage = steps_on C persists rest (after_one p step) kept.1 (one_step C C p step kept.0 (persists p step kept.0) stage)

  -- a constant fact stays through tasks
  pub constant_on : (K : Type 0) (p : Playing) (task : Task) → IsOfRound task → Staged (λ q. K) p → Staged (λ q. K) (after_task task p)
  constant_on K p (makes step) of stage = one_step (λ q. K) (λ q. K) p step of (λ r same x stays k. k) stage
  constant_on K p (brings dir) of stage =
      moved_as (λ q. K) (λ q. K) (with_made p (delivers dir (cursor_at p dir) (sent_in p dir - cursor_at p dir))) dir (sent_in p dir) (λ k. k)
      (steps_on (λ q. K) (λ q step not_forget r same x stays k. k) (delivers dir (cursor_at p dir) (sent_in p dir - cursor_at p dir)) p (deliveries_keep dir (cursor_at p dir) (sent_in p dir - cursor_at p dir)) stage)
  constant_on K p (skips dir) of stage = absurd of

  pub constants_on : (K : Type 0) (tasks : List Task) (p : Playing) → AllByRecursion IsOfRound tasks → Staged (λ q. K) p → Staged (λ q. K) (after_tasks tasks p)
  constants_on K [] p of stage = stage
  constants_on K (task ∷ rest) p of stage = constants_on K rest (after_task task p) of.1 (constant_on K p task of.0 stage)

  pub withins : (tasks : List Task) (p : Playing) → AllByRecursion IsOfRound tasks → Staged (λ q. Unit {0}) p → AreWithin d p → AreWithin d (after_tasks tasks p)
  withins [] p of stage within = within
  withins (task ∷ rest) p of stage within =
      withins rest (after_task task p) of.1 (constant_on (Unit {0}) p task of.0 stage) (within_task p task of.0 (reached_of (λ q. Unit {0}) p stage) within)

  -- a step at which a fact shows
  pub shows_at : (K : Type 0) (key : Step) → is_forget key ≡ false → ((p : Playing) (r : Reached d programs inputs p.world) → IsSame d programs inputs v s p.world r → (x : Next d programs inputs p.world r key) → IsSame d programs inputs v s (step_in p.world key).world x.now → K)
      → (tasks : List Task) (p : Playing) → IsAmong (makes key ∷ []) tasks → AllByRecursion IsOfRound tasks → Staged (λ q. Unit {0}) p → Staged (λ q. K) (after_tasks tasks p)
  shows_at K key not_forget shows [] p among of stage = absurd among
  shows_at K key not_forget shows (task ∷ rest) p (inl here) of stage =
      let P : Task → Type 0 = λ x. Staged (λ q. K) (after_tasks rest (after_task x p)) in
      let Q : Task → Type 0 = λ x. IsOfRound x in
      subst P (sym here.0) (constants_on K rest (after_one p key) of.1 (one_step (λ q. Unit {0}) (λ q. K) p key not_forget (λ r same x stays k. shows p r same x stays) stage))
  shows_at K key not_forget shows (task ∷ rest) p (inr later) of stage =
      shows_at K key not_forget shows rest (after_task task p) later of.1 (constant_on (Unit {0}) p task of.0 stage)

  -- a waiting frame waits on
  pub waits_on : (dir : Dir) → federate_of dir < federate_count d → (frame : Frame) (p : Playing) (step : Step) (r : Reached d programs inputs p.world) (x : Next d programs inputs p.world r step) → Waiting dir frame p → Waiting dir frame (after_one p step)
  waits_on dir below frame p step r x w =
      let more = frames_more d programs inputs p.world r step x dir below in
      let P : List Frame → Type 0 = λ y. slice_get y w.place ≡ Some frame in
      let cursor = cursor_makes p step dir in
      record { place = w.place; passed = omega (arith, w.passed, cursor); at = subst P (sym more.1) (get_more (frames_in p.world dir) more.0 w.place frame w.at) }

  pub waits_moved : (moved dir : Dir) → Apart moved dir → (frame : Frame) (p : Playing) (count : ℕ) → Waiting dir frame p → Waiting dir frame (with_cursor p moved count)
  waits_moved moved dir apart frame p count w =
      let P : Federation → Type 0 = λ y. slice_get (frames_in y dir) w.place ≡ Some frame in
      let cursor = apart p count in
      record { place = w.place; passed = omega (arith, w.passed, cursor); at = subst P (sym (world_moved p moved count)) w.at }

  -- a frame that waits comes as its direction is brought, and then this is so
  abbrev pub Comes : Dir → Frame → (gone count : ℕ) → (Playing → Type 0) → Playing → Type 0
  Comes dir frame gone count E p = E p ⊎ InFront dir frame gone count p

  pub brought : (dir : Dir) → federate_of dir < federate_count d → (frame : Frame) (E : Playing → Type 0) → Persists E
      → ((p : Playing) (place : ℕ) → AreWithin d p → slice_get (frames_in p.world dir) place ≡ Some frame → Effect (λ q. Unit {0}) E p (Deliver dir (suc place)))
      → (count gone : ℕ) (p : Playing) → AreWithin d p → Staged (Comes dir frame gone count E) p → Staged E (with_made p (delivers dir gone count))
  brought dir below frame E persists arrives zero gone p within stage =
      staged_as (Comes dir frame gone zero E) E p
      (λ c. elim c [ inl e ↦ e | inr f ↦ (let low = f.low in let high = f.high in absurd (omega arith)) ]) stage
  brought dir below frame E persists arrives (suc count) gone p within stage =
      brought dir below frame E persists arrives count (gone + 1) (after_one p (Deliver dir (gone + 1)))
      (within_step p (Deliver dir (gone + 1)) refl (reached_of (Comes dir frame gone (suc count) E) p stage) within)
      (one_step (Comes dir frame gone (suc count) E) (Comes dir frame (gone + 1) count E) p (Deliver dir (gone + 1)) refl
      (λ r same x stays c. elim c [
        | inl e ↦ inl (persists p (Deliver dir (gone + 1)) refl r same x stays e)
        | inr f ↦ elim (same_or_not gone f.place) [
          | inl here ↦
              let number : suc f.place ≡ gone + 1 = omega arith in
              let P : ℕ → Type 0 = λ y. Effect (λ q. Unit {0}) E p (Deliver dir y) in
              inl (subst P number (arrives p f.place within f.at) r same x stays tt)
          | inr apart ↦
              let low = f.low in
              let high = f.high in
              let beyond : gone + 1 ≤ f.place = later gone f.place low apart in
              let more = frames_more d programs inputs p.world r (Deliver dir (gone + 1)) x dir below in
              let P : List Frame → Type 0 = λ y. slice_get y f.place ≡ Some frame in
              inr (record { place = f.place; low = beyond; high = omega arith; at = subst P (sym more.1) (get_more (frames_in p.world dir) more.0 f.place frame f.at) })
        ]
      ])
      stage)
    where
      later : (a b : ℕ) → a ≤ b → b ≢ a → a + 1 ≤ b
      later a b l apart = elim (cases_lt a b) [ inl less ↦ omega arith | inr not_less ↦ absurd (apart (omega arith)) ]
