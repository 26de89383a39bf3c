-- Before two closing rounds the world is stuck, or by them less is to be done or more is acknowledged; so closing rounds end stuck.
use Rattle.std.proofs.Common.{◌≡◌, ℕ, zero, suc, ◌+◌, ◌*◌, ◌^◌, ◌<◌, ◌≤◌, ◌⊎◌, inl, inr, false, List, [], ◌∷◌, ◌++◌, length, refl, sym, ap, subst, ◌∙◌, arith}
use Rattle.std.specs.List.{list_any, AllByRecursion}
use Rattle.std.proofs.lemmas.Bool.{cases_lt}
use Rattle.network.specs.Tables.{IsLawfulWith}
use Rattle.network_laws.proofs.Lists.{each_append}
use Rattle.plan.specs.declared.draft.Draft.{Draft}
use Rattle.plan.specs.declared.input.Input.{Input}
use Rattle.plan.specs.Federation.{federate_count}
use Rattle.plan.specs.Least.{least_of}
use Rattle.plan.specs.Legal.{IsLegal}
use Rattle.reactor_program.specs.Behaviour.{Behaviour}
use Rattle.plan_network.specs.Network.{network_of}
use Rattle.world_stations.specs.declared.dir.Dir.{Dir}
use Rattle.world_stations.specs.declared.dir.Dir.TheVariants.{Up, Down}
use Rattle.world_stations.specs.declared.step.Step.{Step}
use Rattle.world_stations.specs.declared.step.Step.TheVariants.{Resend, Announce, Advance}
use Rattle.world_stations.specs.World.{frames_in, federate_of}
use Rattle.world_stations.specs.Kept.{is_forget}
use Rattle.world_stations.specs.Federation.{Federation, IsStuck, world_after}
use Rattle.world_progress.specs.Fuel.{fuel_of}
use Rattle.world_progress.specs.Rounds.{Playing, cursor_in, Task, makes, brings, after_task, after_tasks, for_each, turn_tasks, resend_tasks, closing_round_tasks, closing_rounds_tasks, after_closing_rounds}
use Rattle.world_progress.proofs.Reached.{Reached, ahead, acked}
use Rattle.world_progress.specs.Fair.{back}
use Rattle.world_progress.proofs.Facing.{side_out, Falls, same_itself}
use Rattle.world_progress.proofs.Serving.{AreWithin, Stage, fell, still, IsOfRound, IsAmong, withins, shows_at}
use Rattle.world_progress.proofs.Settling.{settles}
use Rattle.world_progress.proofs.Halting.{stuck_unless, acked_within, reached_steps}

-- tasks among others
among_later : (keys tasks more : List Task) → IsAmong keys more → IsAmong keys (tasks ++ more)
among_later [] tasks more a = tt
among_later (key ∷ keys) [] more a = a
among_later (key ∷ keys) (task ∷ tasks) more a = inr (among_later (key ∷ keys) tasks more a)

among_first : (keys tasks more : List Task) → IsAmong keys tasks → IsAmong keys (tasks ++ more)
among_first [] tasks more a = tt
among_first (key ∷ keys) [] more a = absurd a
among_first (key ∷ keys) (task ∷ tasks) more (inl here) = inl (here.0, among_first keys tasks more here.1)
among_first (key ∷ keys) (task ∷ tasks) more (inr later) = inr (among_first (key ∷ keys) tasks more later)

among_both : (keys others tasks more : List Task) → IsAmong keys tasks → IsAmong others more → IsAmong (keys ++ others) (tasks ++ more)
among_both [] others tasks more a b = among_later others tasks more b
among_both (key ∷ keys) others [] more a b = absurd a
among_both (key ∷ keys) others (task ∷ tasks) more (inl here) b = inl (here.0, among_both keys others tasks more here.1 b)
among_both (key ∷ keys) others (task ∷ tasks) more (inr later) b = inr (among_both (key ∷ keys) others tasks more later b)

among_each : (tasks : ℕ → List Task) (count j : ℕ) (keys : List Task) → j < count → IsAmong keys (tasks j) → IsAmong keys (for_each tasks count)
among_each tasks zero j keys l a = absurd (omega arith)
among_each tasks (suc count) j keys l a = elim (cases_lt j count) [
  | inl less ↦ among_first keys (for_each tasks count) (tasks count) (among_each tasks count j keys less a)
  | inr last ↦
      let same : j ≡ count = omega arith in
      let P : ℕ → Type 0 = λ x. IsAmong keys (tasks x) in
      among_later keys (for_each tasks count) (tasks count) (subst P same a)
]

each_of : (tasks : ℕ → List Task) → ((j : ℕ) → AllByRecursion IsOfRound (tasks j)) → (count : ℕ) → AllByRecursion IsOfRound (for_each tasks count)
each_of tasks h zero = tt
each_of tasks h (suc count) = each_append IsOfRound (for_each tasks count) (tasks count) (each_of tasks h count) (h count)

abbrev agains : ℕ → List Task
agains count = for_each resend_tasks count

abbrev turns : ℕ → List Task
turns count = for_each turn_tasks count

abbrev ups : ℕ → List Task
ups count = for_each (λ j. brings (Up j) ∷ []) count

abbrev downs : ℕ → List Task
downs count = for_each (λ j. brings (Down j) ∷ []) count

round_is : (count : ℕ) → AllByRecursion IsOfRound (closing_round_tasks count)
round_is count =
    each_append IsOfRound (agains count) (turns count ++ (ups count ++ downs count)) (each_of resend_tasks (λ j. (refl, (refl, tt))) count)
    (each_append IsOfRound (turns count) (ups count ++ downs count) (each_of turn_tasks (λ j. (refl, (refl, tt))) count)
    (each_append IsOfRound (ups count) (downs count) (each_of (λ j. brings (Up j) ∷ []) (λ j. (tt, tt)) count) (each_of (λ j. brings (Down j) ∷ []) (λ j. (tt, tt)) count)))

abbrev pair : ℕ → List Task
pair count = closing_round_tasks count ++ closing_round_tasks count

pair_is : (count : ℕ) → AllByRecursion IsOfRound (pair count)
pair_is count = each_append IsOfRound (closing_round_tasks count) (closing_round_tasks count) (round_is count) (round_is count)

among_up : (count j : ℕ) → j < count → IsAmong (makes (Resend (Up j)) ∷ brings (Up j) ∷ brings (Down j) ∷ []) (pair count)
among_up count j l =
    among_first (makes (Resend (Up j)) ∷ brings (Up j) ∷ brings (Down j) ∷ []) (closing_round_tasks count) (closing_round_tasks count)
    (among_both (makes (Resend (Up j)) ∷ []) (brings (Up j) ∷ brings (Down j) ∷ []) (agains count) (turns count ++ (ups count ++ downs count))
    (among_each resend_tasks count j (makes (Resend (Up j)) ∷ []) l (inl (refl, tt)))
    (among_later (brings (Up j) ∷ brings (Down j) ∷ []) (turns count) (ups count ++ downs count)
    (among_both (brings (Up j) ∷ []) (brings (Down j) ∷ []) (ups count) (downs count)
    (among_each (λ j. brings (Up j) ∷ []) count j (brings (Up j) ∷ []) l (inl (refl, tt)))
    (among_each (λ j. brings (Down j) ∷ []) count j (brings (Down j) ∷ []) l (inl (refl, tt))))))

among_down : (count j : ℕ) → j < count → IsAmong (makes (Resend (Down j)) ∷ brings (Down j) ∷ brings (Up j) ∷ []) (pair count)
among_down count j l =
    among_both (makes (Resend (Down j)) ∷ brings (Down j) ∷ []) (brings (Up j) ∷ []) (closing_round_tasks count) (closing_round_tasks count)
    (among_both (makes (Resend (Down j)) ∷ []) (brings (Down j) ∷ []) (agains count) (turns count ++ (ups count ++ downs count))
    (among_each resend_tasks count j (makes (Resend (Down j)) ∷ []) l (inr (inl (refl, tt))))
    (among_later (brings (Down j) ∷ []) (turns count) (ups count ++ downs count)
    (among_later (brings (Down j) ∷ []) (ups count) (downs count)
    (among_each (λ j. brings (Down j) ∷ []) count j (brings (Down j) ∷ []) l (inl (refl, tt))))))
    (among_later (brings (Up j) ∷ []) (agains count) (turns count ++ (ups count ++ downs count))
    (among_later (brings (Up j) ∷ []) (turns count) (ups count ++ downs count)
    (among_first (brings (Up j) ∷ []) (ups count) (downs count)
    (among_each (λ j. brings (Up j) ∷ []) count j (brings (Up j) ∷ []) l (inl (refl, tt))))))

among_turn : (count j : ℕ) (key : Task) → j < count → IsAmong (key ∷ []) (makes (Announce j) ∷ makes (Advance j) ∷ []) → IsAmong (key ∷ []) (pair count)
among_turn count j key l a =
    among_first (key ∷ []) (closing_round_tasks count) (closing_round_tasks count)
    (among_later (key ∷ []) (agains count) (turns count ++ (ups count ++ downs count))
    (among_first (key ∷ []) (turns count) (ups count ++ downs count) (among_each turn_tasks count j (key ∷ []) l a)))

-- closing rounds that lead to a stuck world, at most two for each of this many
record Ends (d : Draft) (p : Playing) (most : ℕ) : Type 0 where
  rounds : ℕ
  few : rounds ≤ most + most
  stuck : IsStuck (after_closing_rounds (federate_count d) rounds p).world

module _ (d : Draft) (programs : List Behaviour) (inputs : List Input) (legal : IsLegal d) (lawful : IsLawfulWith (network_of d programs inputs) (least_of d)) (small : fuel_of (network_of d programs inputs) < 2 ^ 63) where
  -- less is to be done, or more is acknowledged, after two closing rounds
  abbrev FallsBy : (p : Playing) → Reached d programs inputs p.world → Type 0
  FallsBy p s = (r : Reached d programs inputs (after_tasks (pair (federate_count d)) p).world) × Falls d programs inputs p.world s (after_tasks (pair (federate_count d)) p).world r

  either : (K : Type 0) (p : Playing) (s : Reached d programs inputs p.world) → Stage d programs inputs p.world s (λ q. K) (after_tasks (pair (federate_count d)) p) → K ⊎ FallsBy p s
  either K p s (fell r f) = inr (r, f)
  either K p s (still r same k) = inl k

  begin : (p : Playing) (s : Reached d programs inputs p.world) → Stage d programs inputs p.world s (λ q. Unit {0}) p
  begin p s = still s (same_itself d programs inputs p.world s) tt

  among_direction : (dir : Dir) → federate_of dir < federate_count d → IsAmong (makes (Resend dir) ∷ brings dir ∷ brings (back dir) ∷ []) (pair (federate_count d))
  among_direction (Up j) l = among_up (federate_count d) j l
  among_direction (Down j) l = among_down (federate_count d) j l

  pair_falls : (p : Playing) (s : Reached d programs inputs p.world) → AreWithin d p → IsStuck p.world ⊎ FallsBy p s
  pair_falls p s within =
      stuck_unless d programs inputs legal lawful small p.world s (FallsBy p s)
      (λ dir l taking. either (length (side_out dir s.links).end.kept ≡ 0) p s
      (settles d programs inputs lawful p.world s dir l taking (pair (federate_count d)) p (among_direction dir l) (pair_is (federate_count d)) within (begin p s)))
      (λ j l K shows. either K p s
      (shows_at d programs inputs lawful p.world s K (Announce j) refl shows (pair (federate_count d)) p (among_turn (federate_count d) j (makes (Announce j)) l (inl (refl, tt))) (pair_is (federate_count d)) (begin p s)))
      (λ j l K shows. either K p s
      (shows_at d programs inputs lawful p.world s K (Advance j) refl shows (pair (federate_count d)) p (among_turn (federate_count d) j (makes (Advance j)) l (inr (inl (refl, tt)))) (pair_is (federate_count d)) (begin p s)))

  -- tasks one after the other
  tasks_then : (tasks more : List Task) (p : Playing) → after_tasks (tasks ++ more) p ≡ after_tasks more (after_tasks tasks p)
  tasks_then [] more p = refl
  tasks_then (task ∷ tasks) more p = tasks_then tasks more (after_task task p)

  round_first : (count rounds : ℕ) (p : Playing) → after_closing_rounds count (suc rounds) p ≡ after_closing_rounds count rounds (after_tasks (closing_round_tasks count) p)
  round_first count zero p = refl
  round_first count (suc rounds) p =
      tasks_then (closing_rounds_tasks count (suc rounds)) (closing_round_tasks count) p ∙
      ap (after_tasks (closing_round_tasks count)) (round_first count rounds p) ∙
      sym (tasks_then (closing_rounds_tasks count rounds) (closing_round_tasks count) (after_tasks (closing_round_tasks count) p))

  two_first : (count rounds : ℕ) (p : Playing) → after_closing_rounds count (suc (suc rounds)) p ≡ after_closing_rounds count rounds (after_tasks (pair count) p)
  two_first count rounds p =
      round_first count (suc rounds) p ∙ round_first count rounds (after_tasks (closing_round_tasks count) p) ∙
      ap (after_closing_rounds count rounds) (sym (tasks_then (closing_round_tasks count) (closing_round_tasks count) p))

  ends : (most : ℕ) (p : Playing) (s : Reached d programs inputs p.world) → AreWithin d p → ahead d programs inputs p.world s ≤ most + acked d programs inputs p.world s → Ends d p most
  ends zero p s within left = elim (pair_falls p s within) [
    | inl stuck ↦ record { rounds = 0; few = omega arith; stuck = stuck }
    | inr f ↦ (let falls = f.1 in let some = acked_within d programs inputs legal lawful small (after_tasks (pair (federate_count d)) p).world f.0 in absurd (omega arith))
  ]
  ends (suc most) p s within left = elim (pair_falls p s within) [
    | inl stuck ↦ record { rounds = 0; few = omega arith; stuck = stuck }
    | inr f ↦
        let falls = f.1 in
        let later = ends most (after_tasks (pair (federate_count d)) p) f.0 (withins d programs inputs lawful p.world s (pair (federate_count d)) p (pair_is (federate_count d)) (begin p s) within) (omega arith) in
        let few = later.few in
        let P : Playing → Type 0 = λ q. IsStuck q.world in
        record { rounds = suc (suc later.rounds); few = omega arith; stuck = subst P (sym (two_first (federate_count d) later.rounds p)) later.stuck }
  ]

  pub closing_rounds_end : (steps : List Step) (p : Playing) → list_any is_forget steps ≡ false → p.world ≡ world_after d programs inputs steps → ((dir : Dir) → federate_of dir < length p.world.federates → cursor_in p.cursors dir ≤ length (frames_in p.world dir))
      → (rounds : ℕ) × (rounds ≤ 2 * fuel_of (network_of d programs inputs)) × IsStuck (after_closing_rounds (federate_count d) rounds p).world
  closing_rounds_end steps p none is within =
      let P : Federation → Type 0 = λ w. Reached d programs inputs w in
      let s : Reached d programs inputs p.world = subst P (sym is) (reached_steps d programs inputs lawful steps none) in
      let spent = s.spent in
      let size = s.run.shown.federates in
      let all = ends (fuel_of (network_of d programs inputs)) p s (λ dir below. within dir (omega arith)) (omega arith) in
      let few = all.few in
      (all.rounds, omega arith, all.stuck)
