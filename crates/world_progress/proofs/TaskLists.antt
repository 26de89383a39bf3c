-- What a player is to do, one thing after the other.
use Rattle.std.proofs.Common.{◌≡◌, ℕ, zero, suc, ◌+◌, ◌<◌, inl, inr, List, [], ◌∷◌, ◌++◌, map, refl, sym, ap, ◌∙◌, append_assoc, append-nil, arith}
use Rattle.std.specs.List.{range_with_len}
use Rattle.std.proofs.lemmas.List.{map-append}
use Rattle.std.proofs.lemmas.Bool.{cases_lt}
use Rattle.node_cores.specs.FederateCore.{federate_core}
use Rattle.node_cores.specs.CoordinatorCore.{coordinator_core}
use Rattle.world_stations.specs.declared.dir.Dir.{Dir}
use Rattle.world_stations.specs.declared.step.Step.{Step}
use Rattle.world_stations.specs.declared.step.Step.TheVariants.{Deliver}
use Rattle.world_stations.specs.World.{after_steps}
use Rattle.world_stations.specs.Federation.{Federation, step_in}
use Rattle.world_progress.specs.Rounds.{Playing, Task, makes, brings, skips, delivers, steps_of_task, after_task, steps_of_tasks, after_tasks, for_each}

-- the world after these steps from another
abbrev after : Federation → List Step → Federation
after w steps = after_steps coordinator_core federate_core w steps

-- steps, and then further ones
pub world_after_append : (w : Federation) (first then : List Step) → after w (first ++ then) ≡ after (after w first) then
world_after_append w [] then = refl
world_after_append w (step ∷ rest) then = world_after_append (step_in w step).world rest then

-- tasks, and then further ones
pub steps_append : (xs ys : List Task) (p : Playing) → steps_of_tasks (xs ++ ys) p ≡ steps_of_tasks xs p ++ steps_of_tasks ys (after_tasks xs p)
steps_append [] ys p = refl
steps_append (task ∷ xs) ys p =
    let next : Playing = after_task task p in
    ap (λ more. steps_of_task task p ++ more) (steps_append xs ys next)
    ∙ sym (append_assoc (steps_of_task task p) (steps_of_tasks xs next) (steps_of_tasks ys (after_tasks xs next)))

pub after_append : (xs ys : List Task) (p : Playing) → after_tasks (xs ++ ys) p ≡ after_tasks ys (after_tasks xs p)
after_append [] ys p = refl
after_append (task ∷ xs) ys p = after_append xs ys (after_task task p)

-- the world after tasks is the one after their steps
world_after_task : (task : Task) (p : Playing) → (after_task task p).world ≡ after p.world (steps_of_task task p)
world_after_task (makes step) p = refl
world_after_task (brings dir) p = refl
world_after_task (skips dir) p = refl

pub world_after_tasks : (tasks : List Task) (p : Playing) → (after_tasks tasks p).world ≡ after p.world (steps_of_tasks tasks p)
world_after_tasks [] p = refl
world_after_tasks (task ∷ rest) p =
    world_after_tasks rest (after_task task p) ∙ ap (λ w. after w (steps_of_tasks rest (after_task task p))) (world_after_task task p)
    ∙ sym (world_after_append p.world (steps_of_task task p) (steps_of_tasks rest (after_task task p)))

-- what is to be done for a number stands behind what is to be done for those below it
pub record Parts (tasks : ℕ → List Task) (k count : ℕ) : Type 0 where
  pub later : List Task
  pub are : for_each tasks count ≡ (for_each tasks k ++ tasks k) ++ later

pub each_parts : (tasks : ℕ → List Task) (k count : ℕ) → k < count → Parts tasks k count
each_parts tasks k zero below = absurd (omega arith)
each_parts tasks k (suc count) below =
    elim (cases_lt k count) [
      | inl less ↦
          let before : Parts tasks k count = each_parts tasks k count less in
          record {
            later = before.later ++ tasks count;
            are = ap (λ done. done ++ tasks count) before.are ∙ append_assoc (for_each tasks k ++ tasks k) before.later (tasks count);
          }
      | inr more ↦
          let last : k ≡ count = omega arith in
          record { later = []; are = ap (λ n. for_each tasks n ++ tasks n) (sym last) ∙ sym (append-nil (for_each tasks k ++ tasks k)) }
    ]

-- a range, and then the numbers behind it
range_append : (a m n : ℕ) → range_with_len a (m + n) ≡ range_with_len a m ++ range_with_len (a + m) n
range_append a zero n =
    let none : 0 + n ≡ n = omega arith in
    let same : a + 0 ≡ a = omega arith in
    ap (λ count. range_with_len a count) none ∙ ap (λ from. range_with_len from n) (sym same)
range_append a (suc m) n =
    let count : suc m + n ≡ suc (m + n) = omega arith in
    let from : (a + 1) + m ≡ a + suc m = omega arith in
    ap (λ k. range_with_len a k) count ∙ ap (λ rest. a ∷ rest) (range_append (a + 1) m n)
    ∙ ap (λ k. (a ∷ range_with_len (a + 1) m) ++ range_with_len k n) from

-- frames of a direction, and then those after them
pub delivers_append : (dir : Dir) (gone m n : ℕ) → delivers dir gone (m + n) ≡ delivers dir gone m ++ delivers dir (gone + m) n
delivers_append dir gone m n =
    let deliver : ℕ → Step = λ before. Deliver dir (before + 1) in
    ap (map deliver) (range_append gone m n) ∙ map-append deliver (range_with_len gone m) (range_with_len (gone + m) n)
