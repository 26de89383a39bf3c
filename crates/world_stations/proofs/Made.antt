-- Small steps as the steps that they are, and steps that are read one after the other.
use Rattle.std.proofs.Common.{◌≡◌, ◌+◌, ◌≤◌, ℕ, zero, suc, Bool, List, [], ◌∷◌, ◌++◌, ◌||◌, map, take, drop, slice_get, refl, arith, Some, None}
use Rattle.std.specs.List.{list_any}
use Rattle.world_stations.specs.declared.step.Step.{Step}
use Rattle.world_stations.specs.declared.made_steps.SmallStep.{SmallStep}
use Rattle.world_stations.specs.MadeSteps.{shown}

-- one of all passes a test, or one of the small ones or of the others
pub any_of_both : (p : Step → Bool) (small : List SmallStep) (rest : List Step) → list_any p (map shown small ++ rest) ≡ (list_any (λ s. p (shown s)) small || list_any p rest)
any_of_both p [] rest = refl
any_of_both p (s ∷ small) rest = let more = any_of_both p small rest in grind (arith, more)

-- those up to a place, and the one that stands there
pub one_more : (xs : List Step) (before place : ℕ) (x : Step) → before ≤ place → slice_get xs place ≡ Some x → drop before (take place xs) ++ x ∷ [] ≡ drop before (take (place + 1) xs)
one_more [] before place x _ there = grind (arith, there)
one_more (y ∷ xs) zero zero x _ there = grind (arith, there)
one_more (y ∷ xs) zero (suc place) x l there = let more = one_more xs zero place x (omega arith) there in grind (arith, more)
one_more (y ∷ xs) (suc before) zero x l there = absurd (omega (arith, l))
one_more (y ∷ xs) (suc before) (suc place) x l there = let more = one_more xs before place x (omega (arith, l)) there in grind (arith, more)

-- where none stands, there are no more
pub no_more : (xs : List Step) (place : ℕ) → slice_get xs place ≡ None → take place xs ≡ take (place + 1) xs
no_more [] zero there = refl
no_more [] (suc place) there = grind arith
no_more (y ∷ xs) zero there = grind (arith, there)
no_more (y ∷ xs) (suc place) there = let more = no_more xs place there in grind (arith, more)
