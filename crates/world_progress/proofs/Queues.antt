-- What queues are worth, and what a turn that was made leaves.
use Rattle.std.proofs.Common.{◌≡◌, ℕ, suc, ◌+◌, ◌*◌, ◌-◌, ◌≤◌, List, [], ◌∷◌, ◌++◌, length, ap, ◌∙◌, arith}
use Rattle.std.proofs.Math.Nat.{mul-suc}
use Rattle.signal.specs.declared.signal.Signal.{Signal}
use Rattle.signal.specs.declared.signal.Signal.TheVariants.{Net, Ltc, Tag, Msg}
use Rattle.world_progress.specs.Worth.{worth_up, worth_down, all_worth}

pub worth-append : (worth : Signal → ℕ) (xs ys : List Signal) → all_worth worth (xs ++ ys) ≡ all_worth worth xs + all_worth worth ys
worth-append worth [] ys = omega arith
worth-append worth (x ∷ rest) ys = let more = worth-append worth rest ys in omega arith

-- no signal is worth less than 1, so a queue is worth its length at least
up_at_least : (signal : Signal) → 1 ≤ worth_up signal
up_at_least (Net tag) = omega arith
up_at_least (Ltc tag) = omega arith
up_at_least (Tag tag) = omega arith
up_at_least (Msg connection tag value) = omega arith

down_at_least : (signal : Signal) → 1 ≤ worth_down signal
down_at_least (Net tag) = omega arith
down_at_least (Ltc tag) = omega arith
down_at_least (Tag tag) = omega arith
down_at_least (Msg connection tag value) = omega arith

length_at_most : (worth : Signal → ℕ) → ((signal : Signal) → 1 ≤ worth signal) → (xs : List Signal) → length xs ≤ all_worth worth xs
length_at_most worth h [] = omega arith
length_at_most worth h (x ∷ rest) =
    let first = h x in
    let more = length_at_most worth h rest in
    omega arith

pub length_up : (xs : List Signal) → length xs ≤ all_worth worth_up xs
length_up xs = length_at_most worth_up up_at_least xs

pub length_down : (xs : List Signal) → length xs ≤ all_worth worth_down xs
length_down xs = length_at_most worth_down down_at_least xs

-- one more turn was made
pub one_less : (w all made : ℕ) → suc made ≤ all → w * (all - made) ≡ w * (all - suc made) + w
one_less w all made h =
    let is : all - made ≡ suc (all - suc made) = omega arith in
    ap (λ (x : ℕ). w * x) is ∙ mul-suc w (all - suc made)
