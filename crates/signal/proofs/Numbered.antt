-- Signals as numbered frames: one more at the end, and some fewer in front.
use Rattle.std.proofs.Common.{◌≡◌, ℕ, zero, suc, ◌+◌, List, [], ◌∷◌, ◌++◌, length, map, drop, arith, refl, ap}
use Rattle.signal.specs.declared.signal.Signal.{Signal}
use Rattle.signal.specs.declared.frame.Frame.TheVariants.{Data}
use Rattle.signal.specs.Batch.{numbered}

-- one more signal, read by `v`, is one more frame
pub numbered-push : {X : Type 0} (v : X → Signal) (incarnation first : ℕ) (xs : List X) (x : X) (n : ℕ) → n ≡ first + length xs →
    numbered incarnation first (map v (xs ++ x ∷ [])) ≡ numbered incarnation first (map v xs) ++ Data incarnation n (v x) ∷ []
numbered-push v incarnation first [] x n e = grind arith
numbered-push v incarnation first (y ∷ xs) x n e =
    ap (λ fs. Data incarnation first (v y) ∷ fs) (numbered-push v incarnation (first + 1) xs x n (omega arith))

-- there are as many frames as signals
pub length-numbered : (incarnation first : ℕ) (xs : List Signal) → length (numbered incarnation first xs) ≡ length xs
length-numbered incarnation first [] = refl
length-numbered incarnation first (x ∷ xs) = ap suc (length-numbered incarnation (first + 1) xs)

-- what is left of numbered signals is numbered from where it begins
pub drop-numbered : (incarnation first k n : ℕ) (xs : List Signal) → n ≡ first + k →
    drop k (numbered incarnation first xs) ≡ numbered incarnation n (drop k xs)
drop-numbered incarnation first zero n xs e = let same : first ≡ n = omega arith in ap (λ m. numbered incarnation m xs) same
drop-numbered incarnation first (suc k) n [] e = refl
drop-numbered incarnation first (suc k) n (x ∷ xs) e = drop-numbered incarnation (first + 1) k n xs (omega arith)

pub ruleset lengths = (length-numbered)
