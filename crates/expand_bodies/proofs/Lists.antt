-- Lists that are made one element after another.
use Rattle.std.proofs.Common.{◌≡◌, ℕ, zero, suc, ◌+◌, ◌<◌, List, [], ◌∷◌, ◌++◌, length, map, take, get_or, sym, ap, ◌∙◌, subst, arith, add-one}
use Rattle.std.proofs.lemmas.List.{map_more, append_assoc}
use Rattle.reactor_program.specs.declared.program.Operand.TheVariants.{State}
use Rattle.expand_expressions.specs.declared.known.NamedOperand.{NamedOperand}
use Rattle.expand_bodies.specs.Reading.{states_named}

-- what is made of each, behind some
pub made_more : {X Y : Type 0} (f : X → Y) (before old new : List Y) (xs : List X) (i : ℕ) (x : X) (y : Y) → i < length xs → x ≡ get_or xs i x → new ≡ old ++ y ∷ [] → y ≡ f x → old ≡ before ++ map f (take i xs) →
    new ≡ before ++ map f (take (i + 1) xs)
made_more f before old new xs i x y below is pushed made so_far =
    pushed ∙ ap (λ ys. ys ++ y ∷ []) so_far ∙ append_assoc before (map f (take i xs)) (y ∷ [])
    ∙ ap (λ ys. before ++ ys) (ap (λ z. map f (take i xs) ++ z ∷ []) (made ∙ ap f is) ∙ sym (map_more f xs i x below))

states_step : (number i : ℕ) (xs : List (List ℕ)) (x : List ℕ) → i < length xs → x ≡ get_or xs i x →
    states_named number (take (suc i) xs) ≡ states_named number (take i xs) ++ record { name = x; operand = State (number + i) } ∷ []
states_step number i [] x below is = absurd (omega (arith, below))
states_step number zero (y ∷ ys) x below is =
    let same : number ≡ number + 0 = omega arith in
    ap (λ n. record { name = y; operand = State n } ∷ []) same ∙ ap (λ name. record { name = name; operand = State (number + 0) } ∷ []) (sym is)
states_step number (suc i) (y ∷ ys) x below is =
    let inner : i < length ys = omega (arith, below) in
    let same : number + 1 + i ≡ number + suc i = omega arith in
    ap (λ rest. record { name = y; operand = State number } ∷ rest) (states_step (number + 1) i ys x inner is
    ∙ ap (λ n. states_named (number + 1) (take i ys) ++ record { name = x; operand = State n } ∷ []) same)

-- one more state
pub states_more : (i : ℕ) (xs : List (List ℕ)) (x name : List ℕ) (old new : List NamedOperand) → i < length xs → x ≡ get_or xs i x → name ≡ x → new ≡ old ++ record { name = name; operand = State i } ∷ [] → old ≡ states_named 0 (take i xs) →
    new ≡ states_named 0 (take (i + 1) xs)
states_more i xs x name old new below is same pushed so_far =
    let number : i ≡ 0 + i = omega arith in
    pushed ∙ ap (λ items. items ++ record { name = name; operand = State i } ∷ []) so_far ∙ ap (λ n. states_named 0 (take i xs) ++ record { name = n; operand = State i } ∷ []) same
    ∙ ap (λ n. states_named 0 (take i xs) ++ record { name = x; operand = State n } ∷ []) number
    ∙ rw add-one (sym (states_step 0 i xs x below is))

-- the same of a slice of the names
pub states_more_of : (i : ℕ) (xs items : List (List ℕ)) (x name : List ℕ) (old new : List NamedOperand) → items ≡ xs → i < length items → x ≡ get_or items i x → name ≡ x → new ≡ old ++ record { name = name; operand = State i } ∷ [] →
    old ≡ states_named 0 (take i xs) → new ≡ states_named 0 (take (i + 1) xs)
states_more_of i xs items x name old new items_are below is same pushed so_far =
    states_more i xs x name old new (subst (λ items. i < length items) items_are below) (subst (λ items. x ≡ get_or items i x) items_are is) same pushed so_far
