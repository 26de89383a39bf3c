-- Lists, element by element: what holds of each, and what a filter keeps.
pub use Rattle.network.proofs.Items.{each, from_each}
use Rattle.std.proofs.Common.{◌≡◌, suc, List, [], ◌∷◌, ◌++◌, Bool, true, false, cond, refl, ap, ◌∙◌, arith, All, ◌⊎◌, inl, inr}
use Rattle.std.specs.List.{AllByRecursion, filter}

-- the element is one of these
abbrev pub Among : {X : Type 0} → X → List X → Type 0
Among x [] = ⊥
Among x (y ∷ ys) = (y ≡ x) ⊎ Among x ys

pub each_more : {X : Type 0} (P Q : X → Type 0) → ((x : X) → P x → Q x) → (xs : List X) → AllByRecursion P xs → AllByRecursion Q xs
each_more P Q f [] a = tt
each_more P Q f (x ∷ xs) a = (f x a.0, each_more P Q f xs a.1)

pub each_append : {X : Type 0} (P : X → Type 0) (xs ys : List X) → AllByRecursion P xs → AllByRecursion P ys → AllByRecursion P (xs ++ ys)
each_append P [] ys a b = b
each_append P (x ∷ xs) ys a b = (a.0, each_append P xs ys a.1 b)

pub each_among : {X : Type 0} (P : X → Type 0) (x : X) (xs : List X) → AllByRecursion P xs → Among x xs → P x
each_among P x [] a m = absurd m
each_among P x (y ∷ ys) a m = elim m [ inl e ↦ rw (← e) a.0 | inr r ↦ each_among P x ys a.1 r ]

kept_or_not : {X : Type 0} (Q : X → Type 0) (x : X) (ys : List X) (b : Bool) → (b ≡ true → Q x) → AllByRecursion Q ys → AllByRecursion Q (cond b (x ∷ ys) ys)
kept_or_not Q x ys true f a = (f refl, a)
kept_or_not Q x ys false f a = a

-- after a filter each passes, and what held of each holds
pub each_filter : {X : Type 0} (P Q : X → Type 0) (p : X → Bool) → ((x : X) → p x ≡ true → P x → Q x) → (xs : List X) → AllByRecursion P xs → AllByRecursion Q (filter p xs)
each_filter P Q p f [] a = tt
each_filter P Q p f (x ∷ xs) a = kept_or_not Q x (filter p xs) (p x) (λ e. f x e a.0) (each_filter P Q p f xs a.1)

pub each_both : {X : Type 0} (P Q : X → Type 0) (xs : List X) → AllByRecursion P xs → AllByRecursion Q xs → AllByRecursion (λ x. P x × Q x) xs
each_both P Q [] a b = tt
each_both P Q (x ∷ xs) a b = ((a.0, b.0), each_both P Q xs a.1 b.1)

pub each_of_none : {X : Type 0} (P : X → Type 0) (xs : List X) → xs ≡ [] → AllByRecursion P xs
each_of_none P xs e = rw e tt

pub none_kept : {X : Type 0} (p : X → Bool) (xs : List X) → AllByRecursion (λ x. p x ≡ false) xs → filter p xs ≡ []
none_kept p [] a = refl
none_kept p (x ∷ xs) a = rw a.0 (none_kept p xs a.1)

among_step : {X : Type 0} (p : X → Bool) (x y : X) (ys : List X) (b : Bool) → p y ≡ b → p x ≡ true → (y ≡ x) ⊎ Among x ys → (Among x ys → Among x (filter p ys)) → Among x (cond b (y ∷ filter p ys) (filter p ys))
among_step p x y ys true e h m f = elim m [ inl q ↦ inl q | inr q ↦ inr (f q) ]
among_step p x y ys false e h m f = elim m [ inl q ↦ (let other : p y ≡ true = ap p q ∙ h in cc) | inr q ↦ f q ]

pub among_filter : {X : Type 0} (p : X → Bool) (x : X) (xs : List X) → p x ≡ true → Among x xs → Among x (filter p xs)
among_filter p x [] h m = m
among_filter p x (y ∷ ys) h m = among_step p x y ys (p y) refl h m (among_filter p x ys h)

twice_step : {X : Type 0} (p r : X → Bool) (y : X) (ys : List X) (a b : Bool) → p y ≡ a → r y ≡ b → (a ≡ true → b ≡ true) → filter p (filter r ys) ≡ filter p ys → filter p (cond b (y ∷ filter r ys) (filter r ys)) ≡ cond a (y ∷ filter p ys) (filter p ys)
twice_step p r y ys true true e f h k = rw e (ap (λ l. y ∷ l) k)
twice_step p r y ys true false e f h k = let no = h refl in cc
twice_step p r y ys false true e f h k = rw e k
twice_step p r y ys false false e f h k = k

-- a filter that keeps all that another keeps can go first
pub filter_twice : {X : Type 0} (p r : X → Bool) → ((x : X) → p x ≡ true → r x ≡ true) → (xs : List X) → filter p (filter r xs) ≡ filter p xs
filter_twice p r h [] = refl
filter_twice p r h (y ∷ ys) = twice_step p r y ys (p y) (r y) refl refl (h y) (filter_twice p r h ys)

pub all_among : {X : Type 0} (xs : List X) → AllByRecursion (λ x. Among x xs) xs
all_among [] = tt
all_among (x ∷ xs) = (inl refl, each_more (λ y. Among y xs) (λ y. Among y (x ∷ xs)) (λ y m. inr m) xs (all_among xs))
