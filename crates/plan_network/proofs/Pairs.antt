-- What holds of each item of a list and each later one holds of lists that are made of it.
use Rattle.std.proofs.Common.{◌≡◌, List, [], ◌∷◌, ◌++◌, map, get_or, refl, Option, None, Some}
use Rattle.std.specs.Prelude.{All, AllPairs}
use Rattle.std.specs.List.{filter_map, cons_option}
use Rattle.std.proofs.lemmas.List.Elements.{All-head, All-tail, All-append, All-map}
use Rattle.std.proofs.lemmas.List.Kept.{AllPairs-cons}
use Rattle.network.proofs.Items.{All-filter_map, no_pairs, first_pair, later_pairs}

-- each item of one list with each of another
pub across : {X : Type 0} (P Q : X → Type 0) (R : X → X → Type 0) (xs ys : List X)
    → ((x y : X) → P x → Q y → R x y) → All P xs → All Q ys → All (λ x. All (R x) ys) xs
across P Q R xs ys each left right k d within j e inside = each (get_or xs k d) (get_or ys j e) (left k d within) (right j e inside)

-- ---- each item with each later one

pub AllPairs-append : {X : Type 0} (R : X → X → Type 0) (xs ys : List X)
    → AllPairs R xs → AllPairs R ys → All (λ x. All (R x) ys) xs → AllPairs R (xs ++ ys)
AllPairs-append R [] ys first second between = second
AllPairs-append R (x ∷ xs) ys first second between =
    AllPairs-cons R x (xs ++ ys)
    (All-append (R x) xs ys (first_pair R x xs first) (All-head (λ z. All (R z) ys) x xs between))
    (AllPairs-append R xs ys (later_pairs R x xs first) second (All-tail (λ z. All (R z) ys) x xs between))

pub AllPairs-map : {X Y : Type 0} (R : X → X → Type 0) (S : Y → Y → Type 0) (f : X → Y) (xs : List X)
    → ((a b : X) → R a b → S (f a) (f b)) → AllPairs R xs → AllPairs S (map f xs)
AllPairs-map R S f [] each apart = no_pairs S
AllPairs-map R S f (x ∷ xs) each apart =
    AllPairs-cons S (f x) (map f xs)
    (All-map (S (f x)) f xs (λ k d within. each x (get_or xs k d) (first_pair R x xs apart k d within)))
    (AllPairs-map R S f xs each (later_pairs R x xs apart))

pub AllPairs-filter_map : {X Y : Type 0} (R : X → X → Type 0) (S : Y → Y → Type 0) (h : X → Option Y) (xs : List X)
    → ((a b : X) (y z : Y) → R a b → h a ≡ Some y → h b ≡ Some z → S y z) → AllPairs R xs → AllPairs S (filter_map h xs)
AllPairs-filter_map R S h [] each apart = no_pairs S
AllPairs-filter_map {Y = Y} R S h (x ∷ xs) each apart =
    onto (h x) refl (AllPairs-filter_map R S h xs each (later_pairs R x xs apart))
  where
    onto : (o : Option Y) → h x ≡ o → AllPairs S (filter_map h xs) → AllPairs S (cons_option o (filter_map h xs))
    onto None is rest = rest
    onto (Some y) is rest =
        AllPairs-cons S y (filter_map h xs)
        (All-filter_map (R x) (S y) h xs (λ b z apart_b b_is. each x b y z apart_b is b_is) (first_pair R x xs apart))
        rest
