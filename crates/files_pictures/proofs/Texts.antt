-- Texts that are written one after the other.
use Rattle.std.proofs.Common.{◌≡◌, ℕ, ◌+◌, ◌<◌, List, [], ◌∷◌, ◌++◌, length, take, get_or, sym, ap, subst, ◌∙◌, Option}
use Rattle.std.specs.Io.KnownBytes.{Appends}
use Rattle.std.specs.List.{flat_map}
use Rattle.std.proofs.KnownBytes.{Appends-trans}
use Rattle.std.proofs.lemmas.Grind.{flat_map-append}
use Rattle.std.proofs.lemmas.List.{append-nil, take_more}

-- one more after the others
pub pushed_more : {A : Type 0} (text : A → List ℕ) (items : List A) (item : A) (a b c : Option (List ℕ)) →
    Appends a b (flat_map text items) → Appends b c (text item) → Appends a c (flat_map text (items ++ item ∷ []))
pushed_more text items item a b c so_far more =
    let all : flat_map text (items ++ item ∷ []) ≡ flat_map text items ++ text item =
    flat_map-append text items (item ∷ []) ∙ ap (λ t. flat_map text items ++ t) (append-nil (text item)) in
    subst (Appends a c) (sym all) (Appends-trans a b c _ _ so_far more)

-- one more of these, by its place
pub one_more : {A : Type 0} (text : A → List ℕ) (items : List A) (i : ℕ) (other : A) (a b c : Option (List ℕ)) → i < length items →
    Appends a b (flat_map text (take i items)) → Appends b c (text (get_or items i other)) → Appends a c (flat_map text (take (i + 1) items))
one_more {A} text items i other a b c there so_far more =
    subst (λ (some : List A). Appends a c (flat_map text some)) (sym (take_more items i other there))
    (pushed_more text (take i items) (get_or items i other) a b c so_far more)

-- the same, where it has a name
pub next_more : {A : Type 0} (text : A → List ℕ) (items : List A) (i : ℕ) (item : A) (a b c : Option (List ℕ)) → i < length items → item ≡ get_or items i item →
    Appends a b (flat_map text (take i items)) → Appends b c (text item) → Appends a c (flat_map text (take (i + 1) items))
next_more {A} text items i item a b c there is so_far more =
    one_more text items i item a b c there so_far (subst (λ (x : A). Appends b c (text x)) is more)
