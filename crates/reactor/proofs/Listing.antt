-- What is listed of a function, one place more at the end.
use Rattle.std.proofs.Common.{◌≡◌, ℕ, zero, suc, ◌+◌, ◌<◌, ℤ, List, [], ◌∷◌, ◌++◌, length, get_or, Option, None, Some, refl, ap, ◌∙◌, append_assoc, append-nil, add-zero, add-one, zero-add, arith}
use Rattle.std.specs.Option.{option_and_then}
use Rattle.std.proofs.lemmas.Option.{slice_get-get_or}
use Rattle.network.specs.Event.{entry_at, listed_from, listed}
use Rattle.reactor.specs.Entries.{value_in}

pub listed_from-more :
    (first count : ℕ) (f : ℕ → Option ℤ) → listed_from first (suc count) f ≡ listed_from first count f ++ entry_at (first + count) (f (first + count))
listed_from-more first zero f = rw (add-zero first, append-nil (entry_at first (f first))) refl
listed_from-more first (suc count) f =
    let moved : first + suc count ≡ first + 1 + count = omega arith in
    rw (moved, append_assoc) (ap (λ rest. entry_at first (f first) ++ rest) (listed_from-more (first + 1) count f))

listed_at :
    (values : List (Option ℤ)) (i : ℕ) (d : Option ℤ) → i < length values →
    listed (i + 1) (value_in values) ≡ listed i (value_in values) ++ entry_at i (get_or values i d)
listed_at values i d h =
    let there : value_in values i ≡ get_or values i d = ap (λ found. option_and_then (λ value. value) found) (slice_get-get_or values i d h) in
    rw (add-one i, listed_from-more 0 i (value_in values), zero-add i, there) refl

pub listed_some :
    (values : List (Option ℤ)) (i : ℕ) (d : Option ℤ) (x : ℤ) → i < length values → get_or values i d ≡ Some x →
    listed (i + 1) (value_in values) ≡ listed i (value_in values) ++ record { place = i; value = x } ∷ []
listed_some values i d x h there = listed_at values i d h ∙ ap (λ value. listed i (value_in values) ++ entry_at i value) there

pub listed_none :
    (values : List (Option ℤ)) (i : ℕ) (d : Option ℤ) → i < length values → get_or values i d ≡ None →
    listed (i + 1) (value_in values) ≡ listed i (value_in values)
listed_none values i d h there =
    listed_at values i d h ∙ ap (λ value. listed i (value_in values) ++ entry_at i value) there ∙ append-nil (listed i (value_in values))
