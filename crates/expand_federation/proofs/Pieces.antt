-- A text with its changes, made one after the other.
use Rattle.std.proofs.Common.{◌≡◌, ℕ, ◌+◌, ◌-◌, ◌<◌, ◌≤◌, List, [], ◌∷◌, ◌++◌, length, take, drop, get_or, refl, sym, ap, ◌∙◌, subst}
use Rattle.std.proofs.lemmas.List.{append_assoc, take_all, drop_all, drop_more}
use Rattle.expand_source.specs.Filling.{Appends}
use Rattle.expand_federation.specs.declared.change.Change.{Change}
use Rattle.expand_federation.specs.Changes.{IsAdded, IsChanged}

-- as many of the first, and what is behind them, where there are no more
pub all_of : (count : ℕ) (text : List ℕ) → length text ≤ count → text ≡ take count text
all_of count text few = sym (take_all count text few)

pub none_behind : (count : ℕ) (text : List ℕ) → length text ≤ count → [] ≡ drop count text
none_behind count text few = sym (drop_all count text few)

-- nothing is made yet
pub nothing_made : (text : List ℕ) (changes : List Change) (made rest : List ℕ) → made ≡ [] → IsChanged 0 text changes rest → IsChanged 0 text changes (made ++ rest)
nothing_made text changes made rest empty h = subst (λ new. IsChanged 0 text changes new) (ap (λ front. front ++ rest) (sym empty)) h

-- three texts, each behind what there was
three_added : (made a b kept added rest : List ℕ) → a ≡ made ++ kept → b ≡ a ++ added → b ++ rest ≡ made ++ (kept ++ (added ++ rest))
three_added made a b kept added rest p q =
    ap (λ x. x ++ rest) (q ∙ ap (λ x. x ++ added) p) ∙ append_assoc (made ++ kept) added rest ∙ append_assoc made kept (added ++ rest)

-- one more change is made
pub one_change_more : (text : List ℕ) (changes : List Change) (i : ℕ) (other : Change) (before : ℕ) (left kept behind made a b rest : List ℕ) → i < length changes
    → ((rest : List ℕ) → IsChanged before left (drop i changes) rest → IsChanged 0 text changes (made ++ rest))
    → kept ≡ take ((get_or changes i other).from - before) left → a ≡ made ++ kept
    → Appends a b (IsAdded (get_or changes i other).names.now (get_or changes i other).added) → behind ≡ drop ((get_or changes i other).to - before) left
    → IsChanged (get_or changes i other).to behind (drop (i + 1) changes) rest → IsChanged 0 text changes (b ++ rest)
one_change_more text changes i other before left kept behind made a b rest low so_far is_kept pushed added is_behind h =
    let change : Change = get_or changes i other in
    let more : List ℕ = kept ++ (added.0 ++ rest) in
    let here : IsChanged before left (change ∷ drop (i + 1) changes) more = (
      added.0,
      rest,
      ap (λ front. front ++ (added.0 ++ rest)) is_kept,
      added.2,
      subst (λ t. IsChanged change.to t (drop (i + 1) changes) rest) is_behind h,
    ) in
    let all : IsChanged 0 text changes (made ++ more) = so_far more (subst (λ cs. IsChanged before left cs more) (sym (drop_more changes i other low)) here) in
    subst (λ new. IsChanged 0 text changes new) (sym (three_added made a b kept added.0 rest pushed added.1)) all

-- all changes are made
pub all_changed : (text : List ℕ) (changes : List Change) (i before : ℕ) (left made new : List ℕ) → length changes ≤ i
    → ((rest : List ℕ) → IsChanged before left (drop i changes) rest → IsChanged 0 text changes (made ++ rest)) → new ≡ made ++ left → IsChanged 0 text changes new
all_changed text changes i before left made new all so_far pushed =
    let ended : IsChanged before left (drop i changes) left = subst (λ cs. IsChanged before left cs left) (sym (drop_all i changes all)) refl in
    subst (λ t. IsChanged 0 text changes t) (sym pushed) (so_far left ended)
