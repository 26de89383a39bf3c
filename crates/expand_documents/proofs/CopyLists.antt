-- Copies of an entry, and what is made of entries, one after another.
use Rattle.std.proofs.Common.{◌≡◌, ℕ, suc, ◌+◌, ◌<◌, ◌≤◌, List, [], ◌∷◌, ◌++◌, length, map, take, drop, get_or, refl, sym, ap, ◌∙◌, subst, arith}
use Rattle.std.specs.List.{IsSplitAt}
use Rattle.std.proofs.lemmas.List.{take_all, take-append-drop, map-append, append_assoc, append-nil}
use Rattle.toml.specs.Data.{Data}
use Rattle.toml.specs.View.{view}
use Rattle.toml.specs.declared.value.Value.{Value}
use Rattle.loadfed_tables.proofs.KeyReadings.{views_more}
use Rattle.expand_documents.specs.Documents.{AreCopies, AreMadeOf, BeginsWith}

pub one_copy_more : (Is : ℕ → Data → Type 0) (made : List Value) (k : ℕ) (copy : Value) → k < length made → copy ≡ get_or made k copy → AreCopies Is k (map view (take k made)) → Is k (view copy)
    → AreCopies Is (k + 1) (map view (take (k + 1) made))
one_copy_more Is made k copy low is so_far this =
    let whole : AreCopies Is (suc k) (map view (take (k + 1) made)) = (map view (take k made), view copy, views_more made k copy low is, so_far, this) in
    let next : suc k ≡ k + 1 = omega arith in
    subst (λ n. AreCopies Is n (map view (take (k + 1) made))) next whole

pub all_copies : (Is : ℕ → Data → Type 0) (made : List Value) (k count : ℕ) → k ≡ count → length made ≤ k → AreCopies Is k (map view (take k made)) → AreCopies Is count (map view made)
all_copies Is made k count counted all h =
    let same : take k made ≡ made = take_all k made all in
    subst (λ n. AreCopies Is n (map view made)) counted (rw same at h)

made_behind : (Of : Data → List Data → Type 0) (entries done own : List Data) (entry : Data) → AreMadeOf Of entries done → Of entry own → AreMadeOf Of (entries ++ entry ∷ []) (done ++ own)
made_behind Of [] done own entry h k = (own, [], ap (λ x. x ++ own) h ∙ sym (append-nil own), k, refl)
made_behind Of (first ∷ entries) done own entry h k =
    (h.0, h.1 ++ own, ap (λ x. x ++ own) h.2 ∙ append_assoc h.0 h.1 own, h.3, made_behind Of entries h.1 own entry h.4 k)

-- what was made of the first entries stands in front of what is left
abbrev pub IsMadeUpTo : (Data → List Data → Type 0) → List Value → ℕ → List Data → List Data → Type 0
IsMadeUpTo Of entries i made rest = (done : List Data) × (made ≡ done ++ rest) × AreMadeOf Of (map view (take i entries)) done

pub none_made : (Of : Data → List Data → Type 0) (entries : List Value) (made rest : List Data) → rest ≡ made → IsMadeUpTo Of entries 0 made rest
none_made Of entries made rest same = ([], sym same, refl)

pub one_entry_made : (Of : Data → List Data → Type 0) (entries : List Value) (i : ℕ) (entry : Value) (made now new : List Data) → i < length entries → entry ≡ get_or entries i entry
    → IsMadeUpTo Of entries i made now → BeginsWith (Of (view entry)) now new → IsMadeUpTo Of entries (i + 1) made new
one_entry_made Of entries i entry made now new low is so_far this =
    let whole : AreMadeOf Of (map view (take i entries) ++ view entry ∷ []) (so_far.0 ++ this.0) =
    made_behind Of (map view (take i entries)) so_far.0 this.0 (view entry) so_far.2 this.2 in (
      so_far.0 ++ this.0,
      so_far.1 ∙ ap (λ x. so_far.0 ++ x) this.1 ∙ sym (append_assoc so_far.0 this.0 new),
      rw (views_more entries i entry low is) whole,
    )

nothing_left : (values : List Value) → length values ≡ 0 → map view values ≡ []
nothing_left [] h = refl
nothing_left (value ∷ values) h = absurd (omega (arith, h))

pub all_made : (Of : Data → List Data → Type 0) (entries : List Value) (i : ℕ) (made : List Data) (rest : List Value) → length entries ≤ i → length rest ≡ 0 → IsMadeUpTo Of entries i made (map view rest)
    → AreMadeOf Of (map view entries) made
all_made Of entries i made rest all none so_far =
    let same : take i entries ≡ entries = take_all i entries all in
    let is : made ≡ so_far.0 = so_far.1 ∙ ap (λ x. so_far.0 ++ x) (nothing_left rest none) ∙ append-nil so_far.0 in
    let h : AreMadeOf Of (map view entries) so_far.0 = rw same at so_far.2 in
    subst (λ m. AreMadeOf Of (map view entries) m) (sym is) h

-- what stands in front, of a list that is parted
pub parted : (Is : List Data → Type 0) (made own rest : List Value) (count : ℕ) → IsSplitAt made count own rest → Is (map view own) → BeginsWith Is (map view made) (map view rest)
parted Is made own rest count split h =
    let is : made ≡ own ++ rest =
    sym (take-append-drop count made) ∙ ap (λ x. x ++ drop count made) (sym split.1) ∙ ap (λ x. own ++ x) (sym split.2) in
    (map view own, ap (map view) is ∙ map-append view own rest, h)
