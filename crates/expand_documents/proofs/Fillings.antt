-- Items and members that are filled, one after another.
use Rattle.std.proofs.Common.{◌≡◌, ℕ, ◌+◌, ◌<◌, ◌≤◌, List, [], ◌∷◌, ◌++◌, length, map, take, get_or, refl, sym, ap, ◌∙◌, subst}
use Rattle.std.proofs.lemmas.List.{take_more, take_all}
use Rattle.expand_expressions.specs.declared.known.NamedOperand.{NamedOperand}
use Rattle.toml.specs.Data.{Data, no_items, item, no_members, member}
use Rattle.toml.specs.View.{view, items_of}
use Rattle.toml.specs.declared.value.Value.{Value}
use Rattle.loadfed_tables.proofs.KeyReadings.{views_more}
use Rattle.expand_documents.specs.declared.entries.Entry.{Entry}
use Rattle.expand_documents.specs.Entries.{members_of_entries}
use Rattle.expand_documents.specs.Filled.{IsValueFilled, AreItemsFilled, AreMembersFilled}

items_behind : (names : List NamedOperand) (values mades : List Data) (value made : Data) → AreItemsFilled names (items_of values) (items_of mades) → IsValueFilled names value made
    → AreItemsFilled names (items_of (values ++ value ∷ [])) (items_of (mades ++ made ∷ []))
items_behind names [] [] value made h k = (made, no_items, k, refl, refl)
items_behind names [] (other ∷ mades) value made h k = absurd (let clash : ⊥ = cc in clash)
items_behind names (first ∷ values) [] value made h k =
    let is : no_items ≡ item h.0 h.1 = h.4 in
    let clash : ⊥ = cc in
    absurd clash
items_behind names (first ∷ values) (other ∷ mades) value made h k =
    let is : item other (items_of mades) ≡ item h.0 h.1 = h.4 in
    let head : other ≡ h.0 = cc in
    let tail : items_of mades ≡ h.1 = cc in
    let here : IsValueFilled names first other = subst (λ d. IsValueFilled names first d) (sym head) h.2 in
    let more : AreItemsFilled names (items_of values) (items_of mades) = subst (λ ds. AreItemsFilled names (items_of values) ds) (sym tail) h.3 in
    (other, items_of (mades ++ made ∷ []), here, items_behind names values mades value made more k, refl)

pub no_items_filled : (names : List NamedOperand) → AreItemsFilled names no_items no_items
no_items_filled names = refl

pub one_item_more : (names : List NamedOperand) (values mades : List Value) (i : ℕ) (value made : Value) → i < length values → value ≡ get_or values i value
    → i < length mades → made ≡ get_or mades i made → AreItemsFilled names (items_of (map view (take i values))) (items_of (map view (take i mades)))
    → IsValueFilled names (view value) (view made) → AreItemsFilled names (items_of (map view (take (i + 1) values))) (items_of (map view (take (i + 1) mades)))
one_item_more names values mades i value made low is low_made is_made so_far this =
    rw (views_more values i value low is, views_more mades i made low_made is_made)
    (items_behind names (map view (take i values)) (map view (take i mades)) (view value) (view made) so_far this)

pub all_items : (names : List NamedOperand) (values mades : List Value) (i : ℕ) → length values ≤ i → length mades ≤ i
    → AreItemsFilled names (items_of (map view (take i values))) (items_of (map view (take i mades))) → AreItemsFilled names (items_of (map view values)) (items_of (map view mades))
all_items names values mades i all all_made h =
    let values_all : take i values ≡ values = take_all i values all in
    let mades_all : take i mades ≡ mades = take_all i mades all_made in
    rw (values_all, mades_all) at h

members_behind : (names : List NamedOperand) (entries mades : List Entry) (entry made : Entry) → AreMembersFilled names (members_of_entries entries) (members_of_entries mades)
    → entry.key.now ≡ made.key.now → IsValueFilled names (view entry.value.now) (view made.value.now)
    → AreMembersFilled names (members_of_entries (entries ++ entry ∷ [])) (members_of_entries (mades ++ made ∷ []))
members_behind names [] [] entry made h key k =
    (view made.value.now, no_members, k, refl, ap (λ name. member name (view made.value.now) no_members) (sym key))
members_behind names [] (other ∷ mades) entry made h key k = absurd (let clash : ⊥ = cc in clash)
members_behind names (first ∷ entries) [] entry made h key k =
    let is : no_members ≡ member first.key.now h.0 h.1 = h.4 in
    let clash : ⊥ = cc in
    absurd clash
members_behind names (first ∷ entries) (other ∷ mades) entry made h key k =
    let is : member other.key.now (view other.value.now) (members_of_entries mades) ≡ member first.key.now h.0 h.1 = h.4 in
    let name : other.key.now ≡ first.key.now = cc in
    let tail : members_of_entries mades ≡ h.1 = cc in
    let last = members_of_entries (mades ++ made ∷ []) in
    let head : view other.value.now ≡ h.0 = cc in
    let more : AreMembersFilled names (members_of_entries entries) (members_of_entries mades) =
    subst (λ ms. AreMembersFilled names (members_of_entries entries) ms) (sym tail) h.3 in
    let same : member other.key.now (view other.value.now) last ≡ member first.key.now h.0 last =
    ap (λ n. member n (view other.value.now) last) name ∙ ap (λ d. member first.key.now d last) head in
    (h.0, last, h.2, members_behind names entries mades entry made more key k, same)

entries_more : (entries : List Entry) (i : ℕ) (entry : Entry) → i < length entries → entry ≡ get_or entries i entry → take (i + 1) entries ≡ take i entries ++ entry ∷ []
entries_more entries i entry low is = take_more entries i entry low ∙ ap (λ e. take i entries ++ e ∷ []) (sym is)

pub no_members_filled : (names : List NamedOperand) → AreMembersFilled names no_members no_members
no_members_filled names = refl

pub one_member_more : (names : List NamedOperand) (entries mades : List Entry) (i : ℕ) (entry made : Entry) → i < length entries → entry ≡ get_or entries i entry
    → i < length mades → made ≡ get_or mades i made → AreMembersFilled names (members_of_entries (take i entries)) (members_of_entries (take i mades))
    → entry.key.now ≡ made.key.now → IsValueFilled names (view entry.value.now) (view made.value.now)
    → AreMembersFilled names (members_of_entries (take (i + 1) entries)) (members_of_entries (take (i + 1) mades))
one_member_more names entries mades i entry made low is low_made is_made so_far key this =
    rw (entries_more entries i entry low is, entries_more mades i made low_made is_made)
    (members_behind names (take i entries) (take i mades) entry made so_far key this)

pub all_members : (names : List NamedOperand) (entries mades : List Entry) (i : ℕ) → length entries ≤ i → length mades ≤ i
    → AreMembersFilled names (members_of_entries (take i entries)) (members_of_entries (take i mades)) → AreMembersFilled names (members_of_entries entries) (members_of_entries mades)
all_members names entries mades i all all_made h =
    let entries_all : take i entries ≡ entries = take_all i entries all in
    let mades_all : take i mades ≡ mades = take_all i mades all_made in
    rw (entries_all, mades_all) at h
