-- What one more turn of a reactor changes in what a trace makes, and so in what each reactor sees: for any trace.
use Rattle.std.proofs.Common.{◌≡◌, ℕ, ◌<◌, ◌≤◌, List, [], ◌∷◌, ◌++◌, true, false, IsTrue, refl, sym, ap, ◌∙◌, inl, inr, arith, append_assoc}
use Rattle.std.specs.Prelude.{filter}
use Rattle.std.specs.List.{AllByRecursion}
use Rattle.std.proofs.lemmas.Bool.{false_from_ne_true, cases_eq}
use Rattle.std.proofs.lemmas.List.{append-nil}
use Rattle.std.proofs.lemmas.List.Elements.{filter-append}
use Rattle.tag.specs.LogicalTime.{LogicalTime, IsFinite, is_before}
use Rattle.tag.proofs.Order.{same_is_equal}
use Rattle.network.specs.Event.{Event, present_at}
use Rattle.network.specs.Network.{Network}
use Rattle.network.specs.Undivided.{made_by}
use Rattle.network.specs.Lawful.{IsLawful, IsExternal}
use Rattle.network_laws.specs.History.{Turn, HasRisingTags, with_turn, states_after, effect_after}
use Rattle.network_laws.specs.Sees.{made_in, events_of, sees}
use Rattle.network_laws.specs.Newest.{or_else}
use Rattle.network_laws.proofs.Lists.{Among, each, each_more, each_filter, each_among, all_among, none_kept}
use Rattle.network_laws.proofs.Keys.{key}
use Rattle.network_laws.proofs.Rising.{event_key, IsLater, made_later}
use Rattle.network_laws.proofs.Agree.{is_for}
use Rattle.network_laws.proofs.Meet.{rising_from}
use Rattle.network_laws.proofs.Maker.{maker, is_for_parts, not_made, events_for}
use Rattle.network_laws.proofs.Newest.{latest_value, newest_counts, none_made_outside}
use Rattle.network_laws.proofs.ReadBack.{in_trace}

second_empty : (xs ys : List Event) → xs ++ ys ≡ [] → ys ≡ []
second_empty [] ys h = h
second_empty (x ∷ xs) ys h = cc

module _ (n : Network) (L : IsLawful n) (T : ℕ → List Turn) (j : ℕ) (x : Turn) where
  -- what the turn makes
  abbrev pub made_then : List Event
  made_then = made_by n j x.tag (effect_after n j (T j) x)

  abbrev Grows : ℕ → LogicalTime → ℕ → ℕ → List Turn → Type 0
  Grows a s slot i h = maker n a slot ≡ i → filter (is_for a s slot) (made_in n i h) ≡ filter (is_for a s slot) (made_in n i (T i)) ++ filter (is_for a s slot) made_then

  maker_grows : (a : ℕ) (s : LogicalTime) (slot i : ℕ) → Grows a s slot i (with_turn T j x i)
  maker_grows a s slot = in_trace (Grows a s slot) T j x
      (λ m. filter-append (is_for a s slot) (made_in n j (T j)) made_then)
      (λ i other m.
      let none : filter (is_for a s slot) made_then ≡ [] = not_made n L j a s slot (λ k. other (sym k ∙ m)) x.tag (states_after n j (T j)) x.present in
      sym (append-nil (filter (is_for a s slot) (made_in n i (T i)))) ∙ ap (λ (l : List Event). filter (is_for a s slot) (made_in n i (T i)) ++ l) (sym none))

  -- for each slot, the trace makes what it made, and then what the turn makes
  pub events_grow : (a : ℕ) → a < n.reactors → (s : LogicalTime) (slot : ℕ) → filter (is_for a s slot) (events_of n (with_turn T j x)) ≡ filter (is_for a s slot) (events_of n T) ++ filter (is_for a s slot) made_then
  events_grow a h s slot =
      events_for n L a h s slot (with_turn T j x)
      ∙ (ap (λ (l : List Event). filter (is_for a s slot) n.external ++ l) (maker_grows a s slot (maker n a slot) refl)
      ∙ (sym (append_assoc (filter (is_for a s slot) n.external) (filter (is_for a s slot) (made_in n (maker n a slot) (T (maker n a slot)))) (filter (is_for a s slot) made_then))
      ∙ ap (λ (l : List Event). l ++ filter (is_for a s slot) made_then) (sym (events_for n L a h s slot T))))

  -- nothing is made at or before the turn
  pub none_made : j < n.reactors → IsFinite x.tag → (a : ℕ) (s : LogicalTime) (slot : ℕ) → key n a s ≤ key n j x.tag → filter (is_for a s slot) made_then ≡ []
  none_made there p a s slot h =
      none_kept (is_for a s slot) made_then (each_more (IsLater n (key n j x.tag)) (λ e. is_for a s slot e ≡ false)
      (λ e l. false_from_ne_true (is_for a s slot e) (λ k.
      let parts = is_for_parts a s slot e k in
      let at : event_key n e ≡ key n a s = (λ y. key n (parts.0 y) (same_is_equal e.tag s parts.1.0 y)) in
      let later = l.later in
      absurd (omega arith)))
      made_then (made_later n L j there x.tag p (states_after n j (T j)) x.present))

  -- so what was seen at or before the turn is seen
  pub sees_kept : j < n.reactors → IsFinite x.tag → (a : ℕ) → a < n.reactors → (s : LogicalTime) → key n a s ≤ key n j x.tag → sees n (with_turn T j x) a s ≡ sees n T a s
  sees_kept there p a h s k = λ y slot. latest_value (same slot y)
    where
      same : (slot : ℕ) → filter (is_for a s slot) (events_of n (with_turn T j x)) ≡ filter (is_for a s slot) (events_of n T)
      same slot = events_grow a h s slot ∙ (ap (λ (l : List Event). filter (is_for a s slot) (events_of n T) ++ l) (none_made there p a s slot k) ∙ append-nil (filter (is_for a s slot) (events_of n T)))

  abbrev Newer : ℕ → LogicalTime → ℕ → Type 0
  Newer a s slot = latest_value (filter (is_for a s slot) (events_of n (with_turn T j x))) ≡ or_else (latest_value (filter (is_for a s slot) made_then)) (latest_value (filter (is_for a s slot) (events_of n T)))

  newer_if_none : (a : ℕ) → a < n.reactors → (s : LogicalTime) (slot : ℕ) → filter (is_for a s slot) made_then ≡ [] → Newer a s slot
  newer_if_none a h s slot none =
      ap latest_value (events_grow a h s slot ∙ (ap (λ (l : List Event). filter (is_for a s slot) (events_of n T) ++ l) none ∙ append-nil (filter (is_for a s slot) (events_of n T))))
      ∙ ap (λ (l : List Event). or_else (latest_value l) (latest_value (filter (is_for a s slot) (events_of n T)))) (sym none)

  -- the maker's turn, where nothing comes from outside
  newer_of_maker : (a : ℕ) → a < n.reactors → (s : LogicalTime) (slot : ℕ) → AllByRecursion (λ y. IsTrue (is_before y.tag x.tag)) (T j) → maker n a slot ≡ j → filter (is_for a s slot) n.external ≡ [] → Newer a s slot
  newer_of_maker a h s slot r m none =
      let old : filter (is_for a s slot) (events_of n T) ≡ filter (is_for a s slot) (made_in n j (T j)) =
      events_for n L a h s slot T ∙ (λ y. none y ++ filter (is_for a s slot) (made_in n (m y) (T (m y)))) in
      let new : filter (is_for a s slot) (events_of n (with_turn T j x)) ≡ filter (is_for a s slot) (made_in n j (x ∷ T j)) =
      events_grow a h s slot ∙ (ap (λ (l : List Event). l ++ filter (is_for a s slot) made_then) old ∙ sym (filter-append (is_for a s slot) (made_in n j (T j)) made_then)) in
      ap latest_value new ∙ (newest_counts n j (is_for a s slot) x (T j) r ∙ ap (λ (l : List Event). or_else (latest_value (filter (is_for a s slot) made_then)) (latest_value l)) (sym old))

  -- where something comes from outside, nothing is made
  outside_then : (a : ℕ) (s : LogicalTime) (slot : ℕ) → (e : Event) → Among e n.external → is_for a s slot e ≡ true → filter (is_for a s slot) made_then ≡ []
  outside_then a s slot e m k =
      let parts = is_for_parts a s slot e k in
      let none = none_made_outside n L e m (each_among (IsExternal n) e n.external (each (IsExternal n) n.external L.external) m) j (x ∷ T j) in
      let here : filter (is_for a s slot) (made_in n j (x ∷ T j)) ≡ [] = (λ y. filter (is_for (sym parts.0 y) (sym (same_is_equal e.tag s parts.1.0) y) (sym parts.1.1 y)) (made_in n j (x ∷ T j))) ∙ none in
      second_empty (filter (is_for a s slot) (made_in n j (T j))) (filter (is_for a s slot) made_then) (sym (filter-append (is_for a s slot) (made_in n j (T j)) made_then) ∙ here)

  newer_by_outside : (a : ℕ) → a < n.reactors → (s : LogicalTime) (slot : ℕ) → AllByRecursion (λ y. IsTrue (is_before y.tag x.tag)) (T j) → maker n a slot ≡ j → (es : List Event) → filter (is_for a s slot) n.external ≡ es → AllByRecursion (λ e. Among e n.external × (is_for a s slot e ≡ true)) es → Newer a s slot
  newer_by_outside a h s slot r m [] q w = newer_of_maker a h s slot r m q
  newer_by_outside a h s slot r m (e ∷ es) q w = newer_if_none a h s slot (outside_then a s slot e w.0.0 w.0.1)

  -- after a later turn, a reactor sees what that turn makes for a slot, or else what it saw
  pub sees_newest : AllByRecursion (λ y. IsTrue (is_before y.tag x.tag)) (T j) → (a : ℕ) → a < n.reactors → (s : LogicalTime) (slot : ℕ) → sees n (with_turn T j x) a s slot ≡ or_else (present_at made_then a s slot) (sees n T a s slot)
  sees_newest r a h s slot = elim (cases_eq (maker n a slot) j) [
    | inl m ↦ newer_by_outside a h s slot r m (filter (is_for a s slot) n.external) refl
        (each_filter (λ e. Among e n.external) (λ e. Among e n.external × (is_for a s slot e ≡ true)) (is_for a s slot) (λ e k w. (w, k)) n.external (all_among n.external))
    | inr m ↦ newer_if_none a h s slot (not_made n L j a s slot m x.tag (states_after n j (T j)) x.present)
  ]

pub newer_turns : (n : Network) → IsLawful n → (trace : ℕ → List Turn) (reactor : ℕ) (turn : Turn) → HasRisingTags (turn ∷ trace reactor) → (other : ℕ) → other < n.reactors → (tag : LogicalTime) (slot : ℕ) → sees n (with_turn trace reactor turn) other tag slot ≡ or_else (present_at (made_by n reactor turn.tag (effect_after n reactor (trace reactor) turn)) other tag slot) (sees n trace other tag slot)
newer_turns n L trace reactor turn rising = sees_newest n L trace reactor turn (rising_from (turn ∷ trace reactor) rising).0
