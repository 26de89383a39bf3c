-- What is pending after any number of turns, slot by slot: which turn is next, and what it changes.
use Rattle.std.proofs.Common.{◌≡◌, ℕ, suc, ◌+◌, ◌<◌, ◌≤◌, List, [], Bool, true, false, refl, sym, ap, subst, ◌∙◌, ℤ, arith}
use Rattle.std.specs.Prelude.{Option, None, Some, filter}
use Rattle.std.specs.List.{AllByRecursion}
use Rattle.std.proofs.lemmas.Bool.{false_from_ne_true}
use Rattle.tag.specs.LogicalTime.{LogicalTime, is_before, place}
use Rattle.tag.proofs.Order.{finite_is_logical, not_before_places, same_is_equal}
use Rattle.network.specs.Event.{Event, present_at}
use Rattle.network.specs.Network.{Network}
use Rattle.network.specs.Undivided.{Undivided, comes_before, first_of_turns, made_by, effect_at, after_turn_at, after_turn_of, undivided_after}
use Rattle.network.specs.Lawful.{IsLawful, IsExternal}
use Rattle.network_laws.specs.Newest.{or_else}
use Rattle.network_laws.specs.Pending.{IsNext, IsQuiet}
use Rattle.network_laws.proofs.Lists.{Among, each_more, each_among, none_kept}
use Rattle.network_laws.proofs.Keys.{key, key-before, key_injective}
use Rattle.network_laws.proofs.Rising.{event_key}
use Rattle.network_laws.proofs.Standing.{Least, FirstIs, IsDue, first_standing, all_sound, pending_after}
use Rattle.network_laws.proofs.Agree.{is_for}
use Rattle.network_laws.proofs.Maker.{is_for_parts}
use Rattle.network_laws.proofs.Newest.{latest_value}
use Rattle.network_laws.proofs.ReadBack.{nothing_beyond}
use Rattle.network_laws.proofs.Traced.{something_present, pending_newest}
use Rattle.network_laws.proofs.WholeTrace.{known, source_pending}

none_some : (v : ℤ) → None ≡ Some v → ⊥
none_some v e = cc

-- the event that is found first is one of this turn
record IsOf (n : Network) (u : Undivided) (j : ℕ) (g : LogicalTime) : Type 0 where
  event : Event
  found : first_of_turns n u.pending ≡ Some event
  least : Least n u.pending event
  reactor : event.reactor ≡ j
  tag : event.tag ≡ g

module _ (n : Network) (L : IsLawful n) (turns : ℕ) where
  abbrev u : Undivided
  u = undivided_after n turns

  sound : AllByRecursion (IsExternal n) u.pending
  sound = let k = known n L turns in all_sound n k.0 u.pending k.1.standing.pending

  next_event : (j : ℕ) (g : LogicalTime) → IsNext n u.pending j g → (o : Option Event) → first_of_turns n u.pending ≡ o → FirstIs n u.pending o → IsOf n u j g
  next_event j g w None e f =
      let from = source_pending j g w.something.0 w.something.1 u.pending w.something.2 in
      let P : List Event → Type 0 = λ l. Among from.0 l in
      absurd (subst P f from.1)
  next_event j g w (Some x) e f =
      let from = source_pending j g w.something.0 w.something.1 u.pending w.something.2 in
      let mine : IsExternal n from.0 = each_among (IsExternal n) from.0 u.pending sound from.1 in
      let there : event_key n from.0 ≡ key n j g = (λ y. key n (from.2 y) (from.3 y)) in
      let least : event_key n x ≤ event_key n from.0 = each_among (λ y. event_key n x ≤ event_key n y) from.0 u.pending f.least from.1 in
      let some = something_present x u.pending f.among in
      let not_earlier : comes_before n.rank x.reactor x.tag from.0.reactor from.0.tag ≡ false =
      (λ y. comes_before n.rank x.reactor x.tag (from.2 y) (from.3 y)) ∙ w.first x.reactor x.tag x.slot some.0 f.sound.reactor some.1 in
      let high : event_key n from.0 ≤ event_key n x = not_less (event_key n x) (event_key n from.0) (comes_before n.rank x.reactor x.tag from.0.reactor from.0.tag) not_earlier
      (key-before n L x.reactor from.0.reactor x.tag from.0.tag f.sound.reactor mine.reactor f.sound.tag mine.tag).1 in
      let same = key_injective n L x.reactor from.0.reactor x.tag from.0.tag f.sound.reactor mine.reactor f.sound.tag mine.tag (omega arith) in
      record { event = x; found = e; least = f; reactor = same.0 ∙ from.2; tag = same.1 ∙ from.3 }
    where
      not_less : (a c : ℕ) (t : Bool) → t ≡ false → (a < c → t ≡ true) → c ≤ a
      not_less a c t e f = grind arith

  next_of : (j : ℕ) (g : LogicalTime) → IsNext n u.pending j g → IsOf n u j g
  next_of j g w =
      let k = known n L turns in
      next_event j g w (first_of_turns n u.pending) refl (first_standing n L u k.0 k.1.standing)

  -- where something is present and nothing for an earlier turn, that turn is the next
  pub next_turn : (j : ℕ) (g : LogicalTime) → IsNext n u.pending j g → undivided_after n (turns + 1) ≡ after_turn_at n u j g
  next_turn j g w =
      let is = next_of j g w in
      let more : turns + 1 ≡ suc turns = omega arith in
      ap (undivided_after n) more ∙ (ap (after_turn_of n u) is.found ∙ (λ y. after_turn_at n u (is.reactor y) (is.tag y)))

  abbrev Own : ℕ → LogicalTime → Type 0
  Own j g = (t : LogicalTime) (slot : ℕ) → is_before g t ≡ false → present_at (after_turn_at n u j g).pending j t slot ≡ None

  own_event : (e : Event) → Least n u.pending e → Own e.reactor e.tag
  own_event e f t slot h =
      let after : List Event = (after_turn_at n u e.reactor e.tag).pending in
      let none : filter (is_for e.reactor t slot) after ≡ [] =
      none_kept (is_for e.reactor t slot) after (each_more (IsDue n (event_key n e + 1)) (λ x. is_for e.reactor t slot x ≡ false)
      (λ x due. false_from_ne_true (is_for e.reactor t slot x) (λ k. (
      let parts = is_for_parts e.reactor t slot x k in
      let same : x.tag ≡ t = same_is_equal x.tag t parts.1.0 in
      let at : event_key n x ≡ key n e.reactor x.tag = (λ y. key n (parts.0 y) x.tag) in
      let low : place x.tag ≤ place e.tag = not_before_places e.tag x.tag (finite_is_logical _ f.sound.tag) (finite_is_logical _ due.sound.tag) (ap (is_before e.tag) same ∙ h) in
      let high = due.due in
      absurd (omega arith))))
      after (pending_after n L u e sound f)) in
      ap latest_value none

  -- of the reactor whose turn it was nothing is present up to the turn's tag
  pub own_is_gone : (j : ℕ) (g : LogicalTime) → IsNext n u.pending j g → Own j g
  own_is_gone j g w =
      let is = next_of j g w in
      subst (λ k. Own k g) is.reactor (subst (λ h. Own is.event.reactor h) is.tag (own_event is.event is.least))

  abbrev Newer : ℕ → LogicalTime → Type 0
  Newer j g = (a : ℕ) → a < n.reactors → (t : LogicalTime) (slot : ℕ) → (j ≡ a → g ≡ t → ⊥) →
      present_at (after_turn_at n u j g).pending a t slot ≡ or_else (present_at (made_by n j g (effect_at n u j g)) a t slot) (present_at u.pending a t slot)

  -- elsewhere what the turn makes for a slot is present, or else what was
  pub made_is_newer : (j : ℕ) (g : LogicalTime) → IsNext n u.pending j g → Newer j g
  made_is_newer j g w =
      let is = next_of j g w in
      let k = known n L turns in
      subst (λ i. Newer i g) is.reactor (subst (λ h. Newer is.event.reactor h) is.tag (pending_newest n L u _ k.0 k.1 is.event is.least))

  quiet_first : IsQuiet n u.pending → (o : Option Event) → FirstIs n u.pending o → u.pending ≡ []
  quiet_first q None f = f
  quiet_first q (Some e) f =
      let some = something_present e u.pending f.among in
      absurd (none_some some.0 (sym (q e.reactor e.tag e.slot f.sound.reactor) ∙ some.1))

  -- where nothing is present nothing is pending
  pub quiet_is_done : IsQuiet n u.pending → u.pending ≡ []
  quiet_is_done q = let k = known n L turns in quiet_first q (first_of_turns n u.pending) (first_standing n L u k.0 k.1.standing)

  -- what is present is for a reactor that is there, at a finite tag, and at one of its slots
  pub present_is_sound : (j : ℕ) (g : LogicalTime) (slot : ℕ) (v : ℤ) → present_at u.pending j g slot ≡ Some v → slot < n.slots j
  present_is_sound j g slot v e = below (n.slots j) slot (λ h. none_some v (sym (nothing_beyond n u.pending sound j g slot h) ∙ e))
    where
      below : (a b : ℕ) → (a ≤ b → ⊥) → b < a
      below a b h = grind arith
