-- Where two consistent traces both are settled they have the same history: by tags and ranks, from the first on.
use Rattle.std.proofs.Common.{◌≡◌, ℕ, zero, suc, ◌+◌, ◌<◌, ◌≤◌, List, [], ◌∷◌, ◌++◌, Bool, true, false, cond, ◌&&◌, IsTrue, refl, sym, ap, ◌∙◌, ◌⊎◌, inl, inr, arith}
use Rattle.std.specs.Prelude.{nat_eq, filter}
use Rattle.std.specs.Option.{option_map}
use Rattle.std.specs.List.{AllByRecursion}
use Rattle.std.proofs.lemmas.Bool.{and_left}
use Rattle.std.proofs.lemmas.List.{append-nil}
use Rattle.std.proofs.lemmas.List.Elements.{filter-append}
use Rattle.tag.specs.LogicalTime.{LogicalTime, IsFinite, is_before, is_at_most}
use Rattle.tag.proofs.Order.{finite_is_logical, before_places}
use Rattle.network.specs.Event.{Event, is_at, latest}
use Rattle.network.specs.Network.{Network}
use Rattle.network.specs.Undivided.{made_by}
use Rattle.network.specs.Lawful.{IsLawful}
use Rattle.network_laws.specs.History.{Turn, states_after, effect_after, back_to, up_to}
use Rattle.network_laws.specs.Sees.{made_in, made_by_first, events_of, sees, SeesSomething}
use Rattle.network_laws.specs.Consistent.{IsInTime, IsCalledFor, IsConsistent}
use Rattle.network_laws.proofs.Lists.{each, each_more, each_among, none_kept}
use Rattle.network_laws.proofs.Keys.{key}
use Rattle.network_laws.proofs.Meet.{rising_from, WithTurn, WithoutTurn, meet, split}
use Rattle.network_laws.proofs.Reaches.{reaches, made_not_at, Backward, reached_before}

-- the event is for this slot of this reactor at this tag
abbrev pub is_for : ℕ → LogicalTime → ℕ → Event → Bool
is_for j t slot e = is_at j t e && nat_eq e.slot slot

made_back_step : (n : Network) → IsLawful n → (i j : ℕ) (t : LogicalTime) (slot : ℕ) (x : Turn) (xs : List Turn) (r : Bool) → IsFinite x.tag → reaches n i j t x.tag ≡ r → filter (is_for j t slot) (made_in n i xs) ≡ filter (is_for j t slot) (made_in n i (back_to (reaches n i j t) xs)) → filter (is_for j t slot) (made_in n i (x ∷ xs)) ≡ filter (is_for j t slot) (made_in n i (cond r (x ∷ xs) (back_to (reaches n i j t) xs)))
made_back_step n L i j t slot x xs true p e h = refl
made_back_step n L i j t slot x xs false p e h =
    let made : List Event = made_by n i x.tag (effect_after n i xs x) in
    let none : filter (is_for j t slot) made ≡ [] =
    none_kept (is_for j t slot) made (each_more (λ e. is_at j t e ≡ false) (λ e. is_for j t slot e ≡ false) (λ e k. and_left (is_at j t e) (nat_eq e.slot slot) k) made (made_not_at n L i j t x.tag p e (states_after n i xs) x.present)) in
    filter-append (is_for j t slot) (made_in n i xs) made ∙ (ap (λ (l : List Event). filter (is_for j t slot) (made_in n i xs) ++ l) none ∙ (append-nil (filter (is_for j t slot) (made_in n i xs)) ∙ h))

-- the newest turns that don't reach there make nothing there
made_back : (n : Network) → IsLawful n → (i j : ℕ) (t : LogicalTime) (slot : ℕ) (h : List Turn) → AllByRecursion (λ turn. IsFinite turn.tag) h → filter (is_for j t slot) (made_in n i h) ≡ filter (is_for j t slot) (made_in n i (back_to (reaches n i j t) h))
made_back n L i j t slot [] a = refl
made_back n L i j t slot (x ∷ xs) a = made_back_step n L i j t slot x xs (reaches n i j t x.tag) a.0 refl (made_back n L i j t slot xs a.1)

same_turns : (x y : Turn) → x.tag ≡ y.tag → x.present ≡ y.present → x ≡ y
same_turns x y p q = λ i. record { tag = p i; present = q i }

-- a tag up to stop
abbrev InTime : Network → LogicalTime → Type 0
InTime n s = IsFinite s × IsTrue (is_at_most s n.stop)

pub some_at : (n : Network) (T U : ℕ → List Turn) (j : ℕ) (s t : LogicalTime) → s ≡ t → sees n T j t ≡ sees n U j t → SeesSomething n T j s → SeesSomething n U j t
some_at n T U j s t e same w =
    let at : SeesSomething n T j t = rw e at w in
    (at.0, at.1, (λ i. sym same i at.0) ∙ at.2)

module _ (n : Network) (L : IsLawful n) (T U : ℕ → List Turn) (S R : ℕ → LogicalTime → Type 0) (c : IsConsistent n T S) (d : IsConsistent n U R) where
  -- what is to be shown of a reactor's tag
  abbrev AgreeAt : ℕ → LogicalTime → Type 0
  AgreeAt j t = j < n.reactors → IsFinite t → IsTrue (is_at_most t n.stop) → S j t → R j t → up_to t (T j) ≡ up_to t (U j)

  in_time_first : (i : ℕ) → i < n.reactors → AllByRecursion (λ turn. InTime n turn.tag) (T i)
  in_time_first i h = each_more (IsCalledFor n T i) (λ turn. InTime n turn.tag) (λ x w. (w.place.finite, w.place.in_time)) (T i) (each (IsCalledFor n T i) (T i) (c.called_for i h))

  in_time_second : (i : ℕ) → i < n.reactors → AllByRecursion (λ turn. InTime n turn.tag) (U i)
  in_time_second i h = each_more (IsCalledFor n U i) (λ turn. InTime n turn.tag) (λ x w. (w.place.finite, w.place.in_time)) (U i) (each (IsCalledFor n U i) (U i) (d.called_for i h))

  module _ (j : ℕ) (t : LogicalTime) (there : j < n.reactors) (p : IsFinite t) (below : IsTrue (is_at_most t n.stop)) (k : S j t) (l : R j t) (before : (i : ℕ) (s : LogicalTime) → key n i s < key n j t → AgreeAt i s) where
    source_same : (i : ℕ) → i < n.reactors → back_to (reaches n i j t) (T i) ≡ back_to (reaches n i j t) (U i)
    source_same i h = meet (reaches n i j t) (InTime n) (T i) (U i) (in_time_first i h) (in_time_second i h) (λ s r w.
        let left = reached_before n L S (λ a b m. c.earlier m a b) i j t s w.0 p below k (each (Backward n S s) n.connections (c.along s w.0)) r in
        let right = reached_before n L R (λ a b m. d.earlier m a b) i j t s w.0 p below l (each (Backward n R s) n.connections (d.along s w.0)) r in
        before i s left.1 h w.0 w.1 left.0 right.0)

    made_same : (slot i : ℕ) → i < n.reactors → filter (is_for j t slot) (made_in n i (T i)) ≡ filter (is_for j t slot) (made_in n i (U i))
    made_same slot i h =
        made_back n L i j t slot (T i) (each_more (λ turn. InTime n turn.tag) (λ turn. IsFinite turn.tag) (λ x w. w.0) (T i) (in_time_first i h))
        ∙ (ap (λ (x : List Turn). filter (is_for j t slot) (made_in n i x)) (source_same i h)
        ∙ sym (made_back n L i j t slot (U i) (each_more (λ turn. InTime n turn.tag) (λ turn. IsFinite turn.tag) (λ x w. w.0) (U i) (in_time_second i h))))

    made_by_first_same : (slot count : ℕ) → count ≤ n.reactors → filter (is_for j t slot) (made_by_first n count T) ≡ filter (is_for j t slot) (made_by_first n count U)
    made_by_first_same slot zero h = refl
    made_by_first_same slot (suc count) h =
        let rest = made_by_first_same slot count (omega arith) in
        let mine = made_same slot count (omega arith) in
        filter-append (is_for j t slot) (made_by_first n count T) (made_in n count (T count))
        ∙ ((λ i. rest i ++ mine i) ∙ sym (filter-append (is_for j t slot) (made_by_first n count U) (made_in n count (U count))))

    events_same : (slot : ℕ) → filter (is_for j t slot) (events_of n T) ≡ filter (is_for j t slot) (events_of n U)
    events_same slot =
        filter-append (is_for j t slot) n.external (made_by_first n n.reactors T)
        ∙ (ap (λ (x : List Event). filter (is_for j t slot) n.external ++ x) (made_by_first_same slot n.reactors (omega arith))
        ∙ sym (filter-append (is_for j t slot) n.external (made_by_first n n.reactors U)))

    seen_same : sees n T j t ≡ sees n U j t
    seen_same = λ i slot. option_map (λ (e : Event). e.value) (latest (events_same slot i))

    earlier_same : back_to (λ s. is_before s t) (T j) ≡ back_to (λ s. is_before s t) (U j)
    earlier_same = meet (λ s. is_before s t) (InTime n) (T j) (U j) (in_time_first j there) (in_time_second j there) (λ s r w.
        let less = before_places _ _ (finite_is_logical _ w.0) (finite_is_logical _ p) r in
        before j s (omega arith) there w.0 w.1 (c.earlier j s t r k) (d.earlier j s t r l))

    agree_here : WithTurn t (T j) ⊎ WithoutTurn t (T j) → WithTurn t (U j) ⊎ WithoutTurn t (U j) → up_to t (T j) ≡ up_to t (U j)
    agree_here (inl v) (inl w) =
        let left : IsCalledFor n T j v.turn = each_among (IsCalledFor n T j) v.turn (T j) (each (IsCalledFor n T j) (T j) (c.called_for j there)) v.among in
        let right : IsCalledFor n U j w.turn = each_among (IsCalledFor n U j) w.turn (U j) (each (IsCalledFor n U j) (U j) (d.called_for j there)) w.among in
        let present : v.turn.present ≡ w.turn.present = left.present ∙ (ap (sees n T j) v.at ∙ (seen_same ∙ (ap (sees n U j) (sym w.at) ∙ sym right.present))) in
        let turn : v.turn ≡ w.turn = same_turns v.turn w.turn (v.at ∙ sym w.at) present in
        v.upto ∙ ((λ i. turn i ∷ earlier_same i) ∙ sym w.upto)
    agree_here (inl v) (inr w) =
        let left : IsCalledFor n T j v.turn = each_among (IsCalledFor n T j) v.turn (T j) (each (IsCalledFor n T j) (T j) (c.called_for j there)) v.among in
        let there_too = d.complete j t (record { reactor = there; finite = p; in_time = below }) l (some_at n T U j v.turn.tag t v.at seen_same left.something) in
        let none = w.none in
        cc
    agree_here (inr v) (inl w) =
        let right : IsCalledFor n U j w.turn = each_among (IsCalledFor n U j) w.turn (U j) (each (IsCalledFor n U j) (U j) (d.called_for j there)) w.among in
        let there_too = c.complete j t (record { reactor = there; finite = p; in_time = below }) k (some_at n U T j w.turn.tag t w.at (sym seen_same) right.something) in
        let none = v.none in
        cc
    agree_here (inr v) (inr w) = v.upto ∙ (earlier_same ∙ sym w.upto)

    agree_step : up_to t (T j) ≡ up_to t (U j)
    agree_step = agree_here (split t (T j) (rising_from (T j) (c.rising j there))) (split t (U j) (rising_from (U j) (d.rising j there)))

  agree_below : (bound : ℕ) (j : ℕ) (t : LogicalTime) → key n j t < bound → AgreeAt j t
  agree_below zero j t h = λ there p below k l. absurd (omega arith)
  agree_below (suc bound) j t h = λ there p below k l. agree_step j t there p below k l (λ i s less. agree_below bound i s (omega arith))

  pub agree : (j : ℕ) (t : LogicalTime) → IsInTime n j t → S j t → R j t → up_to t (T j) ≡ up_to t (U j)
  agree j t w = agree_below (key n j t + 1) j t (omega arith) w.reactor w.finite w.in_time
