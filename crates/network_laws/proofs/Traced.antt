-- What stands of the undivided program's trace after any number of turns: its states, its pending events, and what its turns saw.
use Rattle.std.proofs.Common.{◌≡◌, ℕ, ◌+◌, ◌<◌, ◌≤◌, List, [], ◌∷◌, ◌++◌, Bool, true, false, cond, not, ◌||◌, IsTrue, refl, sym, ap, ◌∙◌, ℤ, arith}
use Rattle.std.specs.Prelude.{nat_eq, Option, Some, filter}
use Rattle.std.specs.Option.{option_map}
use Rattle.std.specs.List.{AllByRecursion}
use Rattle.std.proofs.lemmas.Bool.{or_parts, and_parts, false_from_ne_true}
use Rattle.std.proofs.lemmas.Bool.Decides.{nat_tests}
use Rattle.std.proofs.lemmas.List.{append-nil}
use Rattle.std.proofs.lemmas.List.Elements.{filter-append}
use Rattle.tag.specs.LogicalTime.{LogicalTime, IsFinite, is_before, is_same}
use Rattle.tag.proofs.Order.{finite_is_logical, before_from_places, same_is_equal, same_itself}
use Rattle.network.specs.Event.{Event, listed, is_at, later_of, latest, present_at}
use Rattle.network.specs.Network.{Network, Effect}
use Rattle.network.specs.Undivided.{Undivided, Row, part, row_at, made_by, effect_at, after_turn_at, with_states}
use Rattle.network.specs.Lawful.{IsLawful}
use Rattle.network_laws.specs.History.{Turn, with_turn, rows_of, row_after, states_after, effect_after, has_turn_at}
use Rattle.network_laws.specs.Sees.{events_of, sees}
use Rattle.network_laws.specs.Consistent.{IsCalledFor}
use Rattle.network_laws.proofs.Lists.{Among, each_more, each_both, among_filter, filter_twice, none_kept}
use Rattle.network_laws.proofs.Keys.{key}
use Rattle.network_laws.proofs.Rising.{event_key}
use Rattle.network_laws.proofs.Standing.{Least, IsDue, Standing, standing_turn, due_least}
use Rattle.network_laws.proofs.Meet.{IsRising}
use Rattle.network_laws.proofs.Agree.{is_for, some_at}
use Rattle.network_laws.proofs.Maker.{is_for_parts}
use Rattle.network_laws.proofs.ReadBack.{in_trace}
use Rattle.network_laws.specs.Newest.{or_else}
use Rattle.network_laws.proofs.Newest.{latest_value}
use Rattle.network_laws.proofs.LookUps.{or_nothing}
use Rattle.network_laws.proofs.OneMore.{events_grow, sees_kept, sees_newest}

pub record Traced (n : Network) (u : Undivided) (trace : ℕ → List Turn) (bound : ℕ) : Type 0 where
  pub standing : Standing n u bound
  pub states : (i : ℕ) → u.states i ≡ states_after n i (trace i)
  -- where no turn was taken, what is pending is what the trace makes
  pub fresh : (a : ℕ) → a < n.reactors → (s : LogicalTime) (slot : ℕ) → has_turn_at s (trace a) ≡ false → filter (is_for a s slot) u.pending ≡ filter (is_for a s slot) (events_of n trace)
  pub called : (a : ℕ) → a < n.reactors → AllByRecursion (IsCalledFor n trace a) (trace a)
  pub past : (a : ℕ) → a < n.reactors → AllByRecursion (λ x. key n a x.tag < bound) (trace a)
  pub rising : (a : ℕ) → a < n.reactors → IsRising (trace a)
  pub rows : (i : ℕ) → part i u.rows ≡ rows_of n i (trace i)

abbrev pub value_of : Event → ℤ
value_of e = e.value

for_itself : (e : Event) → is_for e.reactor e.tag e.slot e ≡ true
for_itself e = grind (arith, nat_tests)

latest_some : (e : Event) (xs : List Event) → Among e xs → (v : Event) × (latest xs ≡ Some v)
latest_some e [] m = absurd m
latest_some e (x ∷ xs) m = (later_of x (latest xs), refl)

pub something_present : (e : Event) (es : List Event) → Among e es → (v : ℤ) × (present_at es e.reactor e.tag e.slot ≡ Some v)
something_present e es m =
    let found = latest_some e (filter (is_for e.reactor e.tag e.slot) es) (among_filter (is_for e.reactor e.tag e.slot) e es (for_itself e) m) in
    (value_of found.0, ap (option_map value_of) found.1)

absent : (n : Network) (j : ℕ) (t : LogicalTime) (h : List Turn) → AllByRecursion (λ x. key n j x.tag < key n j t) h → has_turn_at t h ≡ false
absent n j t [] a = refl
absent n j t (x ∷ xs) a =
    let other : is_same x.tag t ≡ false = false_from_ne_true (is_same x.tag t) (λ e. let same : key n j x.tag ≡ key n j t = ap (key n j) (same_is_equal x.tag t e) in let less = a.0 in omega arith) in
    ap (λ (b : Bool). b || has_turn_at t xs) other ∙ absent n j t xs a.1

below_tag : (n : Network) (j : ℕ) (s t : LogicalTime) → IsFinite s → IsFinite t → key n j s < key n j t → IsTrue (is_before s t)
below_tag n j s t p q h = before_from_places _ _ (finite_is_logical _ p) (finite_is_logical _ q) (omega arith)

of_this : (states : ℕ → List ℤ) (j : ℕ) (mine : List ℤ) → with_states states j mine j ≡ mine
of_this states j mine = let e : nat_eq j j ≡ true = grind (arith, nat_tests) in ap (λ (b : Bool). cond b mine (states j)) e

of_other : (states : ℕ → List ℤ) (j : ℕ) (mine : List ℤ) (i : ℕ) → (j ≡ i → ⊥) → with_states states j mine i ≡ states i
of_other states j mine i h = let e : nat_eq i j ≡ false = grind (arith, nat_tests) in ap (λ (b : Bool). cond b mine (states i)) e

rows_grow : (i : ℕ) (rows : List Row) (row : Row) (b : Bool) → nat_eq row.reactor i ≡ b → part i (rows ++ row ∷ []) ≡ part i rows ++ cond b (row ∷ []) []
rows_grow i rows row b e = filter-append (λ (r : Row). nat_eq r.reactor i) rows (row ∷ []) ∙ ap (λ (x : Bool). part i rows ++ cond x (row ∷ []) []) e

no_turn_split : (t s : LogicalTime) (present : ℕ → Option ℤ) (h : List Turn) → has_turn_at s (record { tag = t; present = present } ∷ h) ≡ false → (has_turn_at s h ≡ false) × (t ≡ s → ⊥)
no_turn_split t s present h e =
    let parts = or_parts (is_same t s) (has_turn_at s h) e in
    (parts.1, λ q. let yes : is_same t s ≡ true = ap (λ (x : LogicalTime). is_same x s) q ∙ same_itself s in let no = parts.0 in cc)

module _ (n : Network) (L : IsLawful n) (u : Undivided) (T : ℕ → List Turn) (bound : ℕ) (w : Traced n u T bound) (e : Event) (f : Least n u.pending e) where
  abbrev pub turn_taken : Turn
  turn_taken = record { tag = e.tag; present = present_at u.pending e.reactor e.tag }

  abbrev pub next_trace : ℕ → List Turn
  next_trace = with_turn T e.reactor turn_taken

  abbrev made_now : List Event
  made_now = made_by n e.reactor e.tag (effect_at n u e.reactor e.tag)

  effect_same : effect_after n e.reactor (T e.reactor) turn_taken ≡ effect_at n u e.reactor e.tag
  effect_same = ap (λ (s : List ℤ). n.effect e.reactor s (present_at u.pending e.reactor e.tag)) (sym (w.states e.reactor))

  made_same : made_by n e.reactor e.tag (effect_after n e.reactor (T e.reactor) turn_taken) ≡ made_now
  made_same = ap (made_by n e.reactor e.tag) effect_same

  events_grow_now : (a : ℕ) → a < n.reactors → (s : LogicalTime) (slot : ℕ) → filter (is_for a s slot) (events_of n next_trace) ≡ filter (is_for a s slot) (events_of n T) ++ filter (is_for a s slot) made_now
  events_grow_now a h s slot = events_grow n L T e.reactor turn_taken a h s slot ∙ ap (λ (l : List Event). filter (is_for a s slot) (events_of n T) ++ filter (is_for a s slot) l) made_same

  sees_before : (a : ℕ) → a < n.reactors → (s : LogicalTime) → key n a s ≤ event_key n e → sees n next_trace a s ≡ sees n T a s
  sees_before = sees_kept n L T e.reactor turn_taken f.sound.reactor f.sound.tag

  low : bound ≤ event_key n e
  low = due_least n u bound e w.standing.pending f

  called_kept : (a : ℕ) → a < n.reactors → AllByRecursion (IsCalledFor n next_trace a) (T a)
  called_kept a h =
      each_more (λ x. IsCalledFor n T a x × (key n a x.tag < bound)) (IsCalledFor n next_trace a)
      (λ x both.
      let less = low in
      let early = both.1 in
      let same : sees n T a x.tag ≡ sees n next_trace a x.tag = sym (sees_before a h x.tag (omega arith)) in
      record {
        place = both.0.place;
        present = both.0.present ∙ same;
        something = some_at n T next_trace a x.tag x.tag refl same both.0.something;
      })
      (T a) (each_both (IsCalledFor n T a) (λ x. key n a x.tag < bound) (T a) (w.called a h) (w.past a h))

  earlier_turns : AllByRecursion (λ x. key n e.reactor x.tag < key n e.reactor e.tag) (T e.reactor)
  earlier_turns = each_more (λ x. key n e.reactor x.tag < bound) (λ x. key n e.reactor x.tag < key n e.reactor e.tag) (λ x k. let less = low in omega arith) (T e.reactor) (w.past e.reactor f.sound.reactor)

  present_now : present_at u.pending e.reactor e.tag ≡ sees n next_trace e.reactor e.tag
  present_now =
      (λ y slot. option_map value_of (latest (w.fresh e.reactor f.sound.reactor e.tag slot (absent n e.reactor e.tag (T e.reactor) earlier_turns) y)))
      ∙ sym (sees_before e.reactor f.sound.reactor e.tag (omega arith))

  called_now : IsCalledFor n next_trace e.reactor turn_taken
  called_now =
      let found = something_present e u.pending f.among in
      record {
        place = record { reactor = f.sound.reactor; finite = f.sound.tag; in_time = f.sound.in_time };
        present = present_now;
        something = (e.slot, found.0, (λ y. sym present_now y e.slot) ∙ found.1);
      }

  rising_now : IsRising (turn_taken ∷ T e.reactor)
  rising_now = (
    each_more (λ x. IsCalledFor n T e.reactor x × (key n e.reactor x.tag < key n e.reactor e.tag)) (λ x. IsTrue (is_before x.tag e.tag))
        (λ x both. below_tag n e.reactor x.tag e.tag both.0.place.finite f.sound.tag both.1) (T e.reactor)
        (each_both (IsCalledFor n T e.reactor) (λ x. key n e.reactor x.tag < key n e.reactor e.tag) (T e.reactor) (w.called e.reactor f.sound.reactor) earlier_turns),
    w.rising e.reactor f.sound.reactor,
  )

  -- no turn at a tag after this turn: nor before it, and this turn isn't there
  abbrev NoTurn : LogicalTime → ℕ → List Turn → Type 0
  NoTurn s i h = has_turn_at s h ≡ false → (has_turn_at s (T i) ≡ false) × (e.reactor ≡ i → e.tag ≡ s → ⊥)

  no_turn : (s : LogicalTime) (i : ℕ) → NoTurn s i (next_trace i)
  no_turn s = in_trace (NoTurn s) T e.reactor turn_taken
      (λ h. let parts = no_turn_split e.tag s (present_at u.pending e.reactor e.tag) (T e.reactor) h in (parts.0, λ same. parts.1))
      (λ i other h. (h, λ same. absurd (other same)))

  left_same : (a : ℕ) (s : LogicalTime) (slot : ℕ) → (e.reactor ≡ a → e.tag ≡ s → ⊥) → filter (is_for a s slot) (filter (λ x. not (is_at e.reactor e.tag x)) u.pending) ≡ filter (is_for a s slot) u.pending
  left_same a s slot h = filter_twice (is_for a s slot) (λ x. not (is_at e.reactor e.tag x))
      (λ x k.
      let parts = is_for_parts a s slot x k in
      let elsewhere : is_at e.reactor e.tag x ≡ false = false_from_ne_true (is_at e.reactor e.tag x) (λ here. apart x here (parts.0) (same_is_equal x.tag s parts.1.0)) in
      ap not elsewhere) u.pending
    where
      apart : (x : Event) → is_at e.reactor e.tag x ≡ true → x.reactor ≡ a → x.tag ≡ s → ⊥
      apart x here p q =
          let tests = and_parts (nat_eq x.reactor e.reactor) (is_same x.tag e.tag) here in
          let same : x.reactor ≡ e.reactor = grind (arith, nat_tests) in
          h (sym same ∙ p) (sym (same_is_equal x.tag e.tag tests.1) ∙ q)

  fresh_next : (a : ℕ) → a < n.reactors → (s : LogicalTime) (slot : ℕ) → has_turn_at s (next_trace a) ≡ false → filter (is_for a s slot) (after_turn_at n u e.reactor e.tag).pending ≡ filter (is_for a s slot) (events_of n next_trace)
  fresh_next a h s slot k =
      let none = no_turn s a k in
      filter-append (is_for a s slot) (filter (λ x. not (is_at e.reactor e.tag x)) u.pending) made_now
      ∙ (ap (λ (l : List Event). l ++ filter (is_for a s slot) made_now) (left_same a s slot none.1 ∙ w.fresh a h s slot none.0)
      ∙ sym (events_grow_now a h s slot))

  -- where a turn was taken nothing is pending
  none_left : (a : ℕ) → a < n.reactors → (s : LogicalTime) (slot : ℕ) → has_turn_at s (T a) ≡ true → filter (is_for a s slot) u.pending ≡ []
  none_left a h s slot taken =
      none_kept (is_for a s slot) u.pending (each_more (IsDue n bound) (λ x. is_for a s slot x ≡ false)
      (λ x due. false_from_ne_true (is_for a s slot x) (λ k. (
      let parts = is_for_parts a s slot x k in
      let at : event_key n x ≡ key n a s = (λ y. key n (parts.0 y) (same_is_equal x.tag s parts.1.0 y)) in
      let high = due.due in
      let none : has_turn_at s (T a) ≡ false = absent n a s (T a) (each_more (λ y. key n a y.tag < bound) (λ y. key n a y.tag < key n a s) (λ y l. omega arith) (T a) (w.past a h)) in
      cc)))
      u.pending w.standing.pending)

  latest_newest : (a : ℕ) → a < n.reactors → (s : LogicalTime) (slot : ℕ) → (b : Bool) → has_turn_at s (T a) ≡ b →
      latest_value (filter (is_for a s slot) u.pending ++ filter (is_for a s slot) made_now) ≡ or_else (latest_value (filter (is_for a s slot) made_now)) (latest_value (filter (is_for a s slot) u.pending))
  latest_newest a h s slot true taken =
      let none = none_left a h s slot taken in
      ap (λ (l : List Event). latest_value (l ++ filter (is_for a s slot) made_now)) none
      ∙ (sym (or_nothing (latest_value (filter (is_for a s slot) made_now)))
      ∙ ap (λ (l : List Event). or_else (latest_value (filter (is_for a s slot) made_now)) (latest_value l)) (sym none))
  latest_newest a h s slot false free =
      let fresh = w.fresh a h s slot free in
      ap (λ (l : List Event). latest_value (l ++ filter (is_for a s slot) made_now)) fresh
      ∙ (ap latest_value (sym (events_grow_now a h s slot))
      ∙ (sees_newest n L T e.reactor turn_taken rising_now.0 a h s slot
      ∙ (λ y. or_else (latest_value (filter (is_for a s slot) (made_same y))) (latest_value (sym fresh y)))))

  -- elsewhere than at the turn, what it makes for a slot is pending, or else what was
  pub pending_newest : (a : ℕ) → a < n.reactors → (s : LogicalTime) (slot : ℕ) → (e.reactor ≡ a → e.tag ≡ s → ⊥) →
      present_at (after_turn_at n u e.reactor e.tag).pending a s slot ≡ or_else (present_at made_now a s slot) (present_at u.pending a s slot)
  pending_newest a h s slot other =
      ap latest_value (filter-append (is_for a s slot) (filter (λ x. not (is_at e.reactor e.tag x)) u.pending) made_now
      ∙ ap (λ (l : List Event). l ++ filter (is_for a s slot) made_now) (left_same a s slot other))
      ∙ latest_newest a h s slot (has_turn_at s (T a)) refl

  states_next : (i : ℕ) → (after_turn_at n u e.reactor e.tag).states i ≡ states_after n i (next_trace i)
  states_next = in_trace (λ i h. (after_turn_at n u e.reactor e.tag).states i ≡ states_after n i h) T e.reactor turn_taken
      (of_this u.states e.reactor (effect_at n u e.reactor e.tag).states ∙ ap (λ (x : Effect). x.states) (sym effect_same))
      (λ i other. of_other u.states e.reactor (effect_at n u e.reactor e.tag).states i other ∙ w.states i)

  row_same : row_at n u e.reactor e.tag ≡ row_after n e.reactor (T e.reactor) turn_taken
  row_same = λ y. record {
    reactor = e.reactor;
    tag = e.tag;
    inputs = listed (n.slots e.reactor) (present_at u.pending e.reactor e.tag);
    outputs = listed (n.ports e.reactor) (sym effect_same y).outputs;
  }

  rows_next : (i : ℕ) → part i (after_turn_at n u e.reactor e.tag).rows ≡ rows_of n i (next_trace i)
  rows_next = in_trace (λ i h. part i (after_turn_at n u e.reactor e.tag).rows ≡ rows_of n i h) T e.reactor turn_taken
      (let mine : nat_eq e.reactor e.reactor ≡ true = grind (arith, nat_tests) in
      rows_grow e.reactor u.rows (row_at n u e.reactor e.tag) true mine ∙ (λ y. w.rows e.reactor y ++ row_same y ∷ []))
      (λ i other.
      let not_mine : nat_eq e.reactor i ≡ false = grind (arith, nat_tests) in
      rows_grow i u.rows (row_at n u e.reactor e.tag) false not_mine ∙ (append-nil (part i u.rows) ∙ w.rows i))

  pub traced_turn : Traced n (after_turn_at n u e.reactor e.tag) next_trace (event_key n e + 1)
  traced_turn = record {
    standing = standing_turn n L u bound e w.standing f;
    states = states_next;
    fresh = fresh_next;
    called = in_trace (λ a h. a < n.reactors → AllByRecursion (IsCalledFor n next_trace a) h) T e.reactor turn_taken (λ h. (called_now, called_kept e.reactor h)) (λ a other h. called_kept a h);
    past = in_trace (λ a h. a < n.reactors → AllByRecursion (λ x. key n a x.tag < event_key n e + 1) h) T e.reactor turn_taken
        (λ h. (omega arith, further e.reactor h)) (λ a other h. further a h);
    rows = rows_next;
    rising = in_trace (λ a h. a < n.reactors → IsRising h) T e.reactor turn_taken (λ h. rising_now) (λ a other h. w.rising a h);
  }
    where
      further : (a : ℕ) → a < n.reactors → AllByRecursion (λ x. key n a x.tag < event_key n e + 1) (T a)
      further a h = each_more (λ x. key n a x.tag < bound) (λ x. key n a x.tag < event_key n e + 1) (λ x k. let less = low in omega arith) (T a) (w.past a h)
