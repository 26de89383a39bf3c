-- The undivided program's trace is consistent, after any number of turns.
use Rattle.std.proofs.Common.{◌≡◌, ℕ, zero, suc, ◌+◌, ◌*◌, ◌<◌, ◌≤◌, List, [], ◌∷◌, ◌++◌, Bool, true, false, cond, ◌&&◌, ◌||◌, IsTrue, refl, sym, ap, subst, ◌∙◌, inl, inr, ℤ, arith, append_assoc}
use Rattle.std.specs.Prelude.{nat_lt, Option, None, Some, filter}
use Rattle.std.specs.Option.{option_map}
use Rattle.std.specs.List.{AllByRecursion}
use Rattle.std.proofs.lemmas.Bool.{true_from_ne_false}
use Rattle.std.proofs.lemmas.Bool.Decides.{nat_tests}
use Rattle.std.proofs.lemmas.List.{append-nil}
use Rattle.tag.specs.LogicalTime.{LogicalTime, IsFinite, is_before, is_at_most, is_same, sum_of, place}
use Rattle.tag.proofs.Order.{same_is_equal, at_most_reflexive}
use Rattle.network.specs.Connection.{Connection}
use Rattle.network.specs.Event.{Event, latest, present_at}
use Rattle.network.specs.Network.{Network}
use Rattle.network.specs.Undivided.{Undivided, Row, initial_of, first_of_turns, row_at, after_turn_at, after_turn_of, undivided_after, whole, part}
use Rattle.network.specs.Lawful.{IsLawful, IsExternal}
use Rattle.network_laws.specs.Settled.{BeginsWith, is_ahead_of, is_settled}
use Rattle.network_laws.specs.History.{Turn, with_turn, rows_of, row_after, back_to, turn_of_row, trace_of, has_turn_at, up_to}
use Rattle.network_laws.specs.Sees.{events_of}
use Rattle.network_laws.specs.Consistent.{IsInTime, IsCalledFor, IsConsistent, Where}
use Rattle.network_laws.proofs.Lists.{Among, each, from_each, each_more, each_both, each_among}
use Rattle.network_laws.proofs.Keys.{key, key-before}
use Rattle.network_laws.proofs.Rising.{event_key, Lawfully, connections_lawful, connection_key, sum_is_finite}
use Rattle.network_laws.proofs.Standing.{settled_in_time, FirstIs, IsDue, first_standing, all_sound, due_least, reached}
use Rattle.network_laws.proofs.Meet.{rising_tags}
use Rattle.network_laws.proofs.Agree.{is_for, agree}
use Rattle.network_laws.proofs.Maker.{is_for_parts, events_for}
use Rattle.network_laws.proofs.ReadBack.{trace_grows, listing_reads, nothing_beyond}
use Rattle.network_laws.proofs.Prefix.{part_begins}
use Rattle.network_laws.proofs.Traced.{Traced, traced_turn, value_of}

-- some number bounds what the trace has
abbrev Known : Network → Undivided → Type 0
Known n u = (bound : ℕ) × Traced n u (trace_of u.rows) bound

events_at_first : (n : Network) → IsLawful n → (a : ℕ) → a < n.reactors → (s : LogicalTime) (slot : ℕ) → filter (is_for a s slot) n.external ≡ filter (is_for a s slot) (events_of n (trace_of []))
events_at_first n L a h s slot = sym (events_for n L a h s slot (trace_of []) ∙ append-nil (filter (is_for a s slot) n.external))

known_at_first : (n : Network) → IsLawful n → Known n (initial_of n)
known_at_first n L =
    let r = reached n L zero in (
      r.bound,
      record {
        standing = r.standing;
        states = λ i. refl;
        fresh = λ a h s slot k. events_at_first n L a h s slot;
        called = λ a h. tt;
        past = λ a h. tt;
        rising = λ a h. tt;
        rows = λ i. refl;
      },
    )

row_tells : (n : Network) → (u : Undivided) → AllByRecursion (IsExternal n) u.pending → (j : ℕ) (t : LogicalTime) → turn_of_row (row_at n u j t) ≡ record { tag = t; present = present_at u.pending j t }
row_tells n u a j t =
    let read = listing_reads (n.slots j) (present_at u.pending j t) (λ q k. nothing_beyond n u.pending a j t q k) in
    λ y. record { tag = t; present = read y }

known_turn : (n : Network) → IsLawful n → (u : Undivided) → Known n u → (o : Option Event) → FirstIs n u.pending o → Known n (after_turn_of n u o)
known_turn n L u w None f = w
known_turn n L u w (Some e) f =
    let row : Row = row_at n u e.reactor e.tag in
    let tells : trace_of (u.rows ++ row ∷ []) ≡ with_turn (trace_of u.rows) e.reactor (record { tag = e.tag; present = present_at u.pending e.reactor e.tag }) =
    trace_grows u.rows row ∙ ap (with_turn (trace_of u.rows) e.reactor) (row_tells n u (all_sound n w.0 u.pending w.1.standing.pending) e.reactor e.tag) in
    let P : (ℕ → List Turn) → Type 0 = λ T. Traced n (after_turn_at n u e.reactor e.tag) T (event_key n e + 1) in
    (event_key n e + 1, subst P (sym tells) (traced_turn n L u (trace_of u.rows) w.0 w.1 e f))

pub known : (n : Network) → IsLawful n → (turns : ℕ) → Known n (undivided_after n turns)
known n L zero = known_at_first n L
known n L (suc turns) =
    let before = known n L turns in
    let u : Undivided = undivided_after n turns in
    known_turn n L u before (first_of_turns n u.pending) (first_standing n L u before.0 before.1.standing)

-- what is present comes from something that is pending there
abbrev pub ComesFrom : ℕ → LogicalTime → List Event → Type 0
ComesFrom j t es = (e : Event) × Among e es × (e.reactor ≡ j) × (e.tag ≡ t)

source_by_test : (j : ℕ) (t : LogicalTime) (slot : ℕ) (v : ℤ) (x : Event) (xs : List Event) → (present_at xs j t slot ≡ Some v → ComesFrom j t xs) → (b : Bool) → is_for j t slot x ≡ b → option_map value_of (latest (cond b (x ∷ filter (is_for j t slot) xs) (filter (is_for j t slot) xs))) ≡ Some v → ComesFrom j t (x ∷ xs)
source_by_test j t slot v x xs further true k h = let parts = is_for_parts j t slot x k in (x, inl refl, parts.0, same_is_equal x.tag t parts.1.0)
source_by_test j t slot v x xs further false k h = let rest = further h in (rest.0, inr rest.1, rest.2, rest.3)

pub source_pending : (j : ℕ) (t : LogicalTime) (slot : ℕ) (v : ℤ) (es : List Event) → present_at es j t slot ≡ Some v → ComesFrom j t es
source_pending j t slot v [] h = absurd (none_some h)
  where
    none_some : None ≡ Some v → ⊥
    none_some h = cc
source_pending j t slot v (x ∷ xs) h = source_by_test j t slot v x xs (source_pending j t slot v xs) (is_for j t slot x) refl h

no_pending : (n : Network) → IsLawful n → (es : List Event) (bound : ℕ) → AllByRecursion (IsDue n bound) es → (j : ℕ) (t : LogicalTime) → j < n.reactors → IsFinite t → (o : Option Event) → FirstIs n es o → IsTrue (is_ahead_of n j t o) → ComesFrom j t es → ⊥
no_pending n L es bound a j t h p None f k c = let P : List Event → Type 0 = λ l. Among c.0 l in subst P f c.1
no_pending n L es bound a j t h p (Some e) f k c =
    let less = (key-before n L j e.reactor t e.tag h f.sound.reactor p f.sound.tag).0 k in
    let there : event_key n c.0 ≡ key n j t = (λ y. key n (c.2 y) (c.3 y)) in
    let least : event_key n e ≤ event_key n c.0 = each_among (λ x. event_key n e ≤ event_key n x) c.0 es f.least c.1 in
    omega arith

-- what is past is settled
past_is_settled : (n : Network) → IsLawful n → (u : Undivided) (bound : ℕ) → AllByRecursion (IsDue n bound) u.pending → (j : ℕ) (t : LogicalTime) → j < n.reactors → IsFinite t → key n j t < bound → (o : Option Event) → FirstIs n u.pending o → IsTrue (is_ahead_of n j t o)
past_is_settled n L u bound a j t h p k None f = refl
past_is_settled n L u bound a j t h p k (Some e) f =
    let low = due_least n u bound e a f in
    (key-before n L j e.reactor t e.tag h f.sound.reactor p f.sound.tag).1 (omega arith)

earlier_ahead : (s t g : LogicalTime) (r q : ℕ) → IsTrue (is_before s t) → IsTrue (is_before t g || (is_same t g && nat_lt r q)) → IsTrue (is_before s g || (is_same s g && nat_lt r q))
earlier_ahead s t g r q h k = grind (arith, nat_tests)

settled_earlier : (n : Network) (j : ℕ) (s t : LogicalTime) → IsTrue (is_before s t) → (o : Option Event) → IsTrue (is_ahead_of n j t o) → IsTrue (is_ahead_of n j s o)
settled_earlier n j s t h None k = refl
settled_earlier n j s t h (Some e) k = earlier_ahead s t e.tag (n.rank j) (n.rank e.reactor) h k

settled_along : (n : Network) → IsLawful n → (es : List Event) → (s : LogicalTime) → IsFinite s → (c : Connection) → Lawfully n c → IsTrue (is_at_most (sum_of s c.delay) n.stop) → (o : Option Event) → FirstIs n es o → IsTrue (is_ahead_of n c.target (sum_of s c.delay) o) → IsTrue (is_ahead_of n c.source s o)
settled_along n L es s p c w below None f k = refl
settled_along n L es s p c w below (Some e) f k =
    let rise = connection_key n L c w.connected w.rises s p in
    let q = sum_is_finite n L s c.delay p w.connected.delay below in
    let less = (key-before n L c.target e.reactor (sum_of s c.delay) e.tag w.connected.target f.sound.reactor q f.sound.tag).0 k in
    (key-before n L c.source e.reactor s e.tag w.connected.source f.sound.reactor p f.sound.tag).1 (omega arith)

pub whole_is_consistent : (n : Network) → IsLawful n → (turns : ℕ) → IsConsistent n (trace_of (whole n turns)) (Where (is_settled n (undivided_after n turns)))
whole_is_consistent n L turns =
    let k = known n L turns in
    let u : Undivided = undivided_after n turns in
    let T : ℕ → List Turn = trace_of (whole n turns) in
    let due = k.1.standing.pending in
    let o : Option Event = first_of_turns n u.pending in
    let f = first_standing n L u k.0 k.1.standing in
    record {
      rising = λ j h. rising_tags (T j) (k.1.rising j h);
      called_for = λ j h. from_each (IsCalledFor n T j) (T j) (k.1.called j h);
      settled = λ j h. from_each (λ x. IsTrue (is_ahead_of n j x.tag o)) (T j)
          (each_more (λ x. IsCalledFor n T j x × (key n j x.tag < k.0)) (λ x. IsTrue (is_ahead_of n j x.tag o))
          (λ x both. past_is_settled n L u k.0 due j x.tag h both.0.place.finite both.1 o f) (T j)
          (each_both (IsCalledFor n T j) (λ x. key n j x.tag < k.0) (T j) (k.1.called j h) (k.1.past j h)));
      complete = λ j t w s some. true_from_ne_false (has_turn_at t (T j))
          (λ none. no_pending n L u.pending k.0 due j t w.reactor w.finite o f s
          (source_pending j t some.0 some.1 u.pending (ap (λ (l : List Event). option_map value_of (latest l)) (k.1.fresh j w.reactor t some.0 none) ∙ some.2)));
      earlier = λ j s t h. settled_earlier n j s t h o;
      along = λ s p. from_each (λ (c : Connection). IsTrue (is_at_most (sum_of s c.delay) n.stop) → IsTrue (is_ahead_of n c.target (sum_of s c.delay) o) → IsTrue (is_ahead_of n c.source s o)) n.connections
          (each_more (Lawfully n) (λ (c : Connection). IsTrue (is_at_most (sum_of s c.delay) n.stop) → IsTrue (is_ahead_of n c.target (sum_of s c.delay) o) → IsTrue (is_ahead_of n c.source s o))
          (λ c w below. settled_along n L u.pending s p c w below o f) n.connections (connections_lawful n L));
    }

-- a consistent trace has the history of the undivided program, as far as it is settled in both
pub agrees_with_whole : (n : Network) → IsLawful n → (trace : ℕ → List Turn) (Settled : ℕ → LogicalTime → Type 0) → IsConsistent n trace Settled → (reactor : ℕ) (tag : LogicalTime) (turns : ℕ) → IsInTime n reactor tag → Settled reactor tag → place tag * 64 + 64 ≤ turns → up_to tag (trace reactor) ≡ up_to tag (trace_of (whole n turns) reactor)
agrees_with_whole n L trace Settled c reactor tag turns w s enough =
    agree n L trace (trace_of (whole n turns)) Settled (Where (is_settled n (undivided_after n turns))) c (whole_is_consistent n L turns) reactor tag w s
    (settled_in_time n L turns reactor tag enough)

pub whole_agrees : (n : Network) → IsLawful n → (turns other reactor : ℕ) (tag : LogicalTime) → IsInTime n reactor tag → Where (is_settled n (undivided_after n turns)) reactor tag → Where (is_settled n (undivided_after n other)) reactor tag → up_to tag (trace_of (whole n turns) reactor) ≡ up_to tag (trace_of (whole n other) reactor)
whole_agrees n L turns other reactor tag =
    agree n L (trace_of (whole n turns)) (trace_of (whole n other)) (Where (is_settled n (undivided_after n turns))) (Where (is_settled n (undivided_after n other)))
    (whole_is_consistent n L turns) (whole_is_consistent n L other) reactor tag

-- rows are those of the history that they tell
pub part_is_replayed : (n : Network) → IsLawful n → (turns reactor : ℕ) → part reactor (whole n turns) ≡ rows_of n reactor (trace_of (whole n turns) reactor)
part_is_replayed n L turns reactor = (known n L turns).1.rows reactor

begin_step : (n : Network) (j : ℕ) (R : LogicalTime → Bool) (x : Turn) (xs : List Turn) (b : Bool) → BeginsWith (rows_of n j xs) (rows_of n j (back_to R xs)) → BeginsWith (rows_of n j (x ∷ xs)) (rows_of n j (cond b (x ∷ xs) (back_to R xs)))
begin_step n j R x xs true h = ([], sym (append-nil (rows_of n j (x ∷ xs))))
begin_step n j R x xs false h =
    (h.0 ++ row_after n j xs x ∷ [], ap (λ (l : List Row). l ++ row_after n j xs x ∷ []) h.1 ∙ append_assoc (rows_of n j (back_to R xs)) h.0 (row_after n j xs x ∷ []))

rows_begin : (n : Network) (j : ℕ) (R : LogicalTime → Bool) (h : List Turn) → BeginsWith (rows_of n j h) (rows_of n j (back_to R h))
rows_begin n j R [] = ([], refl)
rows_begin n j R (x ∷ xs) = begin_step n j R x xs (R x.tag) (rows_begin n j R xs)

-- the rows of a consistent trace are a prefix of the undivided program's
pub rows_are_a_prefix : (n : Network) → IsLawful n → (trace : ℕ → List Turn) (Settled : ℕ → LogicalTime → Type 0) → IsConsistent n trace Settled → (reactor : ℕ) (tag : LogicalTime) (turns : ℕ) → IsInTime n reactor tag → Settled reactor tag → place tag * 64 + 64 ≤ turns → BeginsWith (part reactor (whole n turns)) (rows_of n reactor (up_to tag (trace reactor)))
rows_are_a_prefix n L trace Settled c reactor tag turns w s enough =
    let same = agrees_with_whole n L trace Settled c reactor tag turns w s enough in
    let begins = rows_begin n reactor (λ other. is_at_most other tag) (trace_of (whole n turns) reactor) in
    (begins.0, part_is_replayed n L turns reactor ∙ (begins.1 ∙ ap (λ (l : List Turn). rows_of n reactor l ++ begins.0) (sym same)))

up_to_all : (stop : LogicalTime) (h : List Turn) → AllByRecursion (λ x. IsTrue (is_at_most x.tag stop)) h → up_to stop h ≡ h
up_to_all stop [] a = refl
up_to_all stop (x ∷ xs) a = ap (λ (b : Bool). cond b (x ∷ xs) (up_to stop xs)) a.0

all_up_to_stop : (n : Network) (trace : ℕ → List Turn) (Settled : ℕ → LogicalTime → Type 0) → IsConsistent n trace Settled → (reactor : ℕ) → reactor < n.reactors → up_to n.stop (trace reactor) ≡ trace reactor
all_up_to_stop n trace Settled c reactor h =
    up_to_all n.stop (trace reactor) (each_more (IsCalledFor n trace reactor) (λ x. IsTrue (is_at_most x.tag n.stop)) (λ x w. w.place.in_time) (trace reactor) (each (IsCalledFor n trace reactor) (trace reactor) (c.called_for reactor h)))

-- what is settled up to stop has every turn of the undivided program
pub has_every_row : (n : Network) → IsLawful n → (trace : ℕ → List Turn) (Settled : ℕ → LogicalTime → Type 0) → IsConsistent n trace Settled → (reactor : ℕ) → reactor < n.reactors → Settled reactor n.stop → (turns : ℕ) → BeginsWith (rows_of n reactor (trace reactor)) (part reactor (whole n turns))
has_every_row n L trace Settled c reactor h s turns =
    let far : ℕ = place n.stop * 64 + 64 + turns in
    let w : IsInTime n reactor n.stop = record { reactor = h; finite = L.stop; in_time = at_most_reflexive n.stop } in
    let same = agrees_with_whole n L trace Settled c reactor n.stop far w s (omega arith) in
    let mine = all_up_to_stop n trace Settled c reactor h in
    let whole_trace = all_up_to_stop n (trace_of (whole n far)) (Where (is_settled n (undivided_after n far))) (whole_is_consistent n L far) reactor h in
    let begins = part_begins n reactor turns far (omega arith) in
    (begins.0, ap (rows_of n reactor) (sym mine ∙ (same ∙ whole_trace)) ∙ (sym (part_is_replayed n L far reactor) ∙ begins.1))
