-- What stands after any number of turns: what is pending is later than all rows, and rows rise.
use Rattle.std.proofs.Common.{◌≡◌, ℕ, zero, suc, ◌+◌, ◌*◌, ◌^◌, ◌<◌, ◌≤◌, inl, inr, List, [], ◌∷◌, Bool, true, false, cond, not, IsTrue, refl, sym, arith}
use Rattle.std.specs.Prelude.{Option, None, Some, filter}
use Rattle.std.specs.List.{AllByRecursion, AllPairs}
use Rattle.std.proofs.lemmas.Bool.{cases_lt, cases_eq}
use Rattle.std.proofs.lemmas.Bool.Decides.{nat_tests}
use Rattle.std.proofs.lemmas.List.Quantifiers.{all_pairs_push}
use Rattle.tag.specs.LogicalTime.{LogicalTime, IsFinite, is_before, place}
use Rattle.network.specs.Event.{Event, is_at, present_at}
use Rattle.network.specs.Network.{Network}
use Rattle.network.specs.Undivided.{Undivided, Row, is_turn_before, earlier_of, first_of_turns, made_by, effect_at, row_at, after_turn_at, after_turn_of, undivided_after, whole}
use Rattle.network.specs.Lawful.{IsLawful, IsExternal}
use Rattle.network_laws.specs.Settled.{is_row_before, is_ahead_of, is_settled}
use Rattle.network.proofs.Items.{no_pairs}
use Rattle.network_laws.proofs.Lists.{Among, each, from_each, each_more, each_append, each_among, each_filter, each_both, each_of_none}
use Rattle.network_laws.proofs.Keys.{key, low_rank, key-before, key_injective}
use Rattle.network_laws.proofs.Rising.{event_key, IsLater, made_later}

-- one of these events, of the least turn
pub record Least (n : Network) (es : List Event) (e : Event) : Type 0 where
  pub sound : IsExternal n e
  pub least : AllByRecursion (λ x. event_key n e ≤ event_key n x) es
  pub among : Among e es

-- what the search for the first turn finds
abbrev pub FirstIs : Network → List Event → Option Event → Type 0
FirstIs n es None = es ≡ []
FirstIs n es (Some e) = Least n es e

chosen : (n : Network) → IsLawful n → (x other : Event) (rest : List Event) → IsExternal n x → Least n rest other → (b : Bool) → is_turn_before n other x ≡ b → Least n (x ∷ rest) (cond b other x)
chosen n L x other rest w h true e =
    let before = (key-before n L other.reactor x.reactor other.tag x.tag h.sound.reactor w.reactor h.sound.tag w.tag).0 e in
    record { sound = h.sound; least = (omega arith, h.least); among = inr h.among }
chosen n L x other rest w h false e =
    let back = (key-before n L other.reactor x.reactor other.tag x.tag h.sound.reactor w.reactor h.sound.tag w.tag).1 in
    let first : event_key n x ≤ event_key n other = not_before (event_key n other) (event_key n x) (is_turn_before n other x) e back in
    record { sound = w; least = (omega arith, each_more (λ y. event_key n other ≤ event_key n y) (λ y. event_key n x ≤ event_key n y) (λ y q. omega arith) rest h.least); among = inl refl }
  where
    not_before : (a c : ℕ) (t : Bool) → t ≡ false → (a < c → t ≡ true) → c ≤ a
    not_before a c t e f = elim (cases_lt a c) [ inl p ↦ (let yes = f p in grind arith) | inr p ↦ p ]

first_step : (n : Network) → IsLawful n → (x : Event) (rest : List Event) → IsExternal n x → (o : Option Event) → FirstIs n rest o → Least n (x ∷ rest) (earlier_of n x o)
first_step n L x rest w None h = record { sound = w; least = (omega arith, each_of_none (λ y. event_key n x ≤ event_key n y) rest h); among = inl refl }
first_step n L x rest w (Some other) h = chosen n L x other rest w h (is_turn_before n other x) refl

pub first_is : (n : Network) → IsLawful n → (es : List Event) → AllByRecursion (IsExternal n) es → FirstIs n es (first_of_turns n es)
first_is n L [] a = refl
first_is n L (x ∷ rest) a = first_step n L x rest a.0 (first_of_turns n rest) (first_is n L rest a.1)

-- an event that is pending where all turns of lower numbers are past
pub record IsDue (n : Network) (bound : ℕ) (e : Event) : Type 0 where
  pub sound : IsExternal n e
  pub due : bound ≤ event_key n e

pub record IsPast (n : Network) (bound : ℕ) (row : Row) : Type 0 where
  pub reactor : row.reactor < n.reactors
  pub tag : IsFinite row.tag
  pub past : key n row.reactor row.tag < bound

pub record Standing (n : Network) (u : Undivided) (bound : ℕ) : Type 0 where
  pub pending : AllByRecursion (IsDue n bound) u.pending
  pub rows : AllByRecursion (IsPast n bound) u.rows
  pub rising : AllPairs (λ a b. IsTrue (is_row_before n a b)) u.rows

pub all_sound : (n : Network) (bound : ℕ) (es : List Event) → AllByRecursion (IsDue n bound) es → AllByRecursion (IsExternal n) es
all_sound n bound es a = each_more (IsDue n bound) (IsExternal n) (λ e h. h.sound) es a

pub first_standing : (n : Network) → IsLawful n → (u : Undivided) (bound : ℕ) → Standing n u bound → FirstIs n u.pending (first_of_turns n u.pending)
first_standing n L u bound s = first_is n L u.pending (all_sound n bound u.pending s.pending)

not_at : (j : ℕ) (t : LogicalTime) (x : Event) → not (is_at j t x) ≡ true → x.reactor ≡ j → x.tag ≡ t → ⊥
not_at j t x h p q = grind (arith, nat_tests)

left_later : (n : Network) → IsLawful n → (e x : Event) → IsExternal n e → IsExternal n x → event_key n e ≤ event_key n x → not (is_at e.reactor e.tag x) ≡ true → event_key n e + 1 ≤ event_key n x
left_later n L e x v w h k = elim (cases_eq (event_key n e) (event_key n x)) [
  | inl same ↦ (let both = key_injective n L x.reactor e.reactor x.tag e.tag w.reactor v.reactor w.tag v.tag (sym same) in absurd (not_at e.reactor e.tag x k both.0 both.1))
  | inr other ↦ omega arith
]

-- the turn of the least event: what is left and what is made is later
pub pending_after : (n : Network) → IsLawful n → (u : Undivided) (e : Event) → AllByRecursion (IsExternal n) u.pending → Least n u.pending e → AllByRecursion (IsDue n (event_key n e + 1)) (after_turn_at n u e.reactor e.tag).pending
pending_after n L u e a f =
    let left : List Event = filter (λ x. not (is_at e.reactor e.tag x)) u.pending in
    let made : List Event = made_by n e.reactor e.tag (effect_at n u e.reactor e.tag) in
    let later : AllByRecursion (IsLater n (event_key n e)) made = made_later n L e.reactor f.sound.reactor e.tag f.sound.tag (u.states e.reactor) (present_at u.pending e.reactor e.tag) in
    each_append (IsDue n (event_key n e + 1)) left made
    (each_filter (λ x. IsExternal n x × (event_key n e ≤ event_key n x)) (IsDue n (event_key n e + 1)) (λ x. not (is_at e.reactor e.tag x))
    (λ x k both. record { sound = both.0; due = left_later n L e x f.sound both.0 both.1 k })
    u.pending (each_both (IsExternal n) (λ x. event_key n e ≤ event_key n x) u.pending a f.least))
    (each_more (IsLater n (event_key n e)) (IsDue n (event_key n e + 1)) (λ x l. record { sound = l.sound; due = omega (arith, l.later) }) made later)

past_further : (n : Network) (low high : ℕ) → low ≤ high → (rows : List Row) → AllByRecursion (IsPast n low) rows → AllByRecursion (IsPast n high) rows
past_further n low high h rows a = each_more (IsPast n low) (IsPast n high) (λ r w. record { reactor = w.reactor; tag = w.tag; past = omega (arith, w.past) }) rows a

pub due_least : (n : Network) (u : Undivided) (bound : ℕ) (e : Event) → AllByRecursion (IsDue n bound) u.pending → Least n u.pending e → bound ≤ event_key n e
due_least n u bound e a f = (each_among (IsDue n bound) e u.pending a f.among).due

pub standing_turn : (n : Network) → IsLawful n → (u : Undivided) (bound : ℕ) (e : Event) → Standing n u bound → Least n u.pending e → Standing n (after_turn_at n u e.reactor e.tag) (event_key n e + 1)
standing_turn n L u bound e s f =
    let low = due_least n u bound e s.pending f in
    let row : Row = row_at n u e.reactor e.tag in
    record {
      pending = pending_after n L u e (all_sound n bound u.pending s.pending) f;
      rows = each_append (IsPast n (event_key n e + 1)) u.rows (row ∷ [])
          (past_further n bound (event_key n e + 1) (omega arith) u.rows s.rows)
          (record { reactor = f.sound.reactor; tag = f.sound.tag; past = omega arith }, tt);
      rising = all_pairs_push (λ a b. IsTrue (is_row_before n a b)) u.rows row s.rising
          (from_each (λ a. IsTrue (is_row_before n a row)) u.rows
          (each_more (IsPast n bound) (λ a. IsTrue (is_row_before n a row))
          (λ a w. (key-before n L a.reactor e.reactor a.tag e.tag w.reactor f.sound.reactor w.tag f.sound.tag).1 (omega (arith, w.past))) u.rows s.rows));
    }

-- after this many turns all turns of lower numbers are past
pub record Reached (n : Network) (turns : ℕ) (u : Undivided) : Type 0 where
  pub bound : ℕ
  pub enough : turns ≤ bound
  pub standing : Standing n u bound

reached_turn : (n : Network) → IsLawful n → (turns : ℕ) (u : Undivided) → Reached n turns u → (o : Option Event) → FirstIs n u.pending o → Reached n (suc turns) (after_turn_of n u o)
reached_turn n L turns u r None h =
    record {
      bound = suc r.bound;
      enough = omega (arith, r.enough);
      standing = record {
        pending = each_of_none (IsDue n (suc r.bound)) u.pending h;
        rows = past_further n r.bound (suc r.bound) (omega arith) u.rows r.standing.rows;
        rising = r.standing.rising;
      };
    }
reached_turn n L turns u r (Some e) h =
    record {
      bound = event_key n e + 1;
      enough = omega (arith, r.enough, due_least n u r.bound e r.standing.pending h);
      standing = standing_turn n L u r.bound e r.standing h;
    }

pub reached : (n : Network) → IsLawful n → (turns : ℕ) → Reached n turns (undivided_after n turns)
reached n L zero =
    record {
      bound = 0;
      enough = omega arith;
      standing = record {
        pending = each_more (IsExternal n) (IsDue n 0) (λ e w. record { sound = w; due = omega arith }) n.external (each (IsExternal n) n.external L.external);
        rows = tt;
        rising = no_pairs (λ a b. IsTrue (is_row_before n a b));
      };
    }
reached n L (suc turns) =
    let before = reached n L turns in
    let u : Undivided = undivided_after n turns in
    reached_turn n L turns u before (first_of_turns n u.pending) (first_standing n L u before.bound before.standing)

pub rows_rise : (n : Network) → IsLawful n → (turns : ℕ) → AllPairs (λ a b. IsTrue (is_row_before n a b)) (whole n turns)
rows_rise n L turns = (reached n L turns).standing.rising

found_in_next : (n : Network) → IsLawful n → (u : Undivided) (bound : ℕ) (e f : Event) → Standing n u bound → (o p : Option Event) → FirstIs n u.pending o → FirstIs n (after_turn_of n u o).pending p → o ≡ Some e → p ≡ Some f → IsTrue (is_turn_before n e f)
found_in_next n L u bound e f s None p a b q r = cc
found_in_next n L u bound e f s (Some x) None a b q r = cc
found_in_next n L u bound e f s (Some x) (Some y) a b q r =
    let due = pending_after n L u x (all_sound n bound u.pending s.pending) a in
    let high = (each_among (IsDue n (event_key n x + 1)) y (after_turn_of n u (Some x)).pending due b.among).due in
    let before : IsTrue (is_turn_before n x y) = (key-before n L x.reactor y.reactor x.tag y.tag a.sound.reactor b.sound.reactor a.sound.tag b.sound.tag).1 (omega arith) in
    let at : x ≡ e = cc in
    let next : y ≡ f = cc in
    rw (← at, ← next) before

pub next_is_later : (n : Network) → IsLawful n → (turns : ℕ) (e f : Event) → first_of_turns n (undivided_after n turns).pending ≡ Some e → first_of_turns n (undivided_after n (turns + 1)).pending ≡ Some f → IsTrue (is_turn_before n e f)
next_is_later n L turns e f p q =
    let now = reached n L turns in
    let next = reached n L (suc turns) in
    let u : Undivided = undivided_after n turns in
    let v : Undivided = undivided_after n (suc turns) in
    let at : turns + 1 ≡ suc turns = omega arith in
    found_in_next n L u now.bound e f now.standing (first_of_turns n u.pending) (first_of_turns n v.pending)
    (first_standing n L u now.bound now.standing) (first_standing n L v next.bound next.standing) p (rw at at q)

-- a turn past a number that leaves room for every rank is later than the tag
well_before : (g h : LogicalTime) (r s : ℕ) → h.microstep < 2 ^ 32 → s < 64 → place g * 64 + 64 ≤ place h * 64 + s → IsTrue (is_before g h)
unfolding place
well_before g h r s m b le = let more : place g < place h = omega arith in grind (arith, nat_tests)

ahead : (n : Network) → IsLawful n → (es : List Event) (bound : ℕ) → AllByRecursion (IsDue n bound) es → (j : ℕ) (t : LogicalTime) → place t * 64 + 64 ≤ bound → (o : Option Event) → FirstIs n es o → IsTrue (is_ahead_of n j t o)
ahead n L es bound a j t h None f = refl
ahead n L es bound a j t h (Some e) f =
    let due = (each_among (IsDue n bound) e es a f.among).due in
    let before : IsTrue (is_before t e.tag) = well_before t e.tag 0 (n.rank e.reactor) f.sound.tag.microstep (low_rank n L e.reactor f.sound.reactor) (omega arith) in
    rw before refl

pub settled_in_time : (n : Network) → IsLawful n → (turns j : ℕ) (t : LogicalTime) → place t * 64 + 64 ≤ turns → IsTrue (is_settled n (undivided_after n turns) j t)
settled_in_time n L turns j t h =
    let r = reached n L turns in
    let u : Undivided = undivided_after n turns in
    ahead n L u.pending r.bound r.standing.pending j t (omega (arith, r.enough)) (first_of_turns n u.pending) (first_standing n L u r.bound r.standing)
