-- The histories of the federates are a consistent trace, after every list of moves.
use Rattle.std.proofs.Common.{◌≡◌, ℕ, suc, ◌<◌, ◌⊎◌, inl, inr, Bool, true, false, IsTrue, List, [], ◌∷◌, ◌++◌, refl, sym, ap, subst, ◌∙◌, arith, Option, None, Some, ℤ}
use Rattle.std.specs.Prelude.{slice_get, nat_eq, if◌then◌else◌, ◌&&◌, Contains}
use Rattle.std.specs.List.{AllByRecursion}
use Rattle.std.proofs.Math.Path.{fun_ext}
use Rattle.std.proofs.lemmas.Bool.{true_from_ne_false, eqb-true}
use Rattle.tag.specs.LogicalTime.{LogicalTime, IsLogicalTime, is_before, is_at_most, is_same, sum_of, place, is_past}
use Rattle.tag.proofs.Order.{at_most_by_before, at_most_from_places, at_most_then, before_irreflexive, before_transitive, finite_is_logical, not_before, same_is_equal}
use Rattle.tag.proofs.SumLaws.{sum_monotone_left}
use Rattle.network.specs.Connection.{Connection, then_along, IsWalk}
use Rattle.network.specs.Network.{Network}
use Rattle.network.specs.Lawful.{IsLawful}
use Rattle.network.specs.Tables.{Table, IsAtMostEveryPath}
use Rattle.network_laws.specs.History.{Turn, has_turn_at}
use Rattle.network_laws.specs.Newest.{or_else}
use Rattle.network_laws.specs.Consistent.{IsCalledFor}
use Rattle.network_laws.proofs.Lists.{from_each, each_more}
use Rattle.network_laws.proofs.Maker.{maker}
use Rattle.signal.specs.declared.signal.Signal.{Signal}
use Rattle.signal.specs.declared.signal.Signal.TheVariants.{Net, Ltc, Tag, Msg}
use Rattle.network.specs.Undone.{PendingEvent, look}
use Rattle.network.proofs.Walks.{along-snoc}
use Rattle.protocol.specs.Grant.{Rule, IsSafeRule}
use Rattle.protocol.specs.Machine.{Member, after_moves}
use Rattle.protocol_laws.specs.Chains.{IsPending, undone, down, up}
use Rattle.protocol_laws.specs.Histories.{histories_of, IsSettled, StaysConsistent}
use Rattle.protocol_laws.proofs.Tags.{IsOptional, above}
use Rattle.protocol_laws.proofs.Eligibility.{contains_at}
use Rattle.protocol_laws.proofs.Safety.{moves_sound}
use Rattle.protocol_laws.proofs.Pending.{completes_nothing_early}
use Rattle.network_laws.proofs.Meet.{rising_tags}
use Rattle.protocol_laws.proofs.Replay.{IsTaken, moves_replay}
use Rattle.protocol_laws.proofs.Tests.{both_left, both_right}
use Rattle.protocol_laws.proofs.Waiting.{leads_to, brought_over, last_message, waiting}
use Rattle.protocol_laws.proofs.Histories.{IsTraced}
use Rattle.protocol_laws.proofs.HistoryRuns.{HasTrace, moves_traced}

-- a message for reactor a at a tag, in a queue
record HasMessage (n : Network) (a : ℕ) (t : LogicalTime) (xs : List Signal) : Type 0 where
  at : ℕ
  number : ℕ
  value : ℤ
  connection : Connection
  is : slice_get xs at ≡ Some (Msg number t value)
  over : slice_get n.connections number ≡ Some connection
  target : connection.target ≡ a

or_found : (x y : Option ℤ) (v : ℤ) → or_else x y ≡ Some v → (x ≡ Some v) ⊎ (y ≡ Some v)
or_found None y v h = inr h
or_found (Some w) y v h = inl h

some_of : (b : Bool) (v w : ℤ) → (if b then Some v else None) ≡ Some w → b ≡ true
some_of true v w h = refl
some_of false v w h = cc

leads_over : (o : Option Connection) (a slot : ℕ) → leads_to o a slot ≡ true → (c : Connection) × (o ≡ Some c) × (c.target ≡ a)
leads_over None a slot h = cc
leads_over (Some c) a slot h = (c, refl, eqb-true c.target a (both_left (nat_eq c.target a) (nat_eq c.slot slot) h))

one_further : (n : Network) (a : ℕ) (t : LogicalTime) (x : Signal) (rest : List Signal) → HasMessage n a t rest → HasMessage n a t (x ∷ rest)
one_further n a t x rest m = record { at = suc m.at; number = m.number; value = m.value; connection = m.connection; is = m.is; over = m.over; target = m.target }

message_here : (n : Network) (a : ℕ) (t : LogicalTime) (slot k : ℕ) (s : LogicalTime) (v w : ℤ) (rest : List Signal) → brought_over (slice_get n.connections k) s v a t slot ≡ Some w → HasMessage n a t (Msg k s v ∷ rest)
message_here n a t slot k s v w rest h =
    let both = some_of (leads_to (slice_get n.connections k) a slot && is_same s t) v w h in
    let over = leads_over (slice_get n.connections k) a slot (both_left (leads_to (slice_get n.connections k) a slot) (is_same s t) both) in
    let same : s ≡ t = same_is_equal s t (both_right (leads_to (slice_get n.connections k) a slot) (is_same s t) both) in
    record { at = 0; number = k; value = v; connection = over.0; is = ap (λ (x : LogicalTime). Some (Msg k x v)) same; over = over.1; target = over.2 }

message_found : (n : Network) (a : ℕ) (t : LogicalTime) (slot : ℕ) (v : ℤ) (xs : List Signal) → last_message n a t slot xs ≡ Some v → HasMessage n a t xs
message_found n a t slot v [] h = cc
message_found n a t slot v (Net g ∷ rest) h = one_further n a t (Net g) rest (message_found n a t slot v rest h)
message_found n a t slot v (Ltc g ∷ rest) h = one_further n a t (Ltc g) rest (message_found n a t slot v rest h)
message_found n a t slot v (Tag g ∷ rest) h = one_further n a t (Tag g) rest (message_found n a t slot v rest h)
message_found n a t slot v (Msg k s w ∷ rest) h = elim (or_found (last_message n a t slot rest) (brought_over (slice_get n.connections k) s w a t slot) v h) [
  | inl later ↦ one_further n a t (Msg k s w) rest (message_found n a t slot v rest later)
  | inr here ↦ message_here n a t slot k s w v rest here
]

-- an undone event at a tag
record HasEvent (t : LogicalTime) (u : List PendingEvent) : Type 0 where
  at : ℕ
  event : PendingEvent
  is : slice_get u at ≡ Some event
  tag : event.tag ≡ t

event_if : (t : LogicalTime) (slot : ℕ) (v : ℤ) (x : PendingEvent) (rest : List PendingEvent) (b : Bool) → (b ≡ true → x.tag ≡ t) → (look rest t slot ≡ Some v → HasEvent t rest) → (if b then Some x.value else look rest t slot) ≡ Some v → HasEvent t (x ∷ rest)
event_if t slot v x rest true here more h = record { at = 0; event = x; is = refl; tag = here refl }
event_if t slot v x rest false here more h = let found = more h in record { at = suc found.at; event = found.event; is = found.is; tag = found.tag }

event_found : (t : LogicalTime) (slot : ℕ) (v : ℤ) (u : List PendingEvent) → look u t slot ≡ Some v → HasEvent t u
event_found t slot v [] h = cc
event_found t slot v (x ∷ rest) h =
    event_if t slot v x rest (is_same x.tag t && nat_eq x.slot slot) (λ k. same_is_equal x.tag t (both_left (is_same x.tag t) (nat_eq x.slot slot) k)) (event_found t slot v rest) h

-- what waits is pending
waiting_pending : (n : Network) (members : ℕ → Member) (a : ℕ) (t : LogicalTime) (slot : ℕ) (v : ℤ) → waiting n members a t slot ≡ Some v → IsPending n members a t
waiting_pending n members a t slot v h =
    elim (or_found (last_message n a t slot (members (maker n a slot)).up) (or_else (last_message n a t slot (members a).down) (look (members a).federate.undone t slot)) v h) [
      | inl above ↦
          (let m = message_found n a t slot v (members (maker n a slot)).up above in
          up (maker n a slot) m.number m.connection m.value (contains_at (members (maker n a slot)).up m.at (Msg m.number t m.value) m.is) m.over m.target)
      | inr below ↦ elim (or_found (last_message n a t slot (members a).down) (look (members a).federate.undone t slot) v below) [
        | inl sent ↦
            (let m = message_found n a t slot v (members a).down sent in
            down m.number m.value (contains_at (members a).down m.at (Msg m.number t m.value) m.is))
        | inr held ↦
            (let e = event_found t slot v (members a).federate.undone held in
            undone e.event (contains_at (members a).federate.undone e.at e.event e.is) e.tag)
      ]
    ]

-- a chain goes on over one more connection
walk_on : (all : List Connection) (k : ℕ) (path : List Connection) (c : Connection) → Contains all c → IsWalk all k path c.source → IsWalk all k (path ++ c ∷ []) c.target
walk_on all k [] c within w = (within, sym w, refl)
walk_on all k (d ∷ rest) c within w = (w.0, w.1, walk_on all d.target rest c within w.2)

-- what is settled behind a connection is settled in front of it
settled_along : (n : Network) (members : ℕ → Member) (s : LogicalTime) (c : Connection) → Contains n.connections c → IsSettled n members c.target (sum_of s c.delay) → IsSettled n members c.source s
settled_along n members s c within settled k u path p w =
    true_from_ne_false (is_before s (then_along u path)) (λ late. (
    let P : LogicalTime → Type 0 = λ x. is_before (sum_of s c.delay) x ≡ true in
    let on : is_before (sum_of s c.delay) (sum_of (then_along u path) c.delay) ≡ true = subst P (along-snoc u path c) (settled k u (path ++ c ∷ []) p (walk_on n.connections k path c within w)) in
    let low = sum_monotone_left (then_along u path) s c.delay ((at_most_by_before (then_along u path) s).1 late) in
    let not = not_before (sum_of s c.delay) (sum_of (then_along u path) c.delay) low in
    cc))

each_at : (P : Connection → Type 0) (cs : List Connection) → ((k : ℕ) (c : Connection) → slice_get cs k ≡ Some c → P c) → AllByRecursion P cs
each_at P [] f = tt
each_at P (c ∷ rest) f = (f 0 c refl, each_at P rest (λ k d e. f (suc k) d e))

-- what is past is before whatever is past the completed tag
past_before : (o : Option LogicalTime) (g x : LogicalTime) → IsOptional o → IsLogicalTime g → place g < above o → is_past o x ≡ true → is_before g x ≡ true
past_before None g x p q l h = absurd (omega arith)
past_before (Some c) g x p q l h = at_most_then g c x (at_most_from_places g c q p (omega arith)) h

traced_by_histories : (n : Network) (members : ℕ → Member) → HasTrace n members → IsTraced n members (histories_of members)
traced_by_histories n members w =
    let P : (ℕ → List Turn) → Type 0 = λ trace. IsTraced n members trace in
    subst P (fun_ext (λ i. sym (w.1.history i))) w.1

pub histories_are_consistent : (n : Network) (table : Table) (rules : ℕ → Rule) → IsLawful n → IsAtMostEveryPath n table → ((k : ℕ) → IsSafeRule n table (rules k)) → StaysConsistent n rules
histories_are_consistent n table rules lawful facts safe moves =
    let sound = moves_sound n table rules moves lawful facts safe in
    let replayed = moves_replay n table rules moves lawful facts safe in
    let w = traced_by_histories n (after_moves n rules moves) (moves_traced n table rules moves lawful facts safe) in
    record {
      rising = λ j h. rising_tags (histories_of (after_moves n rules moves) j) (replayed j).rising;
      called_for = λ j h. from_each (IsCalledFor n (histories_of (after_moves n rules moves)) j) (histories_of (after_moves n rules moves) j) (w.called j h);
      settled = λ j h. from_each (λ x. IsSettled n (after_moves n rules moves) j x.tag) (histories_of (after_moves n rules moves) j)
          (each_more (IsTaken n (after_moves n rules moves j).federate.completed) (λ x. IsSettled n (after_moves n rules moves) j x.tag)
          (λ x t k s path p v.
          past_before (after_moves n rules moves j).federate.completed x.tag (then_along s path) (sound.kept j).own_completed_tag (finite_is_logical x.tag t.finite) t.past
          (completes_nothing_early n table rules lawful facts safe moves k j s path p v))
          (histories_of (after_moves n rules moves) j) (replayed j).taken);
      complete = λ j t at settled some. true_from_ne_false (has_turn_at t (histories_of (after_moves n rules moves) j)) (λ none. (
          let pending = waiting_pending n (after_moves n rules moves) j t some.0 some.1 (w.waits j at.reactor t at.in_time some.0 none ∙ some.2) in
          let before = settled j t [] pending refl in
          let not = before_irreflexive t in
          cc));
      earlier = λ j s t h settled k u path p v. before_transitive s t (then_along u path) h (settled k u path p v);
      along = λ s finite. from_each (λ c. IsTrue (is_at_most (sum_of s c.delay) n.stop) → IsSettled n (after_moves n rules moves) c.target (sum_of s c.delay) → IsSettled n (after_moves n rules moves) c.source s) n.connections
          (each_at (λ c. IsTrue (is_at_most (sum_of s c.delay) n.stop) → IsSettled n (after_moves n rules moves) c.target (sum_of s c.delay) → IsSettled n (after_moves n rules moves) c.source s) n.connections
          (λ k c e below. settled_along n (after_moves n rules moves) s c (contains_at n.connections k c e)));
    }
