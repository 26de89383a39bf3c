-- A federate keeps what it keeps by itself, whatever signals come; and what it sends is in order.
use Rattle.std.proofs.Common.{◌≡◌, ℕ, ◌+◌, ◌<◌, Bool, true, false, cond, IsTrue, List, [], ◌∷◌, ◌++◌, refl, sym, ap, subst, arith, inl, inr, Option, None, Some, IfSome, ℤ}
use Rattle.std.specs.Prelude.{slice_get, filter, map, nat_eq, nat_lt, if◌then◌else◌, not, ◌&&◌, All}
use Rattle.std.specs.List.{AllByRecursion, last_or}
use Rattle.std.specs.Option.{option_map}
use Rattle.std.proofs.lemmas.Bool.{eqb-true}
use Rattle.std.proofs.lemmas.Bool.Decides.{nat_tests}
use Rattle.std.proofs.lemmas.List.Kept.{AllPairs-filter}
use Rattle.tag.specs.LogicalTime.{LogicalTime, IsLogicalTime, IsFinite, is_before, is_at_most, is_same, sum_of, is_past, is_reached}
use Rattle.tag.proofs.Order.{at_most_then, before_at_most, before_then, finite_is_logical, finite_is_not_forever, finite_up_to}
use Rattle.tag.proofs.SumLaws.{sum_at_least_first, sum_is_logical, sum_later}
use Rattle.tag.proofs.Paths.{plain_is_logical}
use Rattle.network.specs.Connection.{Connection}
use Rattle.network.specs.Event.{Event}
use Rattle.network.specs.Network.{Network, Scheduling}
use Rattle.network.specs.Undivided.{Row}
use Rattle.network.specs.Lawful.{IsLawful, IsConnected, IsExternal, IsOwn}
use Rattle.network.specs.Undone.{PendingEvent, is_held_before, Rises, is_for_same, put, put_all, look, first_tag, drop_up_to, pending_event_of}
use Rattle.network.proofs.Lawful.{contained_is}
use Rattle.network.proofs.Items.{each_pair, from_each_pair}
use Rattle.network_laws.proofs.Lists.{each, from_each, each_more, each_filter}
use Rattle.signal.specs.Signal.{IsSignal}
use Rattle.signal.specs.declared.signal.Signal.{Signal}
use Rattle.signal.specs.declared.signal.Signal.TheVariants.{Net, Ltc, Tag, Msg}
use Rattle.protocol.specs.declared.refusal.Refusal.{Refusal}
use Rattle.protocol.specs.declared.refusal.Refusal.TheVariants.{Late, OldGrant, WrongSignal}
use Rattle.protocol.specs.Outcome.{Outcome, Refused, Nothing, Done, IfDone}
use Rattle.protocol.specs.Federate.{Federate, Stepped, initial_federate, is_told, next_event, accept_message, federate_accepts, federate_announces, advance_to, federate_advances, effect_of, scheduled_at, scheduled_by, messages_from, turn_at}
use Rattle.protocol.specs.KeptAlone.{IsStillToRun, IsFederate, is_of_turn, may_go_up, completed_by_ltcs}
use Rattle.protocol_laws.proofs.Tags.{past_then}
use Rattle.protocol_laws.proofs.Upward.{IsOver}
use Rattle.protocol_laws.proofs.Turns.{AreMessages, messages_of_turn, all_first, all_rest}
use Rattle.protocol_laws.proofs.Eligibility.{contains_at}
use Rattle.protocol_laws.proofs.Tests.{both_left, both_right, both_hold, either_case, either_of}

-- what holds of one more event and of each that is undone holds of each once it is put
put_if : (P : PendingEvent → Type 0) (e x : PendingEvent) (rest more : List PendingEvent) (b c : Bool) → P e → AllByRecursion P (x ∷ rest) → AllByRecursion P more → AllByRecursion P (if b then e ∷ x ∷ rest else (if c then e ∷ rest else x ∷ more))
put_if P e x rest more true c p a m = (p, a)
put_if P e x rest more false true p a m = (p, a.1)
put_if P e x rest more false false p a m = (a.0, m)

put_each : (P : PendingEvent → Type 0) (e : PendingEvent) (u : List PendingEvent) → P e → AllByRecursion P u → AllByRecursion P (put e u)
put_each P e [] p a = (p, tt)
put_each P e (x ∷ rest) p a = put_if P e x rest (put e rest) (is_held_before e x) (is_for_same e x) p a (put_each P e rest p a.1)

put_all_each : (P : PendingEvent → Type 0) (es u : List PendingEvent) → AllByRecursion P es → AllByRecursion P u → AllByRecursion P (put_all es u)
put_all_each P [] u a b = b
put_all_each P (e ∷ rest) u a b = put_all_each P rest (put e u) a.1 (put_each P e u a.0 b)

-- the order by tag and slot
held_in_time : (d e : PendingEvent) → is_held_before d e ≡ true → is_at_most d.tag e.tag ≡ true
held_in_time d e p = grind (arith, nat_tests)

earlier_then : (d e f : PendingEvent) → is_before d.tag e.tag ≡ true → is_held_before e f ≡ true → is_held_before d f ≡ true
earlier_then d e f p q =
    either_of (is_before d.tag f.tag) (is_same d.tag f.tag && nat_lt d.slot f.slot) (inl (before_then d.tag e.tag f.tag p (held_in_time e f q)))

lower_then : (d e f : PendingEvent) → (is_same d.tag e.tag && nat_lt d.slot e.slot) ≡ true → is_held_before e f ≡ true → is_held_before d f ≡ true
lower_then d e f p q = grind (arith, nat_tests)

held_then : (d e f : PendingEvent) → is_held_before d e ≡ true → is_held_before e f ≡ true → is_held_before d f ≡ true
held_then d e f p q =
    elim (either_case (is_before d.tag e.tag) (is_same d.tag e.tag && nat_lt d.slot e.slot) p) [ inl b ↦ earlier_then d e f b q | inr s ↦ lower_then d e f s q ]

same_then : (d e f : PendingEvent) → is_for_same d e ≡ true → is_held_before e f ≡ true → is_held_before d f ≡ true
same_then d e f p q = grind (arith, nat_tests)

held_else : (d e : PendingEvent) → is_held_before d e ≡ false → is_for_same d e ≡ false → is_held_before e d ≡ true
held_else d e p q = grind (arith, nat_tests)

abbrev IsBefore : PendingEvent → PendingEvent → Type 0
IsBefore d e = IsTrue (is_held_before d e)

rises_if : (e x : PendingEvent) (rest : List PendingEvent) (b c : Bool) → is_held_before e x ≡ b → is_for_same e x ≡ c → Rises (x ∷ rest) → Rises (put e rest) → Rises (if b then e ∷ x ∷ rest else (if c then e ∷ rest else x ∷ put e rest))
rises_if e x rest true c p q r m = ((p, each_more (IsBefore x) (IsBefore e) (λ y h. held_then e x y p h) rest r.0), r)
rises_if e x rest false true p q r m = (each_more (IsBefore x) (IsBefore e) (λ y h. same_then e x y q h) rest r.0, r.1)
rises_if e x rest false false p q r m = (put_each (IsBefore x) e rest (held_else e x p q) r.0, m)

put_rises : (e : PendingEvent) (u : List PendingEvent) → Rises u → Rises (put e u)
put_rises e [] r = (tt, tt)
put_rises e (x ∷ rest) r = rises_if e x rest (is_held_before e x) (is_for_same e x) refl refl r (put_rises e rest r.1)

put_all_rises : (es u : List PendingEvent) → Rises u → Rises (put_all es u)
put_all_rises [] u r = r
put_all_rises (e ∷ rest) u r = put_all_rises rest (put e u) (put_rises e u r)

-- the initial
opens_if : (n : Network) (j : ℕ) (e : Event) (rest : List Event) (b : Bool) → (b ≡ true → IsStillToRun n j None (pending_event_of e)) → AllByRecursion (IsStillToRun n j None) (map pending_event_of (filter (λ x. nat_eq x.reactor j) rest)) → AllByRecursion (IsStillToRun n j None) (map pending_event_of (cond b (e ∷ filter (λ x. nat_eq x.reactor j) rest) (filter (λ x. nat_eq x.reactor j) rest)))
opens_if n j e rest true h a = (h refl, a)
opens_if n j e rest false h a = a

initial_undone : (n : Network) (j : ℕ) (es : List Event) → All (IsExternal n) es → AllByRecursion (IsStillToRun n j None) (map pending_event_of (filter (λ x. nat_eq x.reactor j) es))
initial_undone n j [] a = tt
initial_undone n j (e ∷ rest) a =
    let here : IsExternal n e = all_first (IsExternal n) e rest a in
    let P : ℕ → Type 0 = λ x. e.slot < n.slots x in
    opens_if n j e rest (nat_eq e.reactor j)
    (λ q. record { finite = here.tag; later = refl; in_time = here.in_time; slot = subst P (eqb-true e.reactor j q) here.slot })
    (initial_undone n j rest (all_rest (IsExternal n) e rest a))

pub initial_is_federate : (n : Network) (j : ℕ) → IsLawful n → IsFederate n j (initial_federate n j)
initial_is_federate n j lawful =
    let events = map pending_event_of (filter (λ x. nat_eq x.reactor j) n.external) in
    record {
      undone = from_each (IsStillToRun n j None) (initial_federate n j).undone
          (put_all_each (IsStillToRun n j None) events [] (initial_undone n j n.external lawful.external) tt);
      rising = from_each_pair IsBefore (initial_federate n j).undone (put_all_rises events [] tt);
      completed = tt;
      granted = tt;
      last_row = refl;
    }

-- a step of a federate that leaves a federate, if it is done
abbrev pub LeavesFederate : Network → ℕ → Outcome Stepped → Type 0
LeavesFederate n j o = IfDone o (λ made. IsFederate n j made.after)

leaves_if : (n : Network) (j : ℕ) (b : Bool) (refusal : Refusal) (o : Outcome Stepped) → (b ≡ true → LeavesFederate n j o) → LeavesFederate n j (if not b then Refused refusal else o)
leaves_if n j true refusal o h = h refl
leaves_if n j false refusal o h = tt

-- a message
message_leaves : (n : Network) (j : ℕ) (f : Federate) (number : ℕ) (o : Option Connection) (g : LogicalTime) (v : ℤ) → IsLawful n → IsFinite g → slice_get n.connections number ≡ o → IsFederate n j f → LeavesFederate n j (accept_message n j f o g v)
message_leaves n j f number None g v lawful finite e k = tt
message_leaves n j f number (Some c) g v lawful finite e k =
    let more : PendingEvent = record { tag = g; slot = c.slot; value = v } in
    let made : Stepped = record { after = record f { undone = put (record { tag = g; slot = c.slot; value = v }) f.undone }; sent = [] } in
    let connected : IsConnected n c = contained_is n c lawful (contains_at n.connections number c e) in
    let P : ℕ → Type 0 = λ x. c.slot < n.slots x in
    leaves_if n j (nat_eq c.target j && is_at_most g n.stop) WrongSignal (if not (is_past f.completed g && is_past f.granted g) then Refused Late else Done made)
    (λ t. leaves_if n j (is_past f.completed g && is_past f.granted g) Late (Done made)
    (λ q. record {
      undone = from_each (IsStillToRun n j f.completed) (put more f.undone)
          (put_each (IsStillToRun n j f.completed) more f.undone
          (record {
            finite = finite;
            later = both_left (is_past f.completed g) (is_past f.granted g) q;
            in_time = both_right (nat_eq c.target j) (is_at_most g n.stop) t;
            slot = subst P (eqb-true c.target j (both_left (nat_eq c.target j) (is_at_most g n.stop) t)) connected.slot;
          })
          (each (IsStillToRun n j f.completed) f.undone k.undone));
      rising = from_each_pair IsBefore (put more f.undone) (put_rises more f.undone (each_pair IsBefore f.undone k.rising));
      completed = k.completed;
      granted = k.granted;
      last_row = k.last_row;
    }))

-- what was completed stays granted
still_granted : (completed granted : Option LogicalTime) (g : LogicalTime) → IfSome completed (λ tag. IsFinite tag × IsTrue (is_reached granted tag)) → is_past granted g ≡ true → IfSome completed (λ tag. IsFinite tag × IsTrue (is_at_most tag g))
still_granted None granted g h p = tt
still_granted (Some c) None g h p = let never = h.1 in cc
still_granted (Some c) (Some d) g h p = (h.0, before_at_most c g (at_most_then c d g h.1 p))

-- a TAG
grant_leaves : (n : Network) (j : ℕ) (f : Federate) (g : LogicalTime) → IsFinite g → IsFederate n j f → LeavesFederate n j (federate_accepts n j f (Tag g))
grant_leaves n j f g finite k =
    let made : Stepped = record { after = record f { granted = Some g }; sent = [] } in
    leaves_if n j (is_at_most g n.stop) WrongSignal (if not (is_past f.granted g) then Refused OldGrant else Done made)
    (λ t. leaves_if n j (is_past f.granted g) OldGrant (Done made)
    (λ q. record {
      undone = k.undone;
      rising = k.rising;
      completed = still_granted f.completed f.granted g k.completed q;
      granted = (finite, t);
      last_row = k.last_row;
    }))

pub accept_leaves : (n : Network) (j : ℕ) (f : Federate) (signal : Signal) → IsLawful n → IsSignal signal → IsFederate n j f → LeavesFederate n j (federate_accepts n j f signal)
accept_leaves n j f (Net g) lawful is k = tt
accept_leaves n j f (Ltc g) lawful is k = tt
accept_leaves n j f (Tag g) lawful is k = grant_leaves n j f g is k
accept_leaves n j f (Msg number g v) lawful is k = message_leaves n j f number (slice_get n.connections number) g v lawful is.1 refl k

-- an announcement
announces_if : (n : Network) (j : ℕ) (f : Federate) (b : Bool) → IsFederate n j f → LeavesFederate n j (if b then Nothing else Done (record { after = record f { announced = Some (next_event f) }; sent = Net (next_event f) ∷ [] }))
announces_if n j f true k = tt
announces_if n j f false k = record { undone = k.undone; rising = k.rising; completed = k.completed; granted = k.granted; last_row = k.last_row }

pub announce_leaves : (n : Network) (j : ℕ) (f : Federate) → IsFederate n j f → LeavesFederate n j (federate_announces f)
announce_leaves n j f k = announces_if n j f (is_told f.announced (next_event f)) k

-- what a turn schedules
scheduled_later : (n : Network) (j : ℕ) (g : LogicalTime) (ss : List Scheduling) → IsFinite g → All (IsOwn n j) ss → AllByRecursion (λ e. IsLogicalTime e.tag × IsTrue (is_before g e.tag) × (e.slot < n.slots j)) (map (scheduled_at g) ss)
scheduled_later n j g [] finite a = tt
scheduled_later n j g (s ∷ rest) finite a =
    let own : IsOwn n j s = all_first (IsOwn n j) s rest a in
    let tag = finite_is_logical g finite in (
      (sum_is_logical g s.delay tag (plain_is_logical s.delay own.delay), sum_later g s.delay tag (finite_is_not_forever g finite) own.later, own.slot),
      scheduled_later n j g rest finite (all_rest (IsOwn n j) s rest a),
    )

-- the least undone tag
first_runs : (n : Network) (j : ℕ) (completed : Option LogicalTime) (u : List PendingEvent) (g : LogicalTime) → first_tag u ≡ Some g → AllByRecursion (IsStillToRun n j completed) u → IsFinite g × IsTrue (is_past completed g) × IsTrue (is_at_most g n.stop)
first_runs n j completed [] g e a = cc
first_runs n j completed (x ∷ rest) g e a =
    let same : x.tag ≡ g = cc in
    let P : LogicalTime → Type 0 = λ t. IsFinite t × IsTrue (is_past completed t) × IsTrue (is_at_most t n.stop) in
    subst P same (a.0.finite, a.0.later, a.0.in_time)

last_of : (o : Option Row) (rows : List Row) (row : Row) → last_or o (rows ++ row ∷ []) ≡ Some row
last_of o [] row = refl
last_of o (x ∷ rest) row = last_of (Some x) rest row

turn_leaves : (n : Network) (j : ℕ) (f : Federate) (g : LogicalTime) → IsLawful n → first_tag f.undone ≡ Some g → IsTrue (is_reached f.granted g) → IsFederate n j f → IsFederate n j (turn_at n j f g).after
turn_leaves n j f g lawful first reached k =
    let undone = each (IsStillToRun n j f.completed) f.undone k.undone in
    let least = first_runs n j f.completed f.undone g first undone in
    let own = scheduled_later n j g (effect_of n j f g).schedulings least.0 (lawful.schedulings j f.states (look f.undone g)) in
    let more = scheduled_by n g (effect_of n j f g) in
    let left = drop_up_to g f.undone in
    record {
      undone = from_each (IsStillToRun n j (Some g)) (put_all more left)
          (put_all_each (IsStillToRun n j (Some g)) more left
          (each_filter (λ e. IsLogicalTime e.tag × IsTrue (is_before g e.tag) × (e.slot < n.slots j)) (IsStillToRun n j (Some g)) (λ e. is_at_most e.tag n.stop)
          (λ e t h. record { finite = finite_up_to e.tag n.stop h.0 lawful.stop t; later = h.1; in_time = t; slot = h.2 })
          (map (scheduled_at g) (effect_of n j f g).schedulings) own)
          (each_filter (IsStillToRun n j f.completed) (IsStillToRun n j (Some g)) (λ e. is_before g e.tag)
          (λ e t h. record { finite = h.finite; later = t; in_time = h.in_time; slot = h.slot }) f.undone undone));
      rising = from_each_pair IsBefore (put_all more left) (put_all_rises more left (each_pair IsBefore left (AllPairs-filter IsBefore (λ e. is_before g e.tag) f.undone k.rising)));
      completed = (least.0, reached);
      granted = k.granted;
      last_row = ap (option_map (λ row. row.tag)) (last_of None f.rows _);
    }

advances_if : (n : Network) (j : ℕ) (f : Federate) (g : LogicalTime) (b : Bool) → (b ≡ true → IsTrue (is_reached f.granted g)) → IsLawful n → first_tag f.undone ≡ Some g → IsFederate n j f → LeavesFederate n j (if b then Done (turn_at n j f g) else Nothing)
advances_if n j f g true t lawful first k = turn_leaves n j f g lawful first (t refl) k
advances_if n j f g false t lawful first k = tt

advances_to : (n : Network) (j : ℕ) (f : Federate) (o : Option LogicalTime) → IsLawful n → first_tag f.undone ≡ o → IsFederate n j f → LeavesFederate n j (advance_to n j f o)
advances_to n j f None lawful first k = tt
advances_to n j f (Some g) lawful first k = advances_if n j f g (is_reached f.granted g) (λ t. t) lawful first k

pub advance_leaves : (n : Network) (j : ℕ) (f : Federate) → IsLawful n → IsFederate n j f → LeavesFederate n j (federate_advances n j f)
advance_leaves n j f lawful k = advances_to n j f (first_tag f.undone) lawful refl k

-- what a step sends is in order, and its LTC is what is completed then
abbrev pub SendsInOrder : Federate → Outcome Stepped → Type 0
SendsInOrder f o = IfDone o (λ made. IsTrue (may_go_up f.completed made.sent) × (made.after.completed ≡ completed_by_ltcs f.completed made.sent))

-- and it is messages, then one LTC
abbrev pub SendsTurn : Federate → Outcome Stepped → Type 0
SendsTurn f o = IfDone o (λ made. IsTrue (is_of_turn made.sent) × IsTrue (may_go_up f.completed made.sent) × (made.after.completed ≡ completed_by_ltcs f.completed made.sent))

sends_if : (f : Federate) (b : Bool) (refusal : Refusal) (o : Outcome Stepped) → SendsInOrder f o → SendsInOrder f (if not b then Refused refusal else o)
sends_if f true refusal o h = h
sends_if f false refusal o h = tt

message_sends : (n : Network) (j : ℕ) (f : Federate) (o : Option Connection) (g : LogicalTime) (v : ℤ) → SendsInOrder f (accept_message n j f o g v)
message_sends n j f None g v = tt
message_sends n j f (Some c) g v =
    let made : Stepped = record { after = record f { undone = put (record { tag = g; slot = c.slot; value = v }) f.undone }; sent = [] } in
    sends_if f (nat_eq c.target j && is_at_most g n.stop) WrongSignal (if not (is_past f.completed g && is_past f.granted g) then Refused Late else Done made)
    (sends_if f (is_past f.completed g && is_past f.granted g) Late (Done made) (refl, refl))

pub accept_sends : (n : Network) (j : ℕ) (f : Federate) (signal : Signal) → SendsInOrder f (federate_accepts n j f signal)
accept_sends n j f (Net g) = tt
accept_sends n j f (Ltc g) = tt
accept_sends n j f (Tag g) =
    let made : Stepped = record { after = record f { granted = Some g }; sent = [] } in
    sends_if f (is_at_most g n.stop) WrongSignal (if not (is_past f.granted g) then Refused OldGrant else Done made)
    (sends_if f (is_past f.granted g) OldGrant (Done made) (refl, refl))
accept_sends n j f (Msg number g v) = message_sends n j f (slice_get n.connections number) g v

net_sends : (f : Federate) (b : Bool) → SendsInOrder f (if b then Nothing else Done (record { after = record f { announced = Some (next_event f) }; sent = Net (next_event f) ∷ [] }))
net_sends f true = tt
net_sends f false = (refl, refl)

pub announce_sends : (f : Federate) → SendsInOrder f (federate_announces f)
announce_sends f = net_sends f (is_told f.announced (next_event f))

-- over a connection it is the turn's tag or later
over_later : (n : Network) (j : ℕ) (completed : Option LogicalTime) (g t : LogicalTime) (o : Option Connection) → IsLogicalTime g → is_past completed g ≡ true → IsOver n j o g t → is_past completed t ≡ true
over_later n j completed g t None tag past over = absurd over
over_later n j completed g t (Some c) tag past over =
    let P : LogicalTime → Type 0 = λ x. is_past completed x ≡ true in
    let is_sum : t ≡ sum_of g c.delay = over.1 in
    subst P (sym is_sum) (past_then completed g (sum_of g c.delay) past (sum_at_least_first g c.delay tag))

turn_sends : (n : Network) (j : ℕ) (completed : Option LogicalTime) (g : LogicalTime) (xs : List Signal) → IsLogicalTime g → is_past completed g ≡ true → AreMessages n j g xs → IsTrue (is_of_turn (xs ++ Ltc g ∷ [])) × IsTrue (may_go_up completed (xs ++ Ltc g ∷ [])) × (Some g ≡ completed_by_ltcs completed (xs ++ Ltc g ∷ []))
turn_sends n j completed g [] tag past h = (refl, both_hold (is_past completed g) true past refl, refl)
turn_sends n j completed g (Net t ∷ rest) tag past h = absurd h
turn_sends n j completed g (Ltc t ∷ rest) tag past h = absurd h
turn_sends n j completed g (Tag t ∷ rest) tag past h = absurd h
turn_sends n j completed g (Msg k t v ∷ rest) tag past h =
    let more = turn_sends n j completed g rest tag past h.1 in
    (more.0, both_hold (is_past completed t) (may_go_up completed (rest ++ Ltc g ∷ [])) (over_later n j completed g t (slice_get n.connections k) tag past h.0) more.1, more.2)

advance_if : (n : Network) (j : ℕ) (f : Federate) (g : LogicalTime) (b : Bool) → first_tag f.undone ≡ Some g → IsFederate n j f → SendsTurn f (if b then Done (turn_at n j f g) else Nothing)
advance_if n j f g false first k = tt
advance_if n j f g true first k =
    let least = first_runs n j f.completed f.undone g first (each (IsStillToRun n j f.completed) f.undone k.undone) in
    let outputs = (effect_of n j f g).outputs in
    turn_sends n j f.completed g (messages_from n j g outputs 0 n.connections) (finite_is_logical g least.0) least.1
    (messages_of_turn n j g outputs 0 n.connections (λ m. (let e : m ≡ 0 + m = omega arith in ap (slice_get n.connections) e)))

advance_to_sends : (n : Network) (j : ℕ) (f : Federate) (o : Option LogicalTime) → first_tag f.undone ≡ o → IsFederate n j f → SendsTurn f (advance_to n j f o)
advance_to_sends n j f None first k = tt
advance_to_sends n j f (Some g) first k = advance_if n j f g (is_reached f.granted g) first k

pub advance_sends : (n : Network) (j : ℕ) (f : Federate) → IsFederate n j f → SendsTurn f (federate_advances n j f)
advance_sends n j f k = advance_to_sends n j f (first_tag f.undone) refl k
