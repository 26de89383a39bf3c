-- What each federate keeps of its turns: its rows and its states are those of replaying the history that its rows tell.
use Rattle.std.proofs.Common.{◌≡◌, ℕ, ◌<◌, ◌≤◌, Bool, true, false, cond, IsTrue, List, [], ◌∷◌, ◌++◌, length, refl, sym, ap, subst, ◌∙◌, arith, Option, None, Some, ℤ}
use Rattle.std.specs.Prelude.{slice_get, filter, map, reverse, nat_eq, if◌then◌else◌, not, ◌&&◌, All}
use Rattle.std.specs.List.{AllByRecursion}
use Rattle.std.proofs.lemmas.Bool.Decides.{nat_tests}
use Rattle.std.proofs.lemmas.List.{map-append, reverse-append}
use Rattle.std.proofs.lemmas.Bool.{eqb-true}
use Rattle.tag.specs.LogicalTime.{LogicalTime, IsFinite, is_before, is_at_most, is_same, place, is_past, is_reached}
use Rattle.tag.proofs.Order.{at_most_from_places, before_from_places, finite_by_place, finite_is_logical, place_of_finite}
use Rattle.network.specs.Connection.{Connection}
use Rattle.network.specs.Event.{Event, listed}
use Rattle.network.specs.Network.{Network, Scheduling}
use Rattle.network.specs.Undivided.{Row}
use Rattle.network.specs.Lawful.{IsLawful, IsConnected, IsExternal, IsOwn}
use Rattle.network.specs.Tables.{Table, IsAtMostEveryPath}
use Rattle.network_laws.specs.History.{Turn, HasRisingTags, turn_of_row, history_of, states_after, row_after, rows_of}
use Rattle.network_laws.proofs.Lists.{from_each, each_more}
use Rattle.network_laws.proofs.Meet.{IsRising}
use Rattle.network_laws.proofs.ReadBack.{listing_reads}
use Rattle.signal.specs.declared.signal.Signal.{Signal}
use Rattle.signal.specs.declared.signal.Signal.TheVariants.{Net, Ltc, Tag, Msg}
use Rattle.protocol.specs.declared.refusal.Refusal.{Refusal}
use Rattle.protocol.specs.declared.refusal.Refusal.TheVariants.{Late, OldGrant, WrongSignal}
use Rattle.protocol.specs.Outcome.{Outcome, Refused, Nothing, Done, made_or, with_made}
use Rattle.network.specs.Undone.{PendingEvent, put, put_all, look, first_tag, drop_up_to, is_held_before, is_for_same, pending_event_of}
use Rattle.network.proofs.Lawful.{contained_is}
use Rattle.protocol.specs.Federate.{Federate, Stepped, initial_federate, is_told, next_event, accept_message, federate_accepts, federate_announces, advance_to, federate_advances, effect_of, scheduled_at, scheduled_by, row_of_turn, turn_at}
use Rattle.protocol.specs.Coordinator.{Coordinated, coordinator_accepts}
use Rattle.protocol.specs.Grant.{Rule, IsSafeRule}
use Rattle.protocol.specs.Machine.{Member, Move, ToCoordinator, ToFederate, Announce, Advance, Lose, with_member, federate_records_of, coordinated, coordinator_takes_from, stepped, federate_takes_from, outcome_of, after_moves}
use Rattle.protocol_laws.proofs.Tags.{above}
use Rattle.protocol_laws.proofs.StillUndone.{IsUndone}
use Rattle.protocol_laws.proofs.Turns.{all_first, all_rest}
use Rattle.protocol_laws.proofs.Kept.{first_is}
use Rattle.protocol_laws.proofs.Backing.{at_update}
use Rattle.protocol_laws.proofs.Eligibility.{contains_at}
use Rattle.protocol_laws.proofs.Tests.{both_left}
use Rattle.protocol_laws.proofs.Safety.{IsSound, moves_sound}

-- each of these is at one of the first `count` slots
abbrev pub AreAtSlots : ℕ → List PendingEvent → Type 0
AreAtSlots count [] = Unit {0}
AreAtSlots count (x ∷ rest) = (x.slot < count) × AreAtSlots count rest

put_if : (count : ℕ) (e x : PendingEvent) (rest more : List PendingEvent) (b c : Bool) → e.slot < count → AreAtSlots count (x ∷ rest) → AreAtSlots count more → AreAtSlots count (if b then e ∷ x ∷ rest else (if c then e ∷ rest else x ∷ more))
put_if count e x rest more true c l a r = (l, (a.0, a.1))
put_if count e x rest more false true l a r = (l, a.1)
put_if count e x rest more false false l a r = (a.0, r)

pub put_at_slots : (count : ℕ) (e : PendingEvent) (u : List PendingEvent) → e.slot < count → AreAtSlots count u → AreAtSlots count (put e u)
put_at_slots count e [] l a = (l, tt)
put_at_slots count e (x ∷ rest) l a = put_if count e x rest (put e rest) (is_held_before e x) (is_for_same e x) l a (put_at_slots count e rest l a.1)

pub put_all_at_slots : (count : ℕ) (es u : List PendingEvent) → AreAtSlots count es → AreAtSlots count u → AreAtSlots count (put_all es u)
put_all_at_slots count [] u a h = h
put_all_at_slots count (e ∷ rest) u a h = put_all_at_slots count rest (put e u) a.1 (put_at_slots count e u a.0 h)

keep_if : (count : ℕ) (x : PendingEvent) (kept : List PendingEvent) (b : Bool) → x.slot < count → AreAtSlots count kept → AreAtSlots count (cond b (x ∷ kept) kept)
keep_if count x kept true l a = (l, a)
keep_if count x kept false l a = a

pub drop_at_slots : (count : ℕ) (g : LogicalTime) (u : List PendingEvent) → AreAtSlots count u → AreAtSlots count (drop_up_to g u)
drop_at_slots count g [] a = tt
drop_at_slots count g (x ∷ rest) a = keep_if count x (drop_up_to g rest) (is_before g x.tag) a.0 (drop_at_slots count g rest a.1)

pub scheduled_at_slots : (n : Network) (j : ℕ) (g : LogicalTime) (ss : List Scheduling) → All (IsOwn n j) ss → AreAtSlots (n.slots j) (filter (λ e. is_at_most e.tag n.stop) (map (scheduled_at g) ss))
scheduled_at_slots n j g [] a = tt
scheduled_at_slots n j g (s ∷ rest) a =
    let own : IsOwn n j s = all_first (IsOwn n j) s rest a in
    keep_if (n.slots j) (scheduled_at g s) (filter (λ e. is_at_most e.tag n.stop) (map (scheduled_at g) rest)) (is_at_most (scheduled_at g s).tag n.stop) own.slot
    (scheduled_at_slots n j g rest (all_rest (IsOwn n j) s rest a))

external_if : (count : ℕ) (j : ℕ) (e : Event) (rest : List Event) (b : Bool) → (b ≡ true → e.slot < count) → AreAtSlots count (map pending_event_of (filter (λ x. nat_eq x.reactor j) rest)) → AreAtSlots count (map pending_event_of (cond b (e ∷ filter (λ x. nat_eq x.reactor j) rest) (filter (λ x. nat_eq x.reactor j) rest)))
external_if count j e rest true l a = (l refl, a)
external_if count j e rest false l a = a

external_at_slots : (n : Network) (j : ℕ) (es : List Event) → All (IsExternal n) es → AreAtSlots (n.slots j) (map pending_event_of (filter (λ e. nat_eq e.reactor j) es))
external_at_slots n j [] a = tt
external_at_slots n j (e ∷ rest) a =
    let here : IsExternal n e = all_first (IsExternal n) e rest a in
    let P : ℕ → Type 0 = λ x. e.slot < n.slots x in
    external_if (n.slots j) j e rest (nat_eq e.reactor j) (λ q. subst P (eqb-true e.reactor j q) here.slot) (external_at_slots n j rest (all_rest (IsExternal n) e rest a))

not_here : (a : Bool) (x slot : ℕ) → x < slot → (a && nat_eq x slot) ≡ false
not_here true x slot l = grind (arith, nat_tests)
not_here false x slot l = refl

unless : {A : Type 0} (b : Bool) (x y : A) → b ≡ false → (if b then x else y) ≡ y
unless true x y e = cc
unless false x y e = refl

-- nothing is present beyond the slots
pub none_beyond : (count : ℕ) (u : List PendingEvent) (g : LogicalTime) (slot : ℕ) → AreAtSlots count u → count ≤ slot → look u g slot ≡ None
none_beyond count [] g slot a l = refl
none_beyond count (x ∷ rest) g slot a l =
    let here = a.0 in
    unless (is_same x.tag g && nat_eq x.slot slot) (Some x.value) (look rest g slot) (not_here (is_same x.tag g) x.slot slot (omega arith)) ∙ none_beyond count rest g slot a.1 l

-- the turn that a federate takes at a tag
abbrev pub turn_taken : Federate → LogicalTime → Turn
turn_taken f g = record { tag = g; present = look f.undone g }

-- the row of a turn tells the turn
row_tells : (n : Network) (j : ℕ) (f : Federate) (g : LogicalTime) → AreAtSlots (n.slots j) f.undone → turn_of_row (row_of_turn n j f g) ≡ turn_taken f g
row_tells n j f g a =
    let read = listing_reads (n.slots j) (look f.undone g) (λ slot l. none_beyond (n.slots j) f.undone g slot a l) in
    λ i. record { tag = g; present = read i }

one_more_row : (rows : List Row) (row : Row) → history_of (rows ++ row ∷ []) ≡ turn_of_row row ∷ history_of rows
one_more_row rows row = ap reverse (map-append turn_of_row rows (row ∷ [])) ∙ reverse-append (map turn_of_row rows) (turn_of_row row ∷ [])

-- after a turn the history is one turn longer
pub history_grows : (n : Network) (j : ℕ) (f : Federate) (g : LogicalTime) → AreAtSlots (n.slots j) f.undone → history_of (turn_at n j f g).after.rows ≡ turn_taken f g ∷ history_of f.rows
history_grows n j f g a = one_more_row f.rows (row_of_turn n j f g) ∙ ap (λ (x : Turn). x ∷ history_of f.rows) (row_tells n j f g a)

-- the tag of the newest turn
abbrev pub newest_tag : List Turn → Option LogicalTime
newest_tag [] = None
newest_tag (turn ∷ earlier) = Some turn.tag

-- a turn up to stop, not later than what is completed
pub record IsTaken (n : Network) (completed : Option LogicalTime) (turn : Turn) : Type 0 where
  pub finite : IsFinite turn.tag
  pub in_time : IsTrue (is_at_most turn.tag n.stop)
  pub past : place turn.tag < above completed

pub record IsReplayed (n : Network) (j : ℕ) (f : Federate) : Type 0 where
  pub slots : AreAtSlots (n.slots j) f.undone
  pub rows : f.rows ≡ rows_of n j (history_of f.rows)
  pub states : f.states ≡ states_after n j (history_of f.rows)
  pub newest : f.completed ≡ newest_tag (history_of f.rows)
  pub taken : AllByRecursion (IsTaken n f.completed) (history_of f.rows)
  pub rising : IsRising (history_of f.rows)

-- the least undone tag is run
pub turn_replays : (n : Network) (j : ℕ) (f : Federate) (g : LogicalTime) → IsLawful n → IsUndone n.stop (above f.completed) f.undone → first_tag f.undone ≡ Some g → IsReplayed n j f → IsReplayed n j (turn_at n j f g).after
turn_replays n j f g lawful undone first r =
    let grows = history_grows n j f g r.slots in
    let stop = finite_is_logical n.stop lawful.stop in
    let is = first_is n.stop (above f.completed) f.undone g undone first in
    let low = is.1 in
    let high = is.2 in
    let end = place_of_finite n.stop lawful.stop in
    let row : row_of_turn n j f g ≡ row_after n j (history_of f.rows) (turn_taken f g) = ap (λ (s : List ℤ). record { reactor = j; tag = g; inputs = listed (n.slots j) (look f.undone g); outputs = listed (n.ports j) (n.effect j s (look f.undone g)).outputs }) r.states in
    let Rows : List Turn → Type 0 = λ h. (turn_at n j f g).after.rows ≡ rows_of n j h in
    let States : List Turn → Type 0 = λ h. (turn_at n j f g).after.states ≡ states_after n j h in
    let Newest : List Turn → Type 0 = λ h. Some g ≡ newest_tag h in
    let Taken : List Turn → Type 0 = λ h. AllByRecursion (IsTaken n (Some g)) h in
    let Rising : List Turn → Type 0 = λ h. IsRising h in
    record {
      slots =
          put_all_at_slots (n.slots j) (scheduled_by n g (effect_of n j f g)) (drop_up_to g f.undone)
          (scheduled_at_slots n j g (effect_of n j f g).schedulings (lawful.schedulings j f.states (look f.undone g)))
          (drop_at_slots (n.slots j) g f.undone r.slots);
      rows = subst Rows (sym grows) (λ i. r.rows i ++ row i ∷ []);
      states = subst States (sym grows) (ap (λ (s : List ℤ). (n.effect j s (look f.undone g)).states) r.states);
      newest = subst Newest (sym grows) refl;
      taken =
          subst Taken (sym grows) (
            record { finite = record { time = finite_by_place g is.0 (omega arith); microstep = is.0.microstep }; in_time = at_most_from_places g n.stop is.0 stop high; past = omega arith },
            each_more (IsTaken n f.completed) (IsTaken n (Some g)) (λ x t. (let p = t.past in record { finite = t.finite; in_time = t.in_time; past = omega arith })) (history_of f.rows) r.taken,
          );
      rising =
          subst Rising (sym grows)
          (each_more (IsTaken n f.completed) (λ y. IsTrue (is_before y.tag g)) (λ x t. (let p = t.past in before_from_places x.tag g (finite_is_logical x.tag t.finite) is.0 (omega arith))) (history_of f.rows) r.taken, r.rising);
    }

-- how a federate's step ends
abbrev pub StepReplays : Network → ℕ → Outcome Stepped → Type 0
StepReplays n j (Refused refusal) = Unit {0}
StepReplays n j Nothing = Unit {0}
StepReplays n j (Done made) = IsReplayed n j made.after

step_if : (n : Network) (j : ℕ) (b : Bool) (x : Outcome Stepped) (refusal : Refusal) → (b ≡ true → StepReplays n j x) → StepReplays n j (if not b then Refused refusal else x)
step_if n j true x refusal h = h refl
step_if n j false x refusal h = tt

message_replays : (n : Network) (j : ℕ) (f : Federate) (number : ℕ) (o : Option Connection) (g : LogicalTime) (v : ℤ) → IsLawful n → slice_get n.connections number ≡ o → IsReplayed n j f → StepReplays n j (accept_message n j f o g v)
message_replays n j f number None g v lawful e r = tt
message_replays n j f number (Some c) g v lawful e r =
    let after : Federate = record f { undone = put (record { tag = g; slot = c.slot; value = v }) f.undone } in
    let made : Stepped = record { after = record f { undone = put (record { tag = g; slot = c.slot; value = v }) f.undone }; sent = [] } in
    let connected : IsConnected n c = contained_is n c lawful (contains_at n.connections number c e) in
    let P : ℕ → Type 0 = λ x. c.slot < n.slots x in
    step_if n j (nat_eq c.target j && is_at_most g n.stop) (if not (is_past f.completed g && is_past f.granted g) then Refused Late else Done made) WrongSignal
    (λ t. step_if n j (is_past f.completed g && is_past f.granted g) (Done made) Late
    (λ q. record {
      slots = put_at_slots (n.slots j) (record { tag = g; slot = c.slot; value = v }) f.undone (subst P (eqb-true c.target j (both_left (nat_eq c.target j) (is_at_most g n.stop) t)) connected.slot) r.slots;
      rows = r.rows;
      states = r.states;
      newest = r.newest;
      taken = r.taken;
      rising = r.rising;
    }))

accepts_replays : (n : Network) (j : ℕ) (f : Federate) (signal : Signal) → IsLawful n → IsReplayed n j f → StepReplays n j (federate_accepts n j f signal)
accepts_replays n j f (Net g) lawful r = tt
accepts_replays n j f (Ltc g) lawful r = tt
accepts_replays n j f (Tag g) lawful r =
    let made : Stepped = record { after = record f { granted = Some g }; sent = [] } in
    step_if n j (is_at_most g n.stop) (if not (is_past f.granted g) then Refused OldGrant else Done made) WrongSignal
    (λ t. step_if n j (is_past f.granted g) (Done made) OldGrant
    (λ q. record { slots = r.slots; rows = r.rows; states = r.states; newest = r.newest; taken = r.taken; rising = r.rising }))
accepts_replays n j f (Msg number g v) lawful r = message_replays n j f number (slice_get n.connections number) g v lawful refl r

announces_if : (n : Network) (j : ℕ) (f : Federate) (b : Bool) → IsReplayed n j f → StepReplays n j (if b then Nothing else Done (record { after = record f { announced = Some (next_event f) }; sent = Net (next_event f) ∷ [] }))
announces_if n j f true r = tt
announces_if n j f false r = record { slots = r.slots; rows = r.rows; states = r.states; newest = r.newest; taken = r.taken; rising = r.rising }

advances_if : (n : Network) (j : ℕ) (f : Federate) (g : LogicalTime) (b : Bool) → IsLawful n → IsUndone n.stop (above f.completed) f.undone → first_tag f.undone ≡ Some g → IsReplayed n j f → StepReplays n j (if b then Done (turn_at n j f g) else Nothing)
advances_if n j f g true lawful undone first r = turn_replays n j f g lawful undone first r
advances_if n j f g false lawful undone first r = tt

advances_to : (n : Network) (j : ℕ) (f : Federate) (o : Option LogicalTime) → IsLawful n → IsUndone n.stop (above f.completed) f.undone → first_tag f.undone ≡ o → IsReplayed n j f → StepReplays n j (advance_to n j f o)
advances_to n j f None lawful undone first r = tt
advances_to n j f (Some g) lawful undone first r = advances_if n j f g (is_reached f.granted g) lawful undone first r

-- all federates
abbrev pub AllReplayed : Network → (ℕ → Member) → Type 0
AllReplayed n members = (j : ℕ) → IsReplayed n j (members j).federate

abbrev MoveReplays : Network → Outcome (ℕ → Member) → Type 0
MoveReplays n (Refused refusal) = Unit {0}
MoveReplays n Nothing = Unit {0}
MoveReplays n (Done members) = AllReplayed n members

-- one member is replaced
member_replays : (n : Network) (members : ℕ → Member) (i : ℕ) (m : Member) → IsReplayed n i m.federate → AllReplayed n members → AllReplayed n (with_member members i m)
member_replays n members i m own all j =
    let P : Member → Type 0 = λ x. IsReplayed n j x.federate in
    let Q : ℕ → Type 0 = λ x. IsReplayed n x m.federate in
    at_update P m (members j) j i (λ e. subst Q (sym e) own) (all j)

step_replays : (n : Network) (members : ℕ → Member) (i : ℕ) (rest : List Signal) (o : Outcome Stepped) (lost : Bool) → StepReplays n i o → AllReplayed n members → MoveReplays n (if lost then Nothing else with_made (with_member members i) (with_made (stepped (members i) rest) o))
step_replays n members i rest o true s all = tt
step_replays n members i rest (Refused refusal) false s all = tt
step_replays n members i rest Nothing false s all = tt
step_replays n members i rest (Done made) false s all = member_replays n members i (stepped (members i) rest made) s all

take_replays : (n : Network) (members : ℕ → Member) (i : ℕ) (down : List Signal) (lost : Bool) → IsLawful n → AllReplayed n members → MoveReplays n (if lost then Nothing else with_made (with_member members i) (federate_takes_from n i (members i) down))
take_replays n members i [] true lawful all = tt
take_replays n members i [] false lawful all = tt
take_replays n members i (signal ∷ rest) lost lawful all = step_replays n members i rest (federate_accepts n i (members i).federate signal) lost (accepts_replays n i (members i).federate signal lawful (all i)) all

coordinated_replays : (n : Network) (members : ℕ → Member) (o : Outcome Coordinated) → AllReplayed n members → MoveReplays n (with_made (λ made. λ j. coordinated made j (members j)) o)
coordinated_replays n members (Refused refusal) all = tt
coordinated_replays n members Nothing all = tt
coordinated_replays n members (Done made) all = all

coordinator_replays : (n : Network) (rule : Rule) (members : ℕ → Member) (i : ℕ) (up : List Signal) → AllReplayed n members → MoveReplays n (coordinator_takes_from n rule members i up)
coordinator_replays n rule members i [] all = tt
coordinator_replays n rule members i (signal ∷ rest) all =
    coordinated_replays n (with_member members i (record (members i) { up = rest })) (coordinator_accepts n rule (federate_records_of members) i signal) (member_replays n members i (record (members i) { up = rest }) (all i) all)

move_replays : (n : Network) (table : Table) (rule : Rule) (members : ℕ → Member) (move : Move) → IsLawful n → IsSound n table members → AllReplayed n members → MoveReplays n (outcome_of n rule members move)
move_replays n table rule members (ToCoordinator i) lawful sound all = coordinator_replays n rule members i (members i).up all
move_replays n table rule members (ToFederate i) lawful sound all = take_replays n members i (members i).down (members i).lost lawful all
move_replays n table rule members (Announce i) lawful sound all =
    step_replays n members i (members i).down (federate_announces (members i).federate) (members i).lost (announces_if n i (members i).federate (is_told (members i).federate.announced (next_event (members i).federate)) (all i)) all
move_replays n table rule members (Advance i) lawful sound all =
    step_replays n members i (members i).down (federate_advances n i (members i).federate) (members i).lost (advances_to n i (members i).federate (first_tag (members i).federate.undone) lawful (sound.kept i).undone refl (all i)) all
move_replays n table rule members (Lose i) lawful sound all = member_replays n members i (record (members i) { lost = true }) (all i) all

made_replays : (n : Network) (members : ℕ → Member) (o : Outcome (ℕ → Member)) → AllReplayed n members → MoveReplays n o → AllReplayed n (made_or members o)
made_replays n members (Refused refusal) all m = all
made_replays n members Nothing all m = all
made_replays n members (Done after) all m = m

initial_replayed : (n : Network) (j : ℕ) → IsLawful n → IsReplayed n j (initial_federate n j)
initial_replayed n j lawful =
    record {
      slots = put_all_at_slots (n.slots j) (map pending_event_of (filter (λ e. nat_eq e.reactor j) n.external)) [] (external_at_slots n j n.external lawful.external) tt;
      rows = refl;
      states = refl;
      newest = refl;
      taken = tt;
      rising = tt;
    }

-- after every list of moves
pub moves_replay : (n : Network) (table : Table) (rules : ℕ → Rule) (moves : List Move) → IsLawful n → IsAtMostEveryPath n table → ((k : ℕ) → IsSafeRule n table (rules k)) → AllReplayed n (after_moves n rules moves)
moves_replay n table rules [] lawful facts safe = λ j. initial_replayed n j lawful
moves_replay n table rules (move ∷ earlier) lawful facts safe =
    let before = moves_replay n table rules earlier lawful facts safe in
    made_replays n (after_moves n rules earlier) (outcome_of n (rules (length earlier)) (after_moves n rules earlier) move) before
    (move_replays n table (rules (length earlier)) (after_moves n rules earlier) move lawful (moves_sound n table rules earlier lawful facts safe) before)
