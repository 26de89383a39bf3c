-- What waits for a slot at a tag is what the federate's histories call for there: kept by each move.
use Rattle.std.proofs.Common.{◌≡◌, ℕ, ◌+◌, ◌<◌, ◌≤◌, inl, inr, Bool, true, false, ◌||◌, IsTrue, List, [], ◌∷◌, ◌++◌, refl, sym, ap, subst, ◌∙◌, arith, Option, None, Some, ℤ}
use Rattle.std.specs.Prelude.{filter, nat_eq, if◌then◌else◌, ◌&&◌}
use Rattle.std.specs.List.{AllByRecursion}
use Rattle.std.proofs.lemmas.Bool.{or_parts, cases_eq, false_from_ne_true}
use Rattle.std.proofs.lemmas.Bool.Decides.{nat_tests}
use Rattle.tag.specs.LogicalTime.{LogicalTime, IsFinite, is_before, is_at_most, is_same, place}
use Rattle.tag.proofs.Order.{at_most_from_places, before_from_places, finite_by_place, finite_is_logical, place_of_finite, same_is_equal, same_itself}
use Rattle.network.specs.Connection.{Connection}
use Rattle.network.specs.Event.{present_at}
use Rattle.network.specs.Network.{Network, Effect}
use Rattle.network.specs.Undivided.{made_by}
use Rattle.network.specs.Lawful.{IsLawful}
use Rattle.network_laws.specs.History.{Turn, history_of, with_turn, states_after, effect_after, has_turn_at}
use Rattle.network_laws.specs.Newest.{or_else, carried_to, last_in_list}
use Rattle.network_laws.specs.Sees.{sees}
use Rattle.network_laws.specs.Consistent.{IsCalledFor}
use Rattle.network_laws.proofs.Lists.{each_more, each_both}
use Rattle.network_laws.proofs.Agree.{is_for}
use Rattle.network_laws.proofs.Maker.{maker, source_or, none_found, not_made}
use Rattle.network_laws.proofs.Newest.{PortFacts, latest_value, turn_carries, turn_schedules}
use Rattle.network_laws.proofs.OneMore.{sees_newest, sees_kept}
use Rattle.network_laws.proofs.ReadBack.{in_trace}
use Rattle.signal.specs.declared.signal.Signal.{Signal}
use Rattle.signal.specs.declared.signal.Signal.TheVariants.{Ltc}
use Rattle.network.specs.Undone.{PendingEvent, look, first_tag, drop_up_to}
use Rattle.protocol.specs.Federate.{effect_of, scheduled_by, messages_from, turn_at}
use Rattle.protocol.specs.Machine.{Member, with_member, stepped}
use Rattle.protocol_laws.specs.Histories.{histories_of}
use Rattle.protocol_laws.proofs.Tags.{above}
use Rattle.protocol_laws.proofs.StillUndone.{IsUndone}
use Rattle.protocol_laws.proofs.Kept.{first_is}
use Rattle.protocol_laws.proofs.Backing.{at_update}
use Rattle.protocol_laws.proofs.Safety.{IsMember}
use Rattle.protocol_laws.proofs.Clear.{completed_of}
use Rattle.protocol_laws.proofs.ClearRuns.{AllClear}
use Rattle.protocol_laws.proofs.Replay.{turn_taken, history_grows, IsTaken, AllReplayed}
use Rattle.network_laws.proofs.LookUps.{last_held, or_apart, look_put_all}
use Rattle.protocol_laws.proofs.Waiting.{last_message, waiting, or_first, or_second, last_message-append, look_drop, up_none, down_none, waiting_none}
use Rattle.protocol_laws.proofs.Makes.{NoPort, turn_sends, turn_holds, no_messages, port_unscheduled, port_or_not}

-- the histories of the members; where one has no turn, what waits is what it should see; and each turn was called for
pub record IsTraced (n : Network) (members : ℕ → Member) (trace : ℕ → List Turn) : Type 0 where
  pub history : (i : ℕ) → histories_of members i ≡ trace i
  pub waits : (a : ℕ) → a < n.reactors → (t : LogicalTime) → IsTrue (is_at_most t n.stop) → (slot : ℕ) → has_turn_at t (trace a) ≡ false → waiting n members a t slot ≡ sees n trace a t slot
  pub called : (a : ℕ) → a < n.reactors → AllByRecursion (IsCalledFor n trace a) (trace a)

-- what holds of the new member and of the old ones holds of all
pub at_member : (P : Member → Type 0) (m : Member) (members : ℕ → Member) (x i : ℕ) → (x ≡ i → P m) → P (members x) → P (with_member members i m x)
at_member P m members x i = at_update P m (members x) x i

pub at_mine : (m : Member) (members : ℕ → Member) (i : ℕ) → with_member members i m i ≡ m
at_mine m members i = let e : nat_eq i i ≡ true = grind (arith, nat_tests) in ap (λ (b : Bool). if b then m else members i) e

pub at_other : (m : Member) (members : ℕ → Member) (i k : ℕ) → (k ≡ i → ⊥) → with_member members i m k ≡ members k
at_other m members i k h = let e : nat_eq k i ≡ false = grind (arith, nat_tests) in ap (λ (b : Bool). if b then m else members k) e

from_first : (stop : LogicalTime) (low : ℕ) (u : List PendingEvent) (g : LogicalTime) → IsUndone stop low u → first_tag u ≡ Some g → IsUndone stop (place g) u
from_first stop low [] g h e = tt
from_first stop low (x ∷ rest) g h e =
    let same : x.tag ≡ g = cc in
    let P : LogicalTime → Type 0 = λ t. IsUndone stop (place t) (x ∷ rest) in
    subst P same (h.0, omega arith, h.2, h.3)

first_seen : (u : List PendingEvent) (g : LogicalTime) → first_tag u ≡ Some g → (slot : ℕ) × (value : ℤ) × (look u g slot ≡ Some value)
first_seen [] g e = cc
first_seen (x ∷ rest) g e =
    let same : x.tag ≡ g = cc in
    let here : (is_same x.tag g && nat_eq x.slot x.slot) ≡ true = by_tests x.tag g x.slot same in
    (x.slot, x.value, ap (λ (b : Bool). if b then Some x.value else look rest g x.slot) here)
  where
    by_tests : (s g : LogicalTime) (slot : ℕ) → s ≡ g → (is_same s g && nat_eq slot slot) ≡ true
    by_tests s g slot e = grind (arith, nat_tests)

absent : (bound : ℕ) (t : LogicalTime) (h : List Turn) → bound ≤ place t → AllByRecursion (λ x. place x.tag < bound) h → has_turn_at t h ≡ false
absent bound t [] l a = refl
absent bound t (x ∷ xs) l a =
    let other : is_same x.tag t ≡ false = false_from_ne_true (is_same x.tag t) (λ e. let same : place x.tag ≡ place t = ap place (same_is_equal x.tag t e) in let less = a.0 in omega arith) in
    ap (λ (b : Bool). b || has_turn_at t xs) other ∙ absent bound t xs l a.1

-- a turn of federate j
module _ (n : Network) (L : IsLawful n) (members : ℕ → Member) (j : ℕ) (g : LogicalTime) (kept : IsMember n j (members j)) (first : first_tag (members j).federate.undone ≡ Some g) where
  abbrev pub taker : Member
  taker = stepped (members j) (members j).down (turn_at n j (members j).federate g)

  abbrev pub after_taking : ℕ → Member
  after_taking = with_member members j taker

  abbrev effect : Effect
  effect = effect_of n j (members j).federate g

  abbrev messages : List Signal
  messages = messages_from n j g effect.outputs 0 n.connections

  abbrev scheduled : List PendingEvent
  scheduled = scheduled_by n g effect

  -- what the turn makes for a slot
  abbrev makes : ℕ → LogicalTime → ℕ → Option ℤ
  makes a t slot = present_at (made_by n j g effect) a t slot

  up_grows : (a : ℕ) (t : LogicalTime) (slot : ℕ) → last_message n a t slot taker.up ≡ or_else (last_message n a t slot messages) (last_message n a t slot (members j).up)
  up_grows a t slot =
      last_message-append n a t slot (members j).up (messages ++ Ltc g ∷ [])
      ∙ ap (λ (o : Option ℤ). or_else o (last_message n a t slot (members j).up)) (last_message-append n a t slot messages (Ltc g ∷ []))

  up_stays : (k : ℕ) → (k ≡ j → ⊥) → (a : ℕ) (t : LogicalTime) (slot : ℕ) → last_message n a t slot (after_taking k).up ≡ last_message n a t slot (members k).up
  up_stays k h a t slot = ap (λ (m : Member). last_message n a t slot m.up) (at_other taker members j k h)

  down_stays : (a : ℕ) (t : LogicalTime) (slot : ℕ) → last_message n a t slot (after_taking a).down ≡ last_message n a t slot (members a).down
  down_stays a t slot =
      at_member (λ m. last_message n a t slot m.down ≡ last_message n a t slot (members a).down) taker members a j
      (λ q. ap (λ (x : ℕ). last_message n a t slot (members x).down) (sym q)) refl

  undone_grows : (t : LogicalTime) (slot : ℕ) → (g ≡ t → ⊥) → look taker.federate.undone t slot ≡ or_else (last_held scheduled t slot) (look (members j).federate.undone t slot)
  undone_grows t slot other =
      let is = first_is n.stop (above (members j).federate.completed) (members j).federate.undone g kept.undone first in
      look_put_all scheduled (drop_up_to g (members j).federate.undone) t slot
      ∙ ap (or_else (last_held scheduled t slot))
      (look_drop n.stop (place g) g t slot (members j).federate.undone is.0 (omega arith) (from_first n.stop (above (members j).federate.completed) (members j).federate.undone g kept.undone first) other)

  undone_stays : (a : ℕ) (t : LogicalTime) (slot : ℕ) → (j ≡ a → g ≡ t → ⊥) → (j ≡ a → last_held scheduled t slot ≡ None) → look (after_taking a).federate.undone t slot ≡ look (members a).federate.undone t slot
  undone_stays a t slot other none =
      at_member (λ m. look m.federate.undone t slot ≡ look (members a).federate.undone t slot) taker members a j
      (λ q. (
      undone_grows t slot (other (sym q))
      ∙ (ap (λ (o : Option ℤ). or_else o (look (members j).federate.undone t slot)) (none (sym q)) ∙ ap (λ (x : ℕ). look (members x).federate.undone t slot) (sym q))))
      refl

  abbrev Grows : ℕ → LogicalTime → ℕ → Type 0
  Grows a t slot = waiting n after_taking a t slot ≡ or_else (makes a t slot) (waiting n members a t slot)

  -- the turn makes nothing for this slot
  grows_not : (a : ℕ) (t : LogicalTime) (slot : ℕ) → (maker n a slot ≡ j → ⊥) → look (after_taking a).federate.undone t slot ≡ look (members a).federate.undone t slot → Grows a t slot
  grows_not a t slot apart held =
      let nothing : makes a t slot ≡ None = ap latest_value (not_made n L j a t slot apart g (members j).federate.states (look (members j).federate.undone g)) in
      let up = up_stays (maker n a slot) apart a t slot in
      let down = down_stays a t slot in
      (λ y. or_else (up y) (or_else (down y) (held y))) ∙ ap (λ (o : Option ℤ). or_else o (waiting n members a t slot)) (sym nothing)

  -- a slot of a connection
  grows_at_port : (c : Connection) → PortFacts n c → (t : LogicalTime) → is_at_most t n.stop ≡ true → (j ≡ c.target → g ≡ t → ⊥) → Grows c.target t c.slot
  grows_at_port c w t below other =
      let from : maker n c.target c.slot ≡ c.source = ap (λ (o : Option ℕ). source_or o c.target) w.found in
      let held = undone_stays c.target t c.slot other (λ q. port_unscheduled n L c w.alone.among j (sym q) (members j).federate.states (look (members j).federate.undone g) g t below) in
      elim (cases_eq c.source j) [
        | inl mine ↦
            (let states = (members j).federate.states in
            let present = look (members j).federate.undone g in
            let Carries : ℕ → Type 0 = λ x. latest_value (filter (is_for c.target t c.slot) (made_by n x g (n.effect x states present))) ≡ carried_to c g t ((n.effect x states present).outputs c.port) in
            let Sends : ℕ → Type 0 = λ x. last_message n c.target t c.slot (messages_from n x g effect.outputs 0 n.connections) ≡ carried_to c g t (effect.outputs c.port) in
            let carries : makes c.target t c.slot ≡ carried_to c g t (effect.outputs c.port) = subst Carries mine (turn_carries n L c w.alone t below g states present) in
            let sends : last_message n c.target t c.slot messages ≡ carried_to c g t (effect.outputs c.port) = subst Sends mine (turn_sends n L c w.alone.among g effect.outputs t below) in
            let made : last_message n c.target t c.slot messages ≡ makes c.target t c.slot = sends ∙ sym carries in
            let before : last_message n c.target t c.slot (members j).up ≡ last_message n c.target t c.slot (members (maker n c.target c.slot)).up = ap (λ (x : ℕ). last_message n c.target t c.slot (members x).up) (sym (from ∙ mine)) in
            let up : last_message n c.target t c.slot (after_taking (maker n c.target c.slot)).up ≡ or_else (makes c.target t c.slot) (last_message n c.target t c.slot (members (maker n c.target c.slot)).up) =
            ap (λ (x : ℕ). last_message n c.target t c.slot (after_taking x).up) (from ∙ mine)
            ∙ (ap (λ (m : Member). last_message n c.target t c.slot m.up) (at_mine taker members j)
            ∙ (up_grows c.target t c.slot ∙ (λ y. or_else (made y) (before y)))) in
            let down = down_stays c.target t c.slot in
            (λ y. or_else (up y) (or_else (down y) (held y)))
            ∙ or_apart (makes c.target t c.slot) (last_message n c.target t c.slot (members (maker n c.target c.slot)).up)
            (or_else (last_message n c.target t c.slot (members c.target).down) (look (members c.target).federate.undone t c.slot)))
        | inr apart ↦ grows_not c.target t c.slot (λ e. apart (sym from ∙ e)) held
      ]

  waits_undone : (some : ℕ → Member) (a : ℕ) (t : LogicalTime) (slot : ℕ) → NoPort n.connections a slot → waiting n some a t slot ≡ look (some a).federate.undone t slot
  waits_undone some a t slot none =
      let up = no_messages n a t slot (some (maker n a slot)).up none in
      let down = no_messages n a t slot (some a).down none in
      λ y. or_else (up y) (or_else (down y) (look (some a).federate.undone t slot))

  -- a slot of no connection
  grows_elsewhere : (a : ℕ) (t : LogicalTime) (slot : ℕ) → NoPort n.connections a slot → is_at_most t n.stop ≡ true → (j ≡ a → g ≡ t → ⊥) → Grows a t slot
  grows_elsewhere a t slot none below other =
      let from : maker n a slot ≡ a = ap (λ (o : Option ℕ). source_or o a) (none_found n.connections a slot none) in
      elim (cases_eq a j) [
        | inl mine ↦
            (let Own : ℕ → Type 0 = λ x. NoPort n.connections x slot in
            let schedules : makes j t slot ≡ last_in_list effect.schedulings g slot t = turn_schedules n L j slot (subst Own mine none) t below g effect in
            let made : last_held scheduled t slot ≡ makes a t slot = turn_holds n g effect t slot below ∙ (sym schedules ∙ ap (λ (x : ℕ). makes x t slot) (sym mine)) in
            let before : look (members j).federate.undone t slot ≡ waiting n members a t slot = ap (λ (x : ℕ). look (members x).federate.undone t slot) (sym mine) ∙ sym (waits_undone members a t slot none) in
            waits_undone after_taking a t slot none
            ∙ (ap (λ (x : ℕ). look (after_taking x).federate.undone t slot) mine
            ∙ (ap (λ (m : Member). look m.federate.undone t slot) (at_mine taker members j)
            ∙ (undone_grows t slot (other (sym mine)) ∙ (λ y. or_else (made y) (before y))))))
        | inr apart ↦ grows_not a t slot (λ e. apart (sym from ∙ e)) (undone_stays a t slot other (λ q. absurd (apart (sym q))))
      ]

  -- what waits for a slot is what the turn makes for it, else what waited
  pub grows : (a : ℕ) (t : LogicalTime) (slot : ℕ) → is_at_most t n.stop ≡ true → (j ≡ a → g ≡ t → ⊥) → Grows a t slot
  grows a t slot below other = elim (port_or_not n L a slot) [
    | inl port ↦
        (let At : ℕ → Type 0 = λ x. (j ≡ x → g ≡ t → ⊥) in
        let Slot : ℕ → Type 0 = λ x. Grows a t x in
        let Target : ℕ → Type 0 = λ x. Grows x t port.0.slot in
        subst Slot port.3 (subst Target port.2 (grows_at_port port.0 port.1 t below (subst At (sym port.2) other))))
    | inr none ↦ grows_elsewhere a t slot none below other
  ]

  -- then the turn stands in the federate's history
  module _ (trace : ℕ → List Turn) (replayed : AllReplayed n members) (w : IsTraced n members trace) (clear : AllClear n after_taking) where
    abbrev taken : Turn
    taken = turn_taken (members j).federate g

    abbrev pub with_taken : ℕ → List Turn
    with_taken = with_turn trace j taken

    turns_taken : (a : ℕ) → AllByRecursion (IsTaken n (members a).federate.completed) (trace a)
    turns_taken a = let P : List Turn → Type 0 = λ h. AllByRecursion (IsTaken n (members a).federate.completed) h in subst P (w.history a) (replayed a).taken

    makes_same : (a : ℕ) (t : LogicalTime) (slot : ℕ) → present_at (made_by n j g (effect_after n j (trace j) taken)) a t slot ≡ makes a t slot
    makes_same a t slot =
        let states : (members j).federate.states ≡ states_after n j (trace j) = (replayed j).states ∙ ap (states_after n j) (w.history j) in
        ap (λ (s : List ℤ). present_at (made_by n j g (n.effect j s (look (members j).federate.undone g))) a t slot) (sym states)

    tag_is : IsFinite g × IsTrue (is_at_most g n.stop) × (above (members j).federate.completed ≤ place g)
    tag_is =
        let stop = finite_is_logical n.stop L.stop in
        let end = place_of_finite n.stop L.stop in
        let is = first_is n.stop (above (members j).federate.completed) (members j).federate.undone g kept.undone first in
        let high = is.2 in
        (record { time = finite_by_place g is.0 (omega arith); microstep = is.0.microstep }, at_most_from_places g n.stop is.0 stop high, is.1)

    earlier : AllByRecursion (λ y. IsTrue (is_before y.tag g)) (trace j)
    earlier = each_more (IsTaken n (members j).federate.completed) (λ y. IsTrue (is_before y.tag g))
        (λ y t. (let p = t.past in let low = tag_is.2 in before_from_places y.tag g (finite_is_logical y.tag t.finite) (finite_is_logical g tag_is.0) (omega arith))) (trace j) (turns_taken j)

    -- who sees what: what the turn makes comes first
    sees_more : (a : ℕ) → a < n.reactors → (t : LogicalTime) (slot : ℕ) → sees n with_taken a t slot ≡ or_else (makes a t slot) (sees n trace a t slot)
    sees_more a h t slot = sees_newest n L trace j taken earlier a h t slot ∙ ap (λ (o : Option ℤ). or_else o (sees n trace a t slot)) (makes_same a t slot)

    completed_after : (a : ℕ) → j ≡ a → above (completed_of after_taking a) ≡ place g + 1
    completed_after a e = ap (λ (x : ℕ). above (completed_of after_taking x)) (sym e) ∙ ap (λ (m : Member). above m.federate.completed) (at_mine taker members j)

    -- what was completed stays so
    still_past : (a : ℕ) (y : Turn) → IsTaken n (members a).federate.completed y → place y.tag < above (completed_of after_taking a)
    still_past a y t =
        let p = t.past in
        at_member (λ m. place y.tag < above m.federate.completed) taker members a j
        (λ q. (
        let P : ℕ → Type 0 = λ x. place y.tag < above (members x).federate.completed in
        let mine = subst P q p in
        let low = tag_is.2 in
        let more : place y.tag < place g + 1 = omega arith in
        more)) p

    not_then : (a : ℕ) (y : Turn) → IsTaken n (members a).federate.completed y → j ≡ a → g ≡ y.tag → ⊥
    not_then a y t e same =
        let P : ℕ → Type 0 = λ x. place y.tag < above (members x).federate.completed in
        let mine = subst P (sym e) t.past in
        let low = tag_is.2 in
        let at : place g ≡ place y.tag = ap place same in
        omega arith

    -- an earlier turn sees what it saw
    sees_still : (a : ℕ) → a < n.reactors → (y : Turn) → IsTaken n (members a).federate.completed y → sees n with_taken a y.tag ≡ sees n trace a y.tag
    sees_still a h y t = λ i slot. at_slot slot i
      where
        at_slot : (slot : ℕ) → sees n with_taken a y.tag slot ≡ sees n trace a y.tag slot
        at_slot slot =
            let nothing : makes a y.tag slot ≡ None =
            or_first (makes a y.tag slot) (waiting n members a y.tag slot)
            (sym (grows a y.tag slot t.in_time (not_then a y t)) ∙ waiting_none n after_taking a y.tag slot (still_past a y t) clear) in
            sees_more a h y.tag slot ∙ ap (λ (o : Option ℤ). or_else o (sees n trace a y.tag slot)) nothing

    called_still : (a : ℕ) → a < n.reactors → AllByRecursion (IsCalledFor n with_taken a) (trace a)
    called_still a h =
        each_more (λ y. IsCalledFor n trace a y × IsTaken n (members a).federate.completed y) (IsCalledFor n with_taken a)
        (λ y both. (
        let same = sees_still a h y both.1 in
        record {
          place = both.0.place;
          present = both.0.present ∙ sym same;
          something = (both.0.something.0, both.0.something.1, (λ i. same i both.0.something.0) ∙ both.0.something.2);
        }))
        (trace a) (each_both (IsCalledFor n trace a) (IsTaken n (members a).federate.completed) (trace a) (w.called a h) (turns_taken a))

    -- no message for the turn is on its way any more
    no_message_up : (k : ℕ) (slot : ℕ) → last_message n j g slot (members k).up ≡ None
    no_message_up k slot =
        let past = completed_after j refl in
        let none : last_message n j g slot (after_taking k).up ≡ None = up_none n (completed_of after_taking) j g slot (after_taking k).up (omega arith) (clear k).upward in
        elim (cases_eq k j) [
          | inl e ↦
              (let mine : last_message n j g slot taker.up ≡ None = ap (λ (m : Member). last_message n j g slot m.up) (sym (at_mine taker members j)) ∙ (ap (λ (x : ℕ). last_message n j g slot (after_taking x).up) (sym e) ∙ none) in
              ap (λ (x : ℕ). last_message n j g slot (members x).up) e
              ∙ or_second (last_message n j g slot messages) (last_message n j g slot (members j).up) (sym (up_grows j g slot) ∙ mine))
          | inr apart ↦ sym (up_stays k apart j g slot) ∙ none
        ]

    no_message_down : (slot : ℕ) → last_message n j g slot (members j).down ≡ None
    no_message_down slot =
        let past = completed_after j refl in
        sym (down_stays j g slot) ∙ down_none n (completed_of after_taking) j g slot (after_taking j).down (omega arith) (clear j).downward

    none_yet : has_turn_at g (trace j) ≡ false
    none_yet = absent (above (members j).federate.completed) g (trace j) tag_is.2
        (each_more (IsTaken n (members j).federate.completed) (λ x. place x.tag < above (members j).federate.completed) (λ x t. t.past) (trace j) (turns_taken j))

    called_now : j < n.reactors → IsCalledFor n with_taken j taken
    called_now h =
        let seen = first_seen (members j).federate.undone g first in
        record {
          place = record { reactor = h; finite = tag_is.0; in_time = tag_is.1 };
          present = λ i slot. at_slot slot i;
          something = (seen.0, seen.1, sym (at_slot seen.0) ∙ seen.2);
        }
      where
        at_slot : (slot : ℕ) → look (members j).federate.undone g slot ≡ sees n with_taken j g slot
        at_slot slot =
            let up = no_message_up (maker n j slot) slot in
            let down = no_message_down slot in
            let held : waiting n members j g slot ≡ look (members j).federate.undone g slot = (λ y. or_else (up y) (or_else (down y) (look (members j).federate.undone g slot))) in
            sym held ∙ (w.waits j h g tag_is.1 slot none_yet ∙ (λ y. sym (sees_kept n L trace j taken h tag_is.0 j h g (omega arith)) y slot))

    -- no turn at a tag after this turn: nor before it, and this turn isn't there
    abbrev NoTurn : LogicalTime → ℕ → List Turn → Type 0
    NoTurn t i h = has_turn_at t h ≡ false → (has_turn_at t (trace i) ≡ false) × (j ≡ i → g ≡ t → ⊥)

    no_turn : (t : LogicalTime) (i : ℕ) → NoTurn t i (with_taken i)
    no_turn t = in_trace (NoTurn t) trace j taken
        (λ h. (let parts = or_parts (is_same g t) (has_turn_at t (trace j)) h in (parts.1, λ e q. (let yes : is_same g t ≡ true = ap (λ (x : LogicalTime). is_same x t) q ∙ same_itself t in let no = parts.0 in cc))))
        (λ i other h. (h, λ e. absurd (other e)))

    pub taking_traces : IsTraced n after_taking with_taken
    taking_traces = record {
      history = in_trace (λ i h. histories_of after_taking i ≡ h) trace j taken
          (ap (λ (m : Member). history_of m.federate.rows) (at_mine taker members j)
          ∙ (history_grows n j (members j).federate g (replayed j).slots ∙ ap (λ (h : List Turn). taken ∷ h) (w.history j)))
          (λ i other. ap (λ (m : Member). history_of m.federate.rows) (at_other taker members j i (λ e. other (sym e))) ∙ w.history i);
      waits = λ a h t below slot none. (
          let parts = no_turn t a none in
          grows a t slot below parts.1
          ∙ (ap (or_else (makes a t slot)) (w.waits a h t below slot parts.0) ∙ sym (sees_more a h t slot)));
      called = in_trace (λ a h. a < n.reactors → AllByRecursion (IsCalledFor n with_taken a) h) trace j taken
          (λ h. (called_now h, called_still j h)) (λ a other h. called_still a h);
    }
