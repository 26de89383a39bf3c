-- After every list of moves what waits is what the histories call for, and so they are consistent.
use Rattle.std.proofs.Common.{◌≡◌, ℕ, zero, suc, ◌<◌, Bool, true, false, cond, List, [], ◌∷◌, ◌++◌, length, refl, sym, ap, subst, ◌∙◌, Option, None, Some, ℤ}
use Rattle.std.specs.Prelude.{slice_get, filter, map, nat_eq, if◌then◌else◌, not, ◌&&◌, ◌||◌, AllPairs}
use Rattle.std.specs.List.{AllByRecursion}
use Rattle.std.proofs.lemmas.Bool.{eq-eqb, false_from_ne_true, eqb-true}
use Rattle.std.proofs.lemmas.List.{append-nil}
use Rattle.tag.specs.LogicalTime.{LogicalTime, is_at_most, is_same, forever, is_past, is_reached}
use Rattle.tag.proofs.Order.{same_is_equal}
use Rattle.network.specs.Connection.{Connection}
use Rattle.network.specs.Event.{Event}
use Rattle.network.specs.Network.{Network}
use Rattle.network.specs.Lawful.{IsLawful, AreForDifferentSlots}
use Rattle.network.specs.Tables.{Table, IsAtMostEveryPath}
use Rattle.network_laws.specs.History.{Turn, history_of}
use Rattle.network_laws.specs.Newest.{or_else}
use Rattle.network_laws.specs.Sees.{sees}
use Rattle.network.proofs.Items.{first_pair, later_pairs}
use Rattle.network_laws.proofs.Lists.{each, each_more, none_kept}
use Rattle.network_laws.proofs.Agree.{is_for}
use Rattle.network_laws.proofs.Maker.{maker, source_or, is_for_parts, events_for}
use Rattle.network_laws.proofs.Newest.{PortFacts, port_facts, latest_value}
use Rattle.signal.specs.declared.signal.Signal.{Signal}
use Rattle.signal.specs.declared.signal.Signal.TheVariants.{Net, Ltc, Tag, Msg}
use Rattle.protocol.specs.declared.refusal.Refusal.TheVariants.{Late, OldGrant, WrongSignal, NotYours, BelowGrant, NotRising, AfterStop}
use Rattle.protocol.specs.Outcome.{Outcome, Refused, Nothing, Done, made_or, with_made}
use Rattle.network.specs.Undone.{put, look, first_tag, pending_event_of}
use Rattle.protocol.specs.Federate.{is_told, next_event, accept_message, federate_announces, advance_to, turn_at}
use Rattle.protocol.specs.FederateRecord.{FederateRecord, after_message, after_net, after_ltc}
use Rattle.protocol.specs.Grant.{Rule, IsSafeRule}
use Rattle.protocol.specs.declared.post.Post.{Post}
use Rattle.protocol.specs.Coordinator.{Coordinated, with_federate_record, noted, route, coordinator_takes, grant_to, grants_from, with_grants}
use Rattle.protocol.specs.Machine.{Member, Move, ToCoordinator, ToFederate, Announce, Advance, Lose, initial_member, with_member, federate_records_of, sent_to, coordinated, coordinator_takes_from, stepped, federate_takes_from, outcome_of, after_moves}
use Rattle.protocol_laws.specs.Histories.{histories_of}
use Rattle.protocol_laws.proofs.Safety.{IsSound, tag_if, sent-append, grants_sent, moves_sound}
use Rattle.protocol_laws.proofs.ClearRuns.{AllClear, moves_clear}
use Rattle.protocol_laws.proofs.Replay.{AllReplayed, moves_replay}
use Rattle.protocol_laws.proofs.Tests.{both_left, both_right}
use Rattle.network_laws.proofs.LookUps.{found_in, last_held, or_nothing, or_apart, look_put, look_put_all}
use Rattle.protocol_laws.proofs.Waiting.{leads_to, brought_over, last_message, waiting, last_message-append}
use Rattle.protocol_laws.proofs.Histories.{IsTraced, at_member, taking_traces}

-- some trace is that of the members
abbrev pub HasTrace : Network → (ℕ → Member) → Type 0
HasTrace n members = (trace : ℕ → List Turn) × IsTraced n members trace

-- how a move ends
abbrev pub MoveTraces : Network → Outcome (ℕ → Member) → Type 0
MoveTraces n (Refused refusal) = Unit {0}
MoveTraces n Nothing = Unit {0}
MoveTraces n (Done members) = AllClear n members → HasTrace n members

-- a member without a turn: what waits only moves
pub record StaysTraced (n : Network) (i : ℕ) (was : Member) (down : List Signal) (m : Member) : Type 0 where
  pub rows : m.federate.rows ≡ was.federate.rows
  pub up : (a : ℕ) (t : LogicalTime) (slot : ℕ) → last_message n a t slot m.up ≡ last_message n a t slot was.up
  pub rest : (t : LogicalTime) (slot : ℕ) → or_else (last_message n i t slot m.down) (look m.federate.undone t slot) ≡ or_else (last_message n i t slot down) (look was.federate.undone t slot)

stays_traced : (n : Network) (members : ℕ → Member) (trace : ℕ → List Turn) (i : ℕ) (m : Member) → StaysTraced n i (members i) (members i).down m → IsTraced n members trace → IsTraced n (with_member members i m) trace
stays_traced n members trace i m s w = record {
  history = λ x. at_member (λ y. history_of y.federate.rows ≡ trace x) m members x i
      (λ q. ap history_of s.rows ∙ (ap (λ (z : ℕ). histories_of members z) (sym q) ∙ w.history x)) (w.history x);
  waits = λ a h t below slot none. (same a t slot ∙ w.waits a h t below slot none);
  called = w.called;
}
  where
    same : (a : ℕ) (t : LogicalTime) (slot : ℕ) → waiting n (with_member members i m) a t slot ≡ waiting n members a t slot
    same a t slot =
        let up = at_member (λ y. last_message n a t slot y.up ≡ last_message n a t slot (members (maker n a slot)).up) m members (maker n a slot) i
        (λ q. s.up a t slot ∙ ap (λ (z : ℕ). last_message n a t slot (members z).up) (sym q)) refl in
        let rest = at_member (λ y. or_else (last_message n a t slot y.down) (look y.federate.undone t slot) ≡ or_else (last_message n a t slot (members a).down) (look (members a).federate.undone t slot)) m members a i
        (λ q. (
        let P : ℕ → Type 0 = λ z. or_else (last_message n z t slot m.down) (look m.federate.undone t slot) ≡ or_else (last_message n z t slot (members z).down) (look (members z).federate.undone t slot) in
        subst P (sym q) (s.rest t slot))) refl in
        λ y. or_else (up y) (rest y)

-- how one federate's step ends
abbrev pub StepTraces : Network → ℕ → Member → List Signal → Outcome Member → Type 0
StepTraces n i was down (Refused refusal) = Unit {0}
StepTraces n i was down Nothing = Unit {0}
StepTraces n i was down (Done m) = StaysTraced n i was down m

step_traces : (n : Network) (members : ℕ → Member) (i : ℕ) (o : Outcome Member) (lost : Bool) → StepTraces n i (members i) (members i).down o → HasTrace n members → MoveTraces n (if lost then Nothing else with_made (with_member members i) o)
step_traces n members i o true s w = tt
step_traces n members i (Refused refusal) false s w = tt
step_traces n members i Nothing false s w = tt
step_traces n members i (Done m) false s w = λ clear. (w.0, stays_traced n members w.0 i m s w.1)

nothing_up : (n : Network) (xs : List Signal) (a : ℕ) (t : LogicalTime) (slot : ℕ) → last_message n a t slot (xs ++ []) ≡ last_message n a t slot xs
nothing_up n xs a t slot = ap (last_message n a t slot) (append-nil xs)

swapped : (a b : Bool) (v : ℤ) → (if a && b then Some v else None) ≡ (if b && a then Some v else None)
swapped true true v = refl
swapped true false v = refl
swapped false true v = refl
swapped false false v = refl

-- a message over a connection that ends here is put
put_here : (c : Connection) (i : ℕ) (s : LogicalTime) (v : ℤ) (t : LogicalTime) (slot : ℕ) → nat_eq c.target i ≡ true → found_in (record { tag = s; slot = c.slot; value = v }) t slot ≡ brought_over (Some c) s v i t slot
put_here c i s v t slot e = swapped (is_same s t) (nat_eq c.slot slot) v ∙ ap (λ (b : Bool). if (b && nat_eq c.slot slot) && is_same s t then Some v else None) (sym e)

message_stays : (n : Network) (i : ℕ) (m : Member) (rest : List Signal) (k : ℕ) (o : Option Connection) (s : LogicalTime) (v : ℤ) → slice_get n.connections k ≡ o → StepTraces n i m (Msg k s v ∷ rest) (with_made (stepped m rest) (accept_message n i m.federate o s v))
message_stays n i m rest k None s v e = tt
message_stays n i m rest k (Some c) s v e = by_tests (nat_eq c.target i && is_at_most s n.stop) (is_past m.federate.completed s && is_past m.federate.granted s) refl
  where
    moved : (t : LogicalTime) (slot : ℕ) → nat_eq c.target i ≡ true → or_else (last_message n i t slot rest) (look (put (record { tag = s; slot = c.slot; value = v }) m.federate.undone) t slot) ≡ or_else (last_message n i t slot (Msg k s v ∷ rest)) (look m.federate.undone t slot)
    moved t slot here =
        let brought : found_in (record { tag = s; slot = c.slot; value = v }) t slot ≡ brought_over (slice_get n.connections k) s v i t slot = put_here c i s v t slot here ∙ ap (λ (x : Option Connection). brought_over x s v i t slot) (sym e) in
        ap (or_else (last_message n i t slot rest)) (look_put (record { tag = s; slot = c.slot; value = v }) m.federate.undone t slot ∙ ap (λ (x : Option ℤ). or_else x (look m.federate.undone t slot)) brought)
        ∙ sym (or_apart (last_message n i t slot rest) (brought_over (slice_get n.connections k) s v i t slot) (look m.federate.undone t slot))

    by_tests : (b d : Bool) → (nat_eq c.target i && is_at_most s n.stop) ≡ b → StepTraces n i m (Msg k s v ∷ rest) (with_made (stepped m rest) (if not b then Refused WrongSignal else if not d then Refused Late else Done (record { after = record m.federate { undone = put (record { tag = s; slot = c.slot; value = v }) m.federate.undone }; sent = [] })))
    by_tests true true h = record {
      rows = refl;
      up = nothing_up n m.up;
      rest = λ t slot. moved t slot (both_left (nat_eq c.target i) (is_at_most s n.stop) h);
    }
    by_tests true false h = tt
    by_tests false d h = tt

grant_stays : (n : Network) (i : ℕ) (m : Member) (g : LogicalTime) (rest : List Signal) (b d : Bool) → StepTraces n i m (Tag g ∷ rest) (with_made (stepped m rest) (if not b then Refused WrongSignal else if not d then Refused OldGrant else Done (record { after = record m.federate { granted = Some g }; sent = [] })))
grant_stays n i m g rest true true = record { rows = refl; up = nothing_up n m.up; rest = λ t slot. refl }
grant_stays n i m g rest true false = tt
grant_stays n i m g rest false d = tt

take_stays : (n : Network) (i : ℕ) (m : Member) (down : List Signal) → StepTraces n i m down (federate_takes_from n i m down)
take_stays n i m [] = tt
take_stays n i m (Net g ∷ rest) = tt
take_stays n i m (Ltc g ∷ rest) = tt
take_stays n i m (Tag g ∷ rest) = grant_stays n i m g rest (is_at_most g n.stop) (is_past m.federate.granted g)
take_stays n i m (Msg k s v ∷ rest) = message_stays n i m rest k (slice_get n.connections k) s v refl

announce_stays : (n : Network) (i : ℕ) (m : Member) (b : Bool) → StepTraces n i m m.down (with_made (stepped m m.down) (if b then Nothing else Done (record { after = record m.federate { announced = Some (next_event m.federate) }; sent = Net (next_event m.federate) ∷ [] })))
announce_stays n i m true = tt
announce_stays n i m false = record {
  rows = refl;
  up = λ a t slot. last_message-append n a t slot m.up (Net (next_event m.federate) ∷ []);
  rest = λ t slot. refl;
}

advance_if : (n : Network) (table : Table) (members : ℕ → Member) (j : ℕ) (g : LogicalTime) (lost b : Bool) → IsLawful n → IsSound n table members → AllReplayed n members → first_tag (members j).federate.undone ≡ Some g → HasTrace n members → MoveTraces n (if lost then Nothing else with_made (with_member members j) (with_made (stepped (members j) (members j).down) (if b then Done (turn_at n j (members j).federate g) else Nothing)))
advance_if n table members j g true b lawful sound replayed first w = tt
advance_if n table members j g false true lawful sound replayed first w = λ clear. (_, taking_traces n lawful members j g (sound.kept j) first w.0 replayed w.1 clear)
advance_if n table members j g false false lawful sound replayed first w = tt

advance_traces : (n : Network) (table : Table) (members : ℕ → Member) (j : ℕ) (o : Option LogicalTime) (lost : Bool) → IsLawful n → IsSound n table members → AllReplayed n members → first_tag (members j).federate.undone ≡ o → HasTrace n members → MoveTraces n (if lost then Nothing else with_made (with_member members j) (with_made (stepped (members j) (members j).down) (advance_to n j (members j).federate o)))
advance_traces n table members j None true lawful sound replayed first w = tt
advance_traces n table members j None false lawful sound replayed first w = tt
advance_traces n table members j (Some g) lost lawful sound replayed first w = advance_if n table members j g lost (is_reached (members j).federate.granted g) lawful sound replayed first w

at_index : (P : Connection → Type 0) (cs : List Connection) (k : ℕ) (c : Connection) → AllByRecursion P cs → slice_get cs k ≡ Some c → P c
at_index P [] k c a e = cc
at_index P (x ∷ rest) zero c a e = let same : x ≡ c = cc in subst P same a.0
at_index P (x ∷ rest) (suc k) c a e = at_index P rest k c a.1 e

-- what the coordinator took from i stands on its way down
module _ (n : Network) (members : ℕ → Member) (i : ℕ) (rest : List Signal) where
  abbrev popped : ℕ → Member
  popped = with_member members i (record (members i) { up = rest })

  -- where these posts go out, what waits stays
  abbrev SendsAt : List Post → ℕ → LogicalTime → ℕ → Type 0
  SendsAt sent a t slot =
      or_else (last_message n a t slot (popped (maker n a slot)).up)
      (or_else (or_else (last_message n a t slot (sent_to a sent)) (last_message n a t slot (members a).down)) (look (members a).federate.undone t slot)) ≡ waiting n members a t slot

  abbrev Sends : List Post → Type 0
  Sends sent = (a : ℕ) (t : LogicalTime) (slot : ℕ) → SendsAt sent a t slot

  abbrev TakeSends : Outcome Coordinated → Type 0
  TakeSends (Refused refusal) = Unit {0}
  TakeSends Nothing = Unit {0}
  TakeSends (Done made) = Sends made.sent

  -- the signal brought nothing for this slot
  popped_same : (signal : Signal) → (members i).up ≡ signal ∷ rest → (a : ℕ) (t : LogicalTime) (slot : ℕ) → last_message n a t slot (signal ∷ rest) ≡ last_message n a t slot rest → (k : ℕ) → last_message n a t slot (popped k).up ≡ last_message n a t slot (members k).up
  popped_same signal e a t slot nothing k =
      at_member (λ m. last_message n a t slot m.up ≡ last_message n a t slot (members k).up) (record (members i) { up = rest }) members k i
      (λ q. sym nothing ∙ (ap (last_message n a t slot) (sym e) ∙ ap (λ (x : ℕ). last_message n a t slot (members x).up) (sym q))) refl

  nothing_sends : (signal : Signal) → (members i).up ≡ signal ∷ rest → ((a : ℕ) (t : LogicalTime) (slot : ℕ) → last_message n a t slot (signal ∷ rest) ≡ last_message n a t slot rest) → Sends []
  nothing_sends signal e nothing a t slot =
      let up = popped_same signal e a t slot (nothing a t slot) (maker n a slot) in
      λ y. or_else (up y) (or_else (last_message n a t slot (members a).down) (look (members a).federate.undone t slot))

  abbrev post_to : ℕ → ℕ → LogicalTime → ℤ → List Post
  post_to target k s v = record { peer = target; signal = Msg k s v } ∷ []

  abbrev if_sent : Bool → ℕ → ℕ → LogicalTime → ℤ → List Signal
  if_sent b target k s v = map (λ (p : Post). p.signal) (cond b (post_to target k s v) [])

  sent_brings_none : (a : ℕ) (t : LogicalTime) (slot : ℕ) (target k : ℕ) (s : LogicalTime) (v : ℤ) (b : Bool) → brought_over (slice_get n.connections k) s v a t slot ≡ None → last_message n a t slot (if_sent b target k s v) ≡ None
  sent_brings_none a t slot target k s v true none = none
  sent_brings_none a t slot target k s v false none = refl

  -- a message goes on over its connection
  message_sends : (k : ℕ) (s : LogicalTime) (v : ℤ) (c : Connection) → (members i).up ≡ Msg k s v ∷ rest → slice_get n.connections k ≡ Some c → PortFacts n c → c.source ≡ i → Sends (post_to c.target k s v)
  message_sends k s v c e at facts from a t slot = by_test (leads_to (Some c) a slot && is_same s t) refl
    where
      brought : brought_over (slice_get n.connections k) s v a t slot ≡ (if leads_to (Some c) a slot && is_same s t then Some v else None)
      brought = ap (λ (o : Option Connection). brought_over o s v a t slot) at

      by_test : (b : Bool) → (leads_to (Some c) a slot && is_same s t) ≡ b → SendsAt (post_to c.target k s v) a t slot
      by_test true q =
          let leads = both_left (leads_to (Some c) a slot) (is_same s t) q in
          let there : c.target ≡ a = eqb-true c.target a (both_left (nat_eq c.target a) (nat_eq c.slot slot) leads) in
          let place : c.slot ≡ slot = eqb-true c.slot slot (both_right (nat_eq c.target a) (nat_eq c.slot slot) leads) in
          let target : nat_eq a c.target ≡ true = eq-eqb a c.target (sym there) in
          let found : maker n c.target c.slot ≡ c.source = ap (λ (o : Option ℕ). source_or o c.target) facts.found in
          let sender : maker n a slot ≡ i = (λ y. maker n (sym there y) (sym place y)) ∙ (found ∙ from) in
          let mine : (popped (maker n a slot)).up ≡ rest = ap (λ (x : ℕ). (popped x).up) sender ∙ ap (λ (b : Bool). (if b then record (members i) { up = rest } else members i).up) (eq-eqb i i refl) in
          let before : last_message n a t slot (members (maker n a slot)).up ≡ last_message n a t slot (Msg k s v ∷ rest) = ap (λ (x : ℕ). last_message n a t slot (members x).up) sender ∙ ap (last_message n a t slot) e in
          (λ y. or_else (last_message n a t slot (mine y)) (or_else (or_else (last_message n a t slot (if_sent (target y) c.target k s v)) (last_message n a t slot (members a).down)) (look (members a).federate.undone t slot)))
          ∙ (ap (or_else (last_message n a t slot rest)) (or_apart (brought_over (slice_get n.connections k) s v a t slot) (last_message n a t slot (members a).down) (look (members a).federate.undone t slot))
          ∙ (sym (or_apart (last_message n a t slot rest) (brought_over (slice_get n.connections k) s v a t slot) (or_else (last_message n a t slot (members a).down) (look (members a).federate.undone t slot)))
          ∙ ap (λ (o : Option ℤ). or_else o (or_else (last_message n a t slot (members a).down) (look (members a).federate.undone t slot))) (sym before)))
      by_test false q =
          let none : brought_over (slice_get n.connections k) s v a t slot ≡ None = brought ∙ ap (λ (b : Bool). if b then Some v else None) q in
          let up = popped_same (Msg k s v) e a t slot (ap (or_else (last_message n a t slot rest)) none ∙ or_nothing (last_message n a t slot rest)) (maker n a slot) in
          let sent = sent_brings_none a t slot c.target k s v (nat_eq a c.target) none in
          λ y. or_else (up y) (or_else (or_else (sent y) (last_message n a t slot (members a).down)) (look (members a).federate.undone t slot))

  noted_sends : (signal : Signal) (b d : Bool) (federate_records : ℕ → FederateRecord) (mine : FederateRecord) → (members i).up ≡ signal ∷ rest → ((a : ℕ) (t : LogicalTime) (slot : ℕ) → last_message n a t slot (signal ∷ rest) ≡ last_message n a t slot rest) → TakeSends (if not b then Refused AfterStop else if not d then Refused NotRising else Done (noted federate_records i mine))
  noted_sends signal true true federate_records mine e nothing = nothing_sends signal e nothing
  noted_sends signal true false federate_records mine e nothing = tt
  noted_sends signal false d federate_records mine e nothing = tt

  route_sends : IsLawful n → (federate_records : ℕ → FederateRecord) (k : ℕ) (s : LogicalTime) (v : ℤ) (o : Option Connection) → (members i).up ≡ Msg k s v ∷ rest → slice_get n.connections k ≡ o → TakeSends (route n federate_records i (Msg k s v) o s)
  route_sends L federate_records k s v None e at = tt
  route_sends L federate_records k s v (Some c) e at = by_tests (nat_eq c.source i) (is_at_most s n.stop) (is_past (federate_records c.target).granted s) refl
    where
      by_tests : (b d f : Bool) → nat_eq c.source i ≡ b → TakeSends (if not b then Refused NotYours else if not d then Refused AfterStop else if not f then Refused BelowGrant else Done (record { after = with_federate_record federate_records c.target (after_message (federate_records c.target) s); sent = record { peer = c.target; signal = Msg k s v } ∷ [] }))
      by_tests true true true h = message_sends k s v c e at (at_index (PortFacts n) n.connections k c (port_facts n L) at) (eqb-true c.source i h)
      by_tests true true false h = tt
      by_tests true false f h = tt
      by_tests false d f h = tt

  take_sends : IsLawful n → (federate_records : ℕ → FederateRecord) (signal : Signal) → (members i).up ≡ signal ∷ rest → TakeSends (coordinator_takes n federate_records i signal)
  take_sends L federate_records (Net g) e = noted_sends (Net g) (is_at_most g n.stop || is_same g forever) (is_past (federate_records i).completed g) federate_records (after_net (federate_records i) g) e (λ a t slot. refl)
  take_sends L federate_records (Ltc g) e = noted_sends (Ltc g) (is_at_most g n.stop) (is_past (federate_records i).completed g) federate_records (after_ltc (federate_records i) g) e (λ a t slot. refl)
  take_sends L federate_records (Tag g) e = tt
  take_sends L federate_records (Msg k s v) e = route_sends L federate_records k s v (slice_get n.connections k) e refl

  -- TAGs bring nothing
  granted_same : (a : ℕ) (t : LogicalTime) (slot : ℕ) (xs : List Signal) (o : Option LogicalTime) → last_message n a t slot (xs ++ tag_if o) ≡ last_message n a t slot xs
  granted_same a t slot xs None = ap (last_message n a t slot) (append-nil xs)
  granted_same a t slot xs (Some g) = last_message-append n a t slot xs (Tag g ∷ [])

  made_traces : (rule : Rule) (made : Coordinated) → Sends made.sent → HasTrace n members → HasTrace n (λ j. coordinated (with_grants n rule made) j (popped j))
  made_traces rule made sends w = (
    w.0,
    record {
      history = λ x. at_member (λ m. history_of m.federate.rows ≡ w.0 x) (record (members i) { up = rest }) members x i
          (λ q. ap (λ (z : ℕ). histories_of members z) (sym q) ∙ w.1.history x) (w.1.history x);
      waits = λ a h t below slot none. (same a t slot ∙ w.1.waits a h t below slot none);
      called = w.1.called;
    },
  )
    where
      same : (a : ℕ) (t : LogicalTime) (slot : ℕ) → waiting n (λ j. coordinated (with_grants n rule made) j (popped j)) a t slot ≡ waiting n members a t slot
      same a t slot =
          let sent : last_message n a t slot (sent_to a (made.sent ++ grants_from n rule made.after 0 n.reactors)) ≡ last_message n a t slot (sent_to a made.sent) =
          ap (last_message n a t slot) (sent-append a made.sent (grants_from n rule made.after 0 n.reactors) ∙ ap (λ (x : List Signal). sent_to a made.sent ++ x) (grants_sent n rule made.after a))
          ∙ granted_same a t slot (sent_to a made.sent) (grant_to n rule made.after a) in
          let down : last_message n a t slot (popped a).down ≡ last_message n a t slot (members a).down =
          at_member (λ m. last_message n a t slot m.down ≡ last_message n a t slot (members a).down) (record (members i) { up = rest }) members a i
          (λ q. ap (λ (z : ℕ). last_message n a t slot (members z).down) (sym q)) refl in
          let held : look (popped a).federate.undone t slot ≡ look (members a).federate.undone t slot =
          at_member (λ m. look m.federate.undone t slot ≡ look (members a).federate.undone t slot) (record (members i) { up = rest }) members a i
          (λ q. ap (λ (z : ℕ). look (members z).federate.undone t slot) (sym q)) refl in
          let all = last_message-append n a t slot (popped a).down (sent_to a (made.sent ++ grants_from n rule made.after 0 n.reactors)) in
          ap (λ (x : Option ℤ). or_else (last_message n a t slot (popped (maker n a slot)).up) (or_else x (look (popped a).federate.undone t slot))) all
          ∙ ((λ y. or_else (last_message n a t slot (popped (maker n a slot)).up) (or_else (or_else (sent y) (down y)) (held y)))
          ∙ sends a t slot)

  coordinated_traces : (rule : Rule) (o : Outcome Coordinated) → TakeSends o → HasTrace n members → MoveTraces n (with_made (λ made. λ j. coordinated made j (popped j)) (with_made (with_grants n rule) o))
  coordinated_traces rule (Refused refusal) sends w = tt
  coordinated_traces rule Nothing sends w = tt
  coordinated_traces rule (Done made) sends w = λ clear. made_traces rule made sends w

coordinator_traces : (n : Network) (rule : Rule) (members : ℕ → Member) (i : ℕ) (up : List Signal) → IsLawful n → (members i).up ≡ up → HasTrace n members → MoveTraces n (coordinator_takes_from n rule members i up)
coordinator_traces n rule members i [] lawful e w = tt
coordinator_traces n rule members i (signal ∷ rest) lawful e w =
    coordinated_traces n members i rest rule (coordinator_takes n (federate_records_of members) i signal) (take_sends n members i rest lawful (federate_records_of members) signal e) w

lose_stays : (n : Network) (i : ℕ) (m : Member) → StaysTraced n i m m.down (record m { lost = true })
lose_stays n i m = record { rows = refl; up = λ a t slot. refl; rest = λ t slot. refl }

move_traces : (n : Network) (table : Table) (rule : Rule) (members : ℕ → Member) (move : Move) → IsLawful n → IsSound n table members → AllReplayed n members → HasTrace n members → MoveTraces n (outcome_of n rule members move)
move_traces n table rule members (ToCoordinator i) lawful sound replayed w = coordinator_traces n rule members i (members i).up lawful refl w
move_traces n table rule members (ToFederate i) lawful sound replayed w = step_traces n members i (federate_takes_from n i (members i) (members i).down) (members i).lost (take_stays n i (members i) (members i).down) w
move_traces n table rule members (Announce i) lawful sound replayed w =
    step_traces n members i (with_made (stepped (members i) (members i).down) (federate_announces (members i).federate)) (members i).lost
    (announce_stays n i (members i) (is_told (members i).federate.announced (next_event (members i).federate))) w
move_traces n table rule members (Advance i) lawful sound replayed w = advance_traces n table members i (first_tag (members i).federate.undone) (members i).lost lawful sound replayed refl w
move_traces n table rule members (Lose i) lawful sound replayed w = λ clear. (w.0, stays_traced n members w.0 i (record (members i) { lost = true }) (lose_stays n i (members i)) w.1)

made_traced : (n : Network) (members : ℕ → Member) (o : Outcome (ℕ → Member)) → HasTrace n members → MoveTraces n o → AllClear n (made_or members o) → HasTrace n (made_or members o)
made_traced n members (Refused refusal) w m clear = w
made_traced n members Nothing w m clear = w
made_traced n members (Done after) w m clear = m clear

outside_first : (a : ℕ) (t : LogicalTime) (slot : ℕ) (e : Event) (rest : List Event) → AllByRecursion (AreForDifferentSlots e) rest → (b c d : Bool) → nat_eq e.reactor a ≡ b → is_same e.tag t ≡ c → nat_eq e.slot slot ≡ d → last_held (map pending_event_of (filter (λ x. nat_eq x.reactor a) rest)) t slot ≡ latest_value (filter (is_for a t slot) rest) → last_held (map pending_event_of (cond b (e ∷ filter (λ x. nat_eq x.reactor a) rest) (filter (λ x. nat_eq x.reactor a) rest))) t slot ≡ latest_value (cond ((b && c) && d) (e ∷ filter (is_for a t slot) rest) (filter (is_for a t slot) rest))
outside_first a t slot e rest apart false c d p q r h = h
outside_first a t slot e rest apart true false d p q r h =
    let other : (is_same e.tag t && nat_eq e.slot slot) ≡ false = ap (λ (b : Bool). b && nat_eq e.slot slot) q in
    ap (λ (b : Bool). or_else (last_held (map pending_event_of (filter (λ x. nat_eq x.reactor a) rest)) t slot) (if b then Some e.value else None)) other ∙ (or_nothing (last_held (map pending_event_of (filter (λ x. nat_eq x.reactor a) rest)) t slot) ∙ h)
outside_first a t slot e rest apart true true false p q r h =
    let other : (is_same e.tag t && nat_eq e.slot slot) ≡ false = (λ y. q y && r y) in
    ap (λ (b : Bool). or_else (last_held (map pending_event_of (filter (λ x. nat_eq x.reactor a) rest)) t slot) (if b then Some e.value else None)) other ∙ (or_nothing (last_held (map pending_event_of (filter (λ x. nat_eq x.reactor a) rest)) t slot) ∙ h)
outside_first a t slot e rest apart true true true p q r h =
    let here : (is_same e.tag t && nat_eq e.slot slot) ≡ true = (λ y. q y && r y) in
    let none : filter (is_for a t slot) rest ≡ [] = none_kept (is_for a t slot) rest (each_more (AreForDifferentSlots e) (λ x. is_for a t slot x ≡ false)
    (λ x w. false_from_ne_true (is_for a t slot x) (λ k. let parts = is_for_parts a t slot x k in w (same_is_equal e.tag t q ∙ sym (same_is_equal x.tag t parts.1.0)) (eqb-true e.reactor a p ∙ sym parts.0) (eqb-true e.slot slot r ∙ sym parts.1.1))) rest apart) in
    (λ y. or_else (h y) (if here y then Some e.value else None))
    ∙ ((λ y. or_else (latest_value (none y)) (Some e.value)) ∙ sym (ap (λ (l : List Event). latest_value (e ∷ l)) none))

-- at first what comes from outside waits
module _ (n : Network) (L : IsLawful n) where
  external_waits : (a : ℕ) (t : LogicalTime) (slot : ℕ) (es : List Event) → AllPairs AreForDifferentSlots es → last_held (map pending_event_of (filter (λ e. nat_eq e.reactor a) es)) t slot ≡ latest_value (filter (is_for a t slot) es)
  external_waits a t slot [] apart = refl
  external_waits a t slot (e ∷ rest) apart =
      outside_first a t slot e rest (each (AreForDifferentSlots e) rest (first_pair AreForDifferentSlots e rest apart)) (nat_eq e.reactor a) (is_same e.tag t) (nat_eq e.slot slot) refl refl refl
      (external_waits a t slot rest (later_pairs AreForDifferentSlots e rest apart))

  initial_waits : (a : ℕ) → a < n.reactors → (t : LogicalTime) (slot : ℕ) → waiting n (initial_member n) a t slot ≡ sees n (λ i. []) a t slot
  initial_waits a h t slot =
      let held : look (initial_member n a).federate.undone t slot ≡ latest_value (filter (is_for a t slot) n.external) =
      look_put_all (map pending_event_of (filter (λ e. nat_eq e.reactor a) n.external)) [] t slot
      ∙ (or_nothing (last_held (map pending_event_of (filter (λ e. nat_eq e.reactor a) n.external)) t slot) ∙ external_waits a t slot n.external L.external_apart) in
      held ∙ sym (ap latest_value (events_for n L a h t slot (λ i. []) ∙ append-nil (filter (is_for a t slot) n.external)))

  initial_traced : HasTrace n (initial_member n)
  initial_traced = (
    (λ i. []),
    record {
      history = λ i. refl;
      waits = λ a h t below slot none. initial_waits a h t slot;
      called = λ a h. tt;
    },
  )

-- after every list of moves
pub moves_traced : (n : Network) (table : Table) (rules : ℕ → Rule) (moves : List Move) → IsLawful n → IsAtMostEveryPath n table → ((k : ℕ) → IsSafeRule n table (rules k)) → HasTrace n (after_moves n rules moves)
moves_traced n table rules [] lawful facts safe = initial_traced n lawful
moves_traced n table rules (move ∷ earlier) lawful facts safe =
    let before = moves_traced n table rules earlier lawful facts safe in
    let sound = moves_sound n table rules earlier lawful facts safe in
    let replayed = moves_replay n table rules earlier lawful facts safe in
    made_traced n (after_moves n rules earlier) (outcome_of n (rules (length earlier)) (after_moves n rules earlier) move) before
    (move_traces n table (rules (length earlier)) (after_moves n rules earlier) move lawful sound replayed before)
    (moves_clear n table rules (move ∷ earlier) lawful facts safe)
