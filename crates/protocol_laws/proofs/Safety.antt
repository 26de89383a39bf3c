-- The steps of the machine: none is refused, and each keeps what is kept.
use Rattle.std.proofs.Common.{◌≡◌, ℕ, zero, suc, ◌+◌, ◌<◌, ◌≤◌, ◌⊎◌, inl, inr, Bool, true, false, cond, IsTrue, List, [], ◌∷◌, ◌++◌, length, refl, sym, ap, subst, ◌∙◌, arith, Option, None, Some, ℤ}
use Rattle.std.specs.Prelude.{slice_get, filter, map, nat_eq, nat_lt, if◌then◌else◌, not, ◌&&◌, ◌||◌}
use Rattle.std.proofs.Math.Path.{fun_ext}
use Rattle.std.proofs.lemmas.Bool.{eq-eqb, cases_lt, eqb-true, ne_eqb}
use Rattle.std.proofs.lemmas.Bool.Decides.{nat_tests}
use Rattle.std.proofs.lemmas.List.{append-nil, append_assoc, map-append}
use Rattle.std.proofs.lemmas.List.Elements.{filter-append}
use Rattle.tag.specs.LogicalTime.{LogicalTime, IsLogicalTime, is_at_most, is_same, sum_of, successor_of, forever, place, is_past, is_reached}
use Rattle.tag.proofs.Order.{at_most_from_places, at_most_reflexive, at_most_transitive, finite_is_logical}
use Rattle.tag.proofs.SumLaws.{successor_at_least, sum_is_logical}
use Rattle.tag.proofs.Paths.{plain_is_logical}
use Rattle.network.specs.Connection.{Connection}
use Rattle.network.specs.Network.{Network}
use Rattle.network.specs.Lawful.{IsLawful, IsConnected}
use Rattle.network.specs.Tables.{Table, IsAtMostEveryPath}
use Rattle.signal.specs.declared.signal.Signal.{Signal}
use Rattle.signal.specs.declared.signal.Signal.TheVariants.{Net, Ltc, Tag, Msg}
use Rattle.protocol.specs.declared.refusal.Refusal.{Refusal}
use Rattle.protocol.specs.declared.refusal.Refusal.TheVariants.{Late, OldGrant, WrongSignal, NotYours, BelowGrant, NotRising, AfterStop}
use Rattle.protocol.specs.Outcome.{Outcome, Refused, Nothing, Done, made_or, with_made}
use Rattle.network.specs.Undone.{first_tag, put}
use Rattle.protocol.specs.Federate.{Federate, Stepped, is_told, next_event, accept_message, federate_announces, advance_to, federate_advances, turn_at}
use Rattle.protocol.specs.FederateRecord.{FederateRecord, after_message, after_net, after_ltc, after_grant}
use Rattle.protocol.specs.Grant.{Rule, IsSafe, IsSafeRule, after_completed}
use Rattle.protocol.specs.declared.post.Post.{Post}
use Rattle.protocol.specs.Coordinator.{Coordinated, with_federate_record, noted, route, grant_to, grant_post, grants_from, with_grants}
use Rattle.protocol.specs.Machine.{Member, Move, ToCoordinator, ToFederate, Announce, Advance, Lose, initial_member, with_member, federate_records_of, sent_to, coordinated, coordinator_takes_from, stepped, federate_takes_from, outcome_of, after_moves}
use Rattle.protocol_laws.proofs.Tags.{above, after_completed_least, past_true, to_past}
use Rattle.protocol_laws.proofs.Upward.{IsOver, source_at_least}
use Rattle.protocol_laws.proofs.Downward.{EndsAt}
use Rattle.protocol_laws.proofs.Kept.{IsKept, net_keeps, net_raises, ltc_keeps, message_keeps, route_keeps, grant_keeps, tag_keeps, taken_keeps, announce_keeps, turn_keeps, initial_is_kept}
use Rattle.protocol_laws.proofs.Backing.{all_at, IsBacked, IsLater, is_later_itself, backed_later, at_update, grant_is_later, safe_is_backed, message_is_past, message_keeps_backing}
use Rattle.protocol_laws.proofs.Tests.{both_hold, if_passed}

-- what is kept of a member
abbrev pub IsMember : Network → ℕ → Member → Type 0
IsMember n j m = IsKept n j m.federate_record m.federate m.up m.down

-- what is kept of all
pub record IsSound (n : Network) (table : Table) (members : ℕ → Member) : Type 0 where
  pub kept : (j : ℕ) → IsMember n j (members j)
  pub backed : (j : ℕ) → IsBacked n table (federate_records_of members) j (members j).federate_record.granted

-- a move that isn't refused, and keeps it all
abbrev pub Goes : Network → Table → Outcome (ℕ → Member) → Type 0
Goes n table (Refused refusal) = ⊥
Goes n table Nothing = Unit {0}
Goes n table (Done members) = IsSound n table members

-- the same of what one federate does: its record stays
abbrev pub MemberGoes : Network → ℕ → FederateRecord → Outcome Member → Type 0
MemberGoes n j s (Refused refusal) = ⊥
MemberGoes n j s Nothing = Unit {0}
MemberGoes n j s (Done m) = IsMember n j m × (m.federate_record ≡ s)

-- with one member replaced by one of the same record
pub federate_record_stays : (members : ℕ → Member) (i : ℕ) (m : Member) (j : ℕ) → m.federate_record ≡ (members i).federate_record → federate_records_of (with_member members i m) j ≡ federate_records_of members j
federate_record_stays members i m j e =
    let P : Member → Type 0 = λ x. x.federate_record ≡ (members j).federate_record in
    at_update P m (members j) j i (λ q. e ∙ ap (λ x. (members x).federate_record) (sym q)) refl

member_sound : (n : Network) (table : Table) (members : ℕ → Member) (i : ℕ) (m : Member) → IsSound n table members → IsMember n i m → m.federate_record ≡ (members i).federate_record → IsSound n table (with_member members i m)
member_sound n table members i m s k e =
    record {
      kept = λ j. (
          let P : Member → Type 0 = λ x. IsMember n j x in
          let Q : ℕ → Type 0 = λ x. IsMember n x m in
          at_update P m (members j) j i (λ q. subst Q (sym q) k) (s.kept j));
      backed = λ j. (
          let same : federate_records_of (with_member members i m) ≡ federate_records_of members = fun_ext (λ x. federate_record_stays members i m x e) in
          let P : (ℕ → FederateRecord) → Type 0 = λ x. IsBacked n table x j (x j).granted in
          subst P (sym same) (s.backed j));
    }

member_goes : (n : Network) (table : Table) (members : ℕ → Member) (i : ℕ) (o : Outcome Member) → IsSound n table members → MemberGoes n i (members i).federate_record o → Goes n table (with_made (with_member members i) o)
member_goes n table members i (Refused refusal) s g = g
member_goes n table members i Nothing s g = tt
member_goes n table members i (Done m) s g = member_sound n table members i m s g.0 g.1

unless_goes : (n : Network) (table : Table) (members : ℕ → Member) (i : ℕ) (o : Outcome Member) (b : Bool) → IsSound n table members → MemberGoes n i (members i).federate_record o → Goes n table (if b then Nothing else with_made (with_member members i) o)
unless_goes n table members i o true s g = tt
unless_goes n table members i o false s g = member_goes n table members i o s g

-- nothing sent leaves the queue as it is
pub nothing_sent : (n : Network) (j : ℕ) (s : FederateRecord) (f : Federate) (up down : List Signal) → IsKept n j s f up down → IsKept n j s f (up ++ []) down
nothing_sent n j s f up down k = let P : List Signal → Type 0 = λ x. IsKept n j s f x down in subst P (sym (append-nil up)) k

-- a federate takes a message over a connection that ends there
message_goes : (n : Network) (j : ℕ) (m : Member) (rest : List Signal) (o : Option Connection) (g : LogicalTime) (v : ℤ) → EndsAt j o → is_at_most g n.stop ≡ true → is_past m.federate.completed g ≡ true → is_past m.federate.granted g ≡ true → ((slot : ℕ) → IsKept n j m.federate_record (record m.federate { undone = put (record { tag = g; slot = slot; value = v }) m.federate.undone }) m.up rest) → MemberGoes n j m.federate_record (with_made (stepped m rest) (accept_message n j m.federate o g v))
message_goes n j m rest None g v ends stop completed granted k = absurd ends
message_goes n j m rest (Some c) g v ends stop completed granted k =
    let made : Stepped = record { after = record m.federate { undone = put (record { tag = g; slot = c.slot; value = v }) m.federate.undone }; sent = [] } in
    let inner = if_passed (is_past m.federate.completed g && is_past m.federate.granted g) (Refused Late) (Done made) (both_hold (is_past m.federate.completed g) (is_past m.federate.granted g) completed granted) in
    let outer = if_passed (nat_eq c.target j && is_at_most g n.stop) (Refused WrongSignal) (if not (is_past m.federate.completed g && is_past m.federate.granted g) then Refused Late else Done made) (both_hold (nat_eq c.target j) (is_at_most g n.stop) (eq-eqb c.target j ends) stop) in
    let P : Outcome Stepped → Type 0 = λ x. MemberGoes n j m.federate_record (with_made (stepped m rest) x) in
    subst P (sym (outer ∙ inner)) (nothing_sent n j m.federate_record made.after m.up rest (k c.slot), refl)

-- a federate takes its oldest signal
take_goes : (n : Network) (j : ℕ) (m : Member) (down : List Signal) → IsLawful n → IsKept n j m.federate_record m.federate m.up down → MemberGoes n j m.federate_record (federate_takes_from n j m down)
take_goes n j m [] lawful k = tt
take_goes n j m (Net g ∷ rest) lawful k = absurd k.downward
take_goes n j m (Ltc g ∷ rest) lawful k = absurd k.downward
take_goes n j m (Tag g ∷ rest) lawful k =
    let made : Stepped = record { after = record m.federate { granted = Some g }; sent = [] } in
    let past = to_past m.federate.granted g k.own_granted_tag k.downward.0 k.downward.1 in
    let inner = if_passed (is_past m.federate.granted g) (Refused OldGrant) (Done made) past in
    let outer = if_passed (is_at_most g n.stop) (Refused WrongSignal) (if not (is_past m.federate.granted g) then Refused OldGrant else Done made) k.downward.2 in
    let P : Outcome Stepped → Type 0 = λ x. MemberGoes n j m.federate_record (with_made (stepped m rest) x) in
    subst P (sym (outer ∙ inner)) (nothing_sent n j m.federate_record made.after m.up rest (tag_keeps n j m.federate_record m.federate m.up rest g k), refl)
take_goes n j m (Msg c g v ∷ rest) lawful k =
    let stop = finite_is_logical n.stop lawful.stop in
    let low = k.downward.2 in
    let order = k.completed_granted in
    let completed : above m.federate.completed ≤ place g = omega arith in
    message_goes n j m rest (slice_get n.connections c) g v k.downward.0 k.downward.3
    (to_past m.federate.completed g k.own_completed_tag k.downward.1 completed) (to_past m.federate.granted g k.own_granted_tag k.downward.1 low)
    (λ slot. taken_keeps n j m.federate_record m.federate m.up rest c g v slot stop k)

-- a federate announces
announce_if : (n : Network) (j : ℕ) (m : Member) (b : Bool) → IsLawful n → IsMember n j m → MemberGoes n j m.federate_record (with_made (stepped m m.down) (if b then Nothing else Done (record { after = record m.federate { announced = Some (next_event m.federate) }; sent = Net (next_event m.federate) ∷ [] })))
announce_if n j m true lawful k = tt
announce_if n j m false lawful k = (announce_keeps n j m.federate_record m.federate m.up m.down (finite_is_logical n.stop lawful.stop) k, refl)

announce_goes : (n : Network) (j : ℕ) (m : Member) → IsLawful n → IsMember n j m → MemberGoes n j m.federate_record (with_made (stepped m m.down) (federate_announces m.federate))
announce_goes n j m lawful k = announce_if n j m (is_told m.federate.announced (next_event m.federate)) lawful k

-- a federate advances
turn_if : (n : Network) (j : ℕ) (m : Member) (g : LogicalTime) (b : Bool) → (b ≡ true → is_reached m.federate.granted g ≡ true) → IsLawful n → first_tag m.federate.undone ≡ Some g → IsMember n j m → MemberGoes n j m.federate_record (with_made (stepped m m.down) (if b then Done (turn_at n j m.federate g) else Nothing))
turn_if n j m g true t lawful first k = (turn_keeps n j m.federate_record m.federate m.up m.down g lawful first (t refl) k, refl)
turn_if n j m g false t lawful first k = tt

advance_goes_to : (n : Network) (j : ℕ) (m : Member) (o : Option LogicalTime) → IsLawful n → first_tag m.federate.undone ≡ o → IsMember n j m → MemberGoes n j m.federate_record (with_made (stepped m m.down) (advance_to n j m.federate o))
advance_goes_to n j m None lawful first k = tt
advance_goes_to n j m (Some g) lawful first k = turn_if n j m g (is_reached m.federate.granted g) (λ t. t) lawful first k

advance_goes : (n : Network) (j : ℕ) (m : Member) → IsLawful n → IsMember n j m → MemberGoes n j m.federate_record (with_made (stepped m m.down) (federate_advances n j m.federate))
advance_goes n j m lawful k = advance_goes_to n j m (first_tag m.federate.undone) lawful refl k

-- a TAG, if there is one
abbrev pub tag_if : Option LogicalTime → List Signal
tag_if None = []
tag_if (Some g) = Tag g ∷ []

pub sent-append : (j : ℕ) (xs ys : List Post) → sent_to j (xs ++ ys) ≡ sent_to j xs ++ sent_to j ys
sent-append j xs ys =
    ap (map (λ (p : Post). p.signal)) (filter-append (λ (p : Post). nat_eq j p.peer) xs ys) ∙
    map-append (λ (p : Post). p.signal) (filter (λ (p : Post). nat_eq j p.peer) xs) (filter (λ (p : Post). nat_eq j p.peer) ys)

post_here : (j k : ℕ) (o : Option LogicalTime) → j ≡ k → sent_to j (grant_post k o) ≡ tag_if o
post_here j k None e = refl
post_here j k (Some g) e = let P : Bool → Type 0 = λ b. map (λ (p : Post). p.signal) (cond b (record { peer = k; signal = Tag g } ∷ []) []) ≡ Tag g ∷ [] in subst P (sym (eq-eqb j k e)) refl

post_elsewhere : (j k : ℕ) (o : Option LogicalTime) → (j ≡ k → ⊥) → sent_to j (grant_post k o) ≡ []
post_elsewhere j k None e = refl
post_elsewhere j k (Some g) e = let P : Bool → Type 0 = λ b. map (λ (p : Post). p.signal) (cond b (record { peer = k; signal = Tag g } ∷ []) []) ≡ [] in subst P (sym (ne_eqb j k e)) refl

grants_elsewhere : (n : Network) (rule : Rule) (federate_records : ℕ → FederateRecord) (j k count : ℕ) → (j < k) ⊎ (k + count ≤ j) → sent_to j (grants_from n rule federate_records k count) ≡ []
grants_elsewhere n rule federate_records j k zero h = refl
grants_elsewhere n rule federate_records j k (suc count) h =
    let apart : j ≡ k → ⊥ = elim h [ inl l ↦ λ e. omega arith | inr l ↦ λ e. omega arith ] in
    let onward : (j < k + 1) ⊎ ((k + 1) + count ≤ j) = elim h [ inl l ↦ inl (omega arith) | inr l ↦ inr (omega arith) ] in
    sent-append j (grant_post k (grant_to n rule federate_records k)) (grants_from n rule federate_records (k + 1) count) ∙
    ap (λ x. x ++ sent_to j (grants_from n rule federate_records (k + 1) count)) (post_elsewhere j k (grant_to n rule federate_records k) apart) ∙
    grants_elsewhere n rule federate_records j (k + 1) count onward

cases_eq : (a b : ℕ) → a ≤ b → (a ≡ b) ⊎ (a < b)
cases_eq a b h = elim (cases_lt a b) [ inl l ↦ inr l | inr l ↦ inl (omega arith) ]

grants_here : (n : Network) (rule : Rule) (federate_records : ℕ → FederateRecord) (j k count : ℕ) → k ≤ j → j < k + count → sent_to j (grants_from n rule federate_records k count) ≡ tag_if (grant_to n rule federate_records j)
grants_here n rule federate_records j k zero h l = absurd (omega arith)
grants_here n rule federate_records j k (suc count) h l =
    elim (cases_eq k j h) [
      | inl e ↦
          let P : ℕ → Type 0 = λ x. sent_to j (grant_post k (grant_to n rule federate_records k)) ≡ tag_if (grant_to n rule federate_records x) in
          let here = subst P e (post_here j k (grant_to n rule federate_records k) (sym e)) in
          let rest = grants_elsewhere n rule federate_records j (k + 1) count (inl (omega arith)) in
          sent-append j (grant_post k (grant_to n rule federate_records k)) (grants_from n rule federate_records (k + 1) count) ∙
          ap (λ x. sent_to j (grant_post k (grant_to n rule federate_records k)) ++ x) rest ∙ append-nil (sent_to j (grant_post k (grant_to n rule federate_records k))) ∙ here
      | inr m ↦
          sent-append j (grant_post k (grant_to n rule federate_records k)) (grants_from n rule federate_records (k + 1) count) ∙
          ap (λ x. x ++ sent_to j (grants_from n rule federate_records (k + 1) count)) (post_elsewhere j k (grant_to n rule federate_records k) (λ e. omega arith)) ∙
          grants_here n rule federate_records j (k + 1) count (omega arith) (omega arith)
    ]

none_past_end : (n : Network) (rule : Rule) (federate_records : ℕ → FederateRecord) (j : ℕ) → n.reactors ≤ j → grant_to n rule federate_records j ≡ None
none_past_end n rule federate_records j h =
    let e : nat_lt j n.reactors ≡ false = grind (arith, nat_tests) in
    ap (λ b. if b then rule federate_records j else None) e

-- what all grants send to one federate
pub grants_sent : (n : Network) (rule : Rule) (federate_records : ℕ → FederateRecord) (j : ℕ) → sent_to j (grants_from n rule federate_records 0 n.reactors) ≡ tag_if (grant_to n rule federate_records j)
grants_sent n rule federate_records j =
    elim (cases_lt j n.reactors) [
      | inl l ↦ grants_here n rule federate_records j 0 n.reactors (omega arith) (omega arith)
      | inr l ↦ grants_elsewhere n rule federate_records j 0 n.reactors (inr (omega arith)) ∙ ap tag_if (sym (none_past_end n rule federate_records j l))
    ]

pub rule_grants : (n : Network) (rule : Rule) (federate_records : ℕ → FederateRecord) (j : ℕ) (g : LogicalTime) (b : Bool) → (if b then rule federate_records j else None) ≡ Some g → rule federate_records j ≡ Some g
rule_grants n rule federate_records j g true e = e
rule_grants n rule federate_records j g false e = cc

-- the TAGs that go out keep what is kept
grants_keep : (n : Network) (table : Table) (federate_records : ℕ → FederateRecord) (j : ℕ) (s : FederateRecord) (f : Federate) (up down : List Signal) (o : Option LogicalTime) → ((g : LogicalTime) → o ≡ Some g → IsSafe n table federate_records j g) → federate_records j ≡ s → IsKept n j s f up down → IsKept n j (after_grant s o) f up (down ++ tag_if o)
grants_keep n table federate_records j s f up down None safe e k = let P : List Signal → Type 0 = λ x. IsKept n j s f up x in subst P (sym (append-nil down)) k
grants_keep n table federate_records j s f up down (Some g) safe e k =
    let here = safe g refl in
    let tag = finite_is_logical g here.finite in
    let P : FederateRecord → Type 0 = λ x. IsTrue (is_past x.granted g) in
    grant_keeps n j s f up down g tag (past_true s.granted g k.granted_tag tag (subst P e here.later)) here.in_time k

grants_back : (n : Network) (table : Table) (federate_records after : ℕ → FederateRecord) (j : ℕ) (s : FederateRecord) (o : Option LogicalTime) → ((g : LogicalTime) → o ≡ Some g → IsSafe n table federate_records j g) → ((i : ℕ) → IsLater (federate_records i) (after i)) → IsBacked n table federate_records j s.granted → IsBacked n table after j (after_grant s o).granted
grants_back n table federate_records after j s None safe l b = backed_later n table federate_records after j s.granted l b
grants_back n table federate_records after j s (Some g) safe l b = backed_later n table federate_records after j (Some g) l (safe_is_backed n table federate_records j g (safe g refl).safe)

-- after what a signal changed, the TAGs go out
with_grants_sound : (n : Network) (table : Table) (rule : Rule) (made : Coordinated) (members : ℕ → Member) → IsSafeRule n table rule → ((j : ℕ) → IsKept n j (made.after j) (members j).federate (members j).up ((members j).down ++ sent_to j made.sent)) → ((j : ℕ) → IsBacked n table made.after j (made.after j).granted) → IsSound n table (λ j. coordinated (with_grants n rule made) j (members j))
with_grants_sound n table rule made members safe kept backed =
    let safe_at : (j : ℕ) (g : LogicalTime) → grant_to n rule made.after j ≡ Some g → IsSafe n table made.after j g =
    λ j g e. safe made.after (λ i. (kept i).next_tag) j g (rule_grants n rule made.after j g (nat_lt j n.reactors) e) in
    record {
      kept = λ j. (
          let sent : sent_to j (made.sent ++ grants_from n rule made.after 0 n.reactors) ≡ sent_to j made.sent ++ tag_if (grant_to n rule made.after j) =
          sent-append j made.sent (grants_from n rule made.after 0 n.reactors) ∙ ap (λ x. sent_to j made.sent ++ x) (grants_sent n rule made.after j) in
          let whole : (members j).down ++ sent_to j (made.sent ++ grants_from n rule made.after 0 n.reactors) ≡ ((members j).down ++ sent_to j made.sent) ++ tag_if (grant_to n rule made.after j) =
          ap (λ x. (members j).down ++ x) sent ∙ sym (append_assoc (members j).down (sent_to j made.sent) (tag_if (grant_to n rule made.after j))) in
          let P : List Signal → Type 0 = λ x. IsKept n j (after_grant (made.after j) (grant_to n rule made.after j)) (members j).federate (members j).up x in
          subst P (sym whole)
          (grants_keep n table made.after j (made.after j) (members j).federate (members j).up ((members j).down ++ sent_to j made.sent) (grant_to n rule made.after j) (safe_at j) refl (kept j)));
      backed = λ j. grants_back n table made.after (λ i. after_grant (made.after i) (grant_to n rule made.after i)) j (made.after j) (grant_to n rule made.after j) (safe_at j)
          (λ i. grant_is_later (made.after i) (grant_to n rule made.after i)) (backed j);
    }

-- the member whose signal was taken has another record and the rest of its queue; the others are as they were
noted_if : (n : Network) (j : ℕ) (mine other : FederateRecord) (taken before : Member) (b : Bool) → (b ≡ true → IsKept n j mine taken.federate taken.up taken.down) → IsMember n j before → before.federate_record ≡ other → IsKept n j (if b then mine else other) (if b then taken else before).federate (if b then taken else before).up ((if b then taken else before).down ++ [])
noted_if n j mine other taken before true k o e = let P : List Signal → Type 0 = λ x. IsKept n j mine taken.federate taken.up x in subst P (sym (append-nil taken.down)) (k refl)
noted_if n j mine other taken before false k o e =
    let P : List Signal → Type 0 = λ x. IsKept n j other before.federate before.up x in
    let Q : FederateRecord → Type 0 = λ x. IsKept n j x before.federate before.up before.down in
    subst P (sym (append-nil before.down)) (subst Q e o)

-- a NET or an LTC: only its federate's record changes, and to a later one
noted_goes : (n : Network) (table : Table) (rule : Rule) (members : ℕ → Member) (i : ℕ) (rest : List Signal) (mine : FederateRecord) → IsSafeRule n table rule → IsSound n table members → IsKept n i mine (members i).federate rest (members i).down → IsLater (members i).federate_record mine → mine.granted ≡ (members i).federate_record.granted → IsSound n table (λ j. coordinated (with_grants n rule (noted (federate_records_of members) i mine)) j (with_member members i (record (members i) { up = rest }) j))
noted_goes n table rule members i rest mine safe s k l g =
    with_grants_sound n table rule (noted (federate_records_of members) i mine) (with_member members i (record (members i) { up = rest })) safe
    (λ j. (
    let P : ℕ → Type 0 = λ x. IsKept n x mine (members i).federate rest (members i).down in
    noted_if n j mine (members j).federate_record (record (members i) { up = rest }) (members j) (nat_eq j i) (λ e. subst P (sym (eqb-true j i e)) k) (s.kept j) refl))
    (λ j. (
    let later : (x : ℕ) → IsLater (members x).federate_record (with_federate_record (federate_records_of members) i mine x) = λ x. (
    let Q : FederateRecord → Type 0 = λ y. IsLater (members x).federate_record y in
    let R : ℕ → Type 0 = λ y. IsLater (members y).federate_record mine in
    at_update Q mine (members x).federate_record x i (λ e. subst R (sym e) l) (is_later_itself (members x).federate_record)) in
    let before = backed_later n table (federate_records_of members) (with_federate_record (federate_records_of members) i mine) j (members j).federate_record.granted later (s.backed j) in
    let S : FederateRecord → Type 0 = λ y. y.granted ≡ (members j).federate_record.granted in
    let same = at_update S mine (members j).federate_record j i (λ e. g ∙ ap (λ x. (members x).federate_record.granted) (sym e)) refl in
    let T : Option LogicalTime → Type 0 = λ o. IsBacked n table (with_federate_record (federate_records_of members) i mine) j o in
    subst T (sym same) before))

-- the member whose message was taken has the rest of its queue
popped_if : (n : Network) (j : ℕ) (taken before : Member) (b : Bool) → (b ≡ true → IsMember n j taken) → IsMember n j before → (b ≡ true → before.federate_record ≡ taken.federate_record) → IsKept n j before.federate_record (if b then taken else before).federate (if b then taken else before).up (if b then taken else before).down
popped_if n j taken before true k o e = let P : FederateRecord → Type 0 = λ x. IsKept n j x taken.federate taken.up taken.down in subst P (sym (e refl)) (k refl)
popped_if n j taken before false k o e = o

-- the member to which it goes has it in its queue
routed_if : (n : Network) (j target : ℕ) (mine other : FederateRecord) (f : Federate) (up down : List Signal) (message : Signal) (b : Bool) → (b ≡ true → IsKept n j mine f up (down ++ message ∷ [])) → IsKept n j other f up down → IsKept n j (if b then mine else other) f up (down ++ map (λ (p : Post). p.signal) (cond b (record { peer = target; signal = message } ∷ []) []))
routed_if n j target mine other f up down message true k o = k refl
routed_if n j target mine other f up down message false k o = let P : List Signal → Type 0 = λ x. IsKept n j other f up x in subst P (sym (append-nil down)) o

-- a message from i over a connection: it goes on to the connection's end
over_goes : (n : Network) (table : Table) (rule : Rule) (members : ℕ → Member) (i k : ℕ) (g : LogicalTime) (v : ℤ) (rest : List Signal) (source : LogicalTime) (o : Option Connection) → IsLawful n → IsAtMostEveryPath n table → IsSafeRule n table rule → IsSound n table members → IsKept n i (members i).federate_record (members i).federate rest (members i).down → IsLogicalTime source → place (members i).federate_record.next ≤ place source → above (members i).federate_record.completed ≤ place source → slice_get n.connections k ≡ o → IsOver n i o source g → Goes n table (with_made (λ made. λ j. coordinated made j (with_member members i (record (members i) { up = rest }) j)) (with_made (with_grants n rule) (route n (federate_records_of members) i (Msg k g v) o g)))
over_goes n table rule members i k g v rest source None lawful facts safe sound popped tag next completed e over = absurd over
over_goes n table rule members i k g v rest source (Some c) lawful facts safe sound popped tag next completed e over =
    let connected : IsConnected n c = all_at (IsConnected n) n.connections k c lawful.connected e in
    let from_i : c.source ≡ i = over.0 in
    let is_sum : g ≡ sum_of source c.delay = over.1 in
    let A : ℕ → Type 0 = λ x. is_at_most (members x).federate_record.next source ≡ true in
    let at_next : is_at_most (members c.source).federate_record.next source ≡ true = subst A (sym from_i) (at_most_from_places (members i).federate_record.next source popped.next_tag tag next) in
    let B : ℕ → Type 0 = λ x. is_at_most (after_completed (members x).federate_record.completed) source ≡ true in
    let at_completed : is_at_most (after_completed (members c.source).federate_record.completed) source ≡ true = subst B (sym from_i) (after_completed_least (members i).federate_record.completed source popped.completed_tag tag completed) in
    let C : LogicalTime → Type 0 = λ x. is_past (members c.target).federate_record.granted x ≡ true in
    let past : is_past (members c.target).federate_record.granted g ≡ true =
    subst C (sym is_sum) (message_is_past n table (federate_records_of members) k c source (members c.target).federate_record.granted facts e connected.source at_next at_completed (sound.backed c.target)) in
    let D : LogicalTime → Type 0 = λ x. IsLogicalTime x in
    let g_tag : IsLogicalTime g = subst D (sym is_sum) (sum_is_logical source c.delay tag (plain_is_logical c.delay connected.delay)) in
    let above_granted = past_true (members c.target).federate_record.granted g (sound.kept c.target).granted_tag g_tag past in
    let mine : FederateRecord = after_message (members c.target).federate_record g in
    let made : Coordinated = record { after = with_federate_record (federate_records_of members) c.target (after_message (members c.target).federate_record g); sent = record { peer = c.target; signal = Msg k g v } ∷ [] } in
    let W : ℕ → Member = with_member members i (record (members i) { up = rest }) in
    let E : ℕ → Type 0 = λ x. IsKept n x (members i).federate_record (members i).federate rest (members i).down in
    let waiting : (j : ℕ) → IsKept n j (members j).federate_record (W j).federate (W j).up (W j).down =
    λ j. popped_if n j (record (members i) { up = rest }) (members j) (nat_eq j i) (λ q. subst E (sym (eqb-true j i q)) popped) (sound.kept j) (λ q. ap (λ x. (members x).federate_record) (eqb-true j i q)) in
    let F : ℕ → Type 0 = λ x. above (members x).federate_record.granted ≤ place g in
    let kept : (j : ℕ) → IsKept n j (made.after j) (W j).federate (W j).up ((W j).down ++ sent_to j made.sent) =
    λ j. routed_if n j c.target (after_message (members c.target).federate_record g) (members j).federate_record (W j).federate (W j).up (W j).down (Msg k g v) (nat_eq j c.target)
    (λ q. (
    let same : j ≡ c.target = eqb-true j c.target q in
    let G : Option Connection → Type 0 = λ x. EndsAt j x in
    let ends : EndsAt j (slice_get n.connections k) = subst G (sym e) (sym same) in
    let H : ℕ → Type 0 = λ x. IsKept n j (after_message (members x).federate_record g) (W j).federate (W j).up ((W j).down ++ Msg k g v ∷ []) in
    subst H same (route_keeps n j (members j).federate_record (W j).federate (W j).up (W j).down k g v ends g_tag (subst F (sym same) above_granted) over.2 (waiting j))))
    (waiting j) in
    let backed : (j : ℕ) → IsBacked n table made.after j (made.after j).granted =
    λ j. (
    let I : LogicalTime → Type 0 = λ x. IsBacked n table (with_federate_record (federate_records_of members) c.target (after_message (members c.target).federate_record x)) j (members j).federate_record.granted in
    let before = subst I (sym is_sum) (message_keeps_backing n table (federate_records_of members) k c source j (members j).federate_record.granted facts e connected.source at_next (sound.backed j)) in
    let S : FederateRecord → Type 0 = λ y. y.granted ≡ (members j).federate_record.granted in
    let same = at_update S (after_message (members c.target).federate_record g) (members j).federate_record j c.target (λ q. ap (λ x. (members x).federate_record.granted) (sym q)) refl in
    let T : Option LogicalTime → Type 0 = λ x. IsBacked n table made.after j x in
    subst T (sym same) before) in
    let inner = if_passed (is_past (members c.target).federate_record.granted g) (Refused BelowGrant) (Done made) past in
    let middle = if_passed (is_at_most g n.stop) (Refused AfterStop) (if not (is_past (members c.target).federate_record.granted g) then Refused BelowGrant else Done made) over.2 in
    let outer = if_passed (nat_eq c.source i) (Refused NotYours) (if not (is_at_most g n.stop) then Refused AfterStop else if not (is_past (members c.target).federate_record.granted g) then Refused BelowGrant else Done made) (eq-eqb c.source i from_i) in
    let P : Outcome Coordinated → Type 0 = λ x. Goes n table (with_made (λ made. λ j. coordinated made j (with_member members i (record (members i) { up = rest }) j)) (with_made (with_grants n rule) x)) in
    subst P (sym (outer ∙ middle ∙ inner)) (with_grants_sound n table rule made W safe kept backed)

-- the coordinator takes the oldest signal of federate i
coordinator_goes : (n : Network) (table : Table) (rule : Rule) (members : ℕ → Member) (i : ℕ) (up : List Signal) → IsLawful n → IsAtMostEveryPath n table → IsSafeRule n table rule → IsSound n table members → IsKept n i (members i).federate_record (members i).federate up (members i).down → Goes n table (coordinator_takes_from n rule members i up)
coordinator_goes n table rule members i [] lawful facts safe sound k = tt
coordinator_goes n table rule members i (Net g ∷ rest) lawful facts safe sound k =
    let mine : FederateRecord = after_net (members i).federate_record g in
    let made : Coordinated = noted (federate_records_of members) i mine in
    let kept = net_keeps n i (members i).federate_record (members i).federate rest (members i).down g k in
    let later : IsLater (members i).federate_record mine =
    (at_most_from_places (members i).federate_record.next mine.next k.next_tag kept.next_tag (net_raises n i (members i).federate_record (members i).federate rest (members i).down g k), at_most_reflexive (after_completed (members i).federate_record.completed)) in
    let past = to_past (members i).federate_record.completed g k.completed_tag k.upward.0 k.upward.1 in
    let inner = if_passed (is_past (members i).federate_record.completed g) (Refused NotRising) (Done made) past in
    let outer = if_passed (is_at_most g n.stop || is_same g forever) (Refused AfterStop) (if not (is_past (members i).federate_record.completed g) then Refused NotRising else Done made) k.upward.2 in
    let P : Outcome Coordinated → Type 0 = λ x. Goes n table (with_made (λ made. λ j. coordinated made j (with_member members i (record (members i) { up = rest }) j)) (with_made (with_grants n rule) x)) in
    subst P (sym (outer ∙ inner)) (noted_goes n table rule members i rest mine safe sound kept later refl)
coordinator_goes n table rule members i (Ltc c ∷ rest) lawful facts safe sound k =
    let mine : FederateRecord = after_ltc (members i).federate_record c in
    let made : Coordinated = noted (federate_records_of members) i mine in
    let kept = ltc_keeps n i (members i).federate_record (members i).federate rest (members i).down c k in
    let rises = at_most_transitive (after_completed (members i).federate_record.completed) c (successor_of c)
    (after_completed_least (members i).federate_record.completed c k.completed_tag k.upward.0 k.upward.1) (successor_at_least c k.upward.0) in
    let later : IsLater (members i).federate_record mine = (at_most_reflexive (members i).federate_record.next, rises) in
    let past = to_past (members i).federate_record.completed c k.completed_tag k.upward.0 k.upward.1 in
    let inner = if_passed (is_past (members i).federate_record.completed c) (Refused NotRising) (Done made) past in
    let outer = if_passed (is_at_most c n.stop) (Refused AfterStop) (if not (is_past (members i).federate_record.completed c) then Refused NotRising else Done made) k.upward.2 in
    let P : Outcome Coordinated → Type 0 = λ x. Goes n table (with_made (λ made. λ j. coordinated made j (with_member members i (record (members i) { up = rest }) j)) (with_made (with_grants n rule) x)) in
    subst P (sym (outer ∙ inner)) (noted_goes n table rule members i rest mine safe sound kept later refl)
coordinator_goes n table rule members i (Tag g ∷ rest) lawful facts safe sound k = absurd k.upward
coordinator_goes n table rule members i (Msg c g v ∷ rest) lawful facts safe sound k =
    let source = k.upward.0 in
    let is = source_at_least n i (above (members i).federate_record.completed) rest source k.upward.3 k.upward.1 in
    let low = is.1 in
    let key = is.2 in
    let next = k.next_key in
    over_goes n table rule members i c g v rest source (slice_get n.connections c) lawful facts safe sound
    (message_keeps n i (members i).federate_record (members i).federate rest (members i).down c g v k) is.0 (omega arith) low refl k.upward.2

-- each move goes
pub move_goes : (n : Network) (table : Table) (rule : Rule) (members : ℕ → Member) (move : Move) → IsLawful n → IsAtMostEveryPath n table → IsSafeRule n table rule → IsSound n table members → Goes n table (outcome_of n rule members move)
move_goes n table rule members (ToCoordinator i) lawful facts safe sound = coordinator_goes n table rule members i (members i).up lawful facts safe sound (sound.kept i)
move_goes n table rule members (ToFederate i) lawful facts safe sound =
    unless_goes n table members i (federate_takes_from n i (members i) (members i).down) (members i).lost sound (take_goes n i (members i) (members i).down lawful (sound.kept i))
move_goes n table rule members (Announce i) lawful facts safe sound =
    unless_goes n table members i (with_made (stepped (members i) (members i).down) (federate_announces (members i).federate)) (members i).lost sound (announce_goes n i (members i) lawful (sound.kept i))
move_goes n table rule members (Advance i) lawful facts safe sound =
    unless_goes n table members i (with_made (stepped (members i) (members i).down) (federate_advances n i (members i).federate)) (members i).lost sound (advance_goes n i (members i) lawful (sound.kept i))
move_goes n table rule members (Lose i) lawful facts safe sound = member_sound n table members i (record (members i) { lost = true }) sound (sound.kept i) refl

pub initial_sound : (n : Network) (table : Table) → IsLawful n → IsSound n table (initial_member n)
initial_sound n table lawful = record { kept = λ j. initial_is_kept n j lawful; backed = λ j. tt }

made_sound : (n : Network) (table : Table) (members : ℕ → Member) (o : Outcome (ℕ → Member)) → IsSound n table members → Goes n table o → IsSound n table (made_or members o)
made_sound n table members (Refused refusal) s g = s
made_sound n table members Nothing s g = s
made_sound n table members (Done after) s g = g

-- all is kept after every list of moves
pub moves_sound : (n : Network) (table : Table) (rules : ℕ → Rule) (moves : List Move) → IsLawful n → IsAtMostEveryPath n table → ((k : ℕ) → IsSafeRule n table (rules k)) → IsSound n table (after_moves n rules moves)
moves_sound n table rules [] lawful facts safe = initial_sound n table lawful
moves_sound n table rules (move ∷ earlier) lawful facts safe =
    let before = moves_sound n table rules earlier lawful facts safe in
    made_sound n table (after_moves n rules earlier) (outcome_of n (rules (length earlier)) (after_moves n rules earlier) move) before
    (move_goes n table (rules (length earlier)) (after_moves n rules earlier) move lawful facts (safe (length earlier)) before)

pub goes_refused : (n : Network) (table : Table) (o : Outcome (ℕ → Member)) (refusal : Refusal) → Goes n table o → o ≡ Refused refusal → ⊥
goes_refused n table o refusal g e = let P : Outcome (ℕ → Member) → Type 0 = λ x. Goes n table x in subst P e g

-- no move is refused
pub none_refused : (n : Network) (table : Table) (rules : ℕ → Rule) (moves : List Move) (move : Move) (refusal : Refusal) → IsLawful n → IsAtMostEveryPath n table → ((k : ℕ) → IsSafeRule n table (rules k)) → outcome_of n (rules (length moves)) (after_moves n rules moves) move ≡ Refused refusal → ⊥
none_refused n table rules moves move refusal lawful facts safe e =
    goes_refused n table (outcome_of n (rules (length moves)) (after_moves n rules moves) move) refusal
    (move_goes n table (rules (length moves)) (after_moves n rules moves) move lawful facts (safe (length moves)) (moves_sound n table rules moves lawful facts safe)) e
