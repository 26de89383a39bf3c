-- What the coordinator knows stays tags, whatever signals come; and what it sends to each federate is in order.
use Rattle.std.proofs.Common.{◌≡◌, ℕ, Bool, true, false, cond, IsTrue, List, [], ◌∷◌, ◌++◌, refl, sym, ap, subst, ◌∙◌, arith, Option, None, Some, ℤ}
use Rattle.std.specs.Prelude.{slice_get, map, nat_eq, nat_lt, if◌then◌else◌, not, ◌&&◌, ◌||◌}
use Rattle.std.specs.List.{AllByRecursion}
use Rattle.std.proofs.lemmas.Bool.Decides.{nat_tests}
use Rattle.std.proofs.lemmas.List.Elements.{All-filter}
use Rattle.std.proofs.lemmas.List.Kept.{AllPairs-filter}
use Rattle.std.proofs.lemmas.Bool.{eqb-true}
use Rattle.tag.specs.LogicalTime.{LogicalTime, IsLogicalTime, IsFinite, is_before, is_at_most, is_same, forever, is_past}
use Rattle.tag.proofs.Order.{finite_is_logical, origin_is_logical, before_transitive}
use Rattle.network.specs.Connection.{Connection}
use Rattle.network.specs.Network.{Network}
use Rattle.network.specs.Tables.{Table}
use Rattle.network.specs.Items.{AllPairsByRecursion}
use Rattle.network.proofs.Items.{each_pair, from_each_pair}
use Rattle.network_laws.proofs.Lists.{each, from_each, each_more}
use Rattle.signal.specs.Signal.{IsSignal}
use Rattle.signal.specs.declared.signal.Signal.{Signal}
use Rattle.signal.specs.declared.signal.Signal.TheVariants.{Net, Ltc, Tag, Msg}
use Rattle.protocol.specs.declared.refusal.Refusal.{Refusal}
use Rattle.protocol.specs.declared.refusal.Refusal.TheVariants.{NotYours, BelowGrant, NotRising, AfterStop}
use Rattle.protocol.specs.Outcome.{Outcome, Refused, Nothing, Done, with_made, IfDone}
use Rattle.protocol.specs.FederateRecord.{FederateRecord, initial_federate_record, least_with, with_tag, after_message, after_net, after_ltc, after_grant}
use Rattle.protocol.specs.Grant.{Rule, IsSafe, IsSafeRule}
use Rattle.protocol.specs.declared.post.Post.{Post}
use Rattle.protocol.specs.Coordinator.{Coordinated, with_federate_record, noted, route, coordinator_takes, grant_to, grants_from, with_grants, coordinator_accepts}
use Rattle.protocol.specs.Machine.{sent_to}
use Rattle.protocol.specs.KeptAlone.{IsFederateRecord, is_of_step, may_go_down, granted_by_tags}
use Rattle.protocol_laws.proofs.Transit.{lesser_is_tag}
use Rattle.protocol_laws.proofs.Backing.{at_update}
use Rattle.protocol_laws.proofs.Safety.{tag_if, sent-append, grants_sent, rule_grants}
use Rattle.protocol_laws.proofs.Tests.{both_hold}

-- tags that strictly rise
abbrev IsBefore : LogicalTime → LogicalTime → Type 0
IsBefore g h = IsTrue (is_before g h)

abbrev IsRising : List LogicalTime → Type 0
IsRising tags = AllPairsByRecursion IsBefore tags

before_else : (g h : LogicalTime) → is_before g h ≡ false → is_same g h ≡ false → is_before h g ≡ true
before_else g h p q = grind (arith, nat_tests)

-- one more tag in its place
with_if : (P : LogicalTime → Type 0) (g x : LogicalTime) (rest more : List LogicalTime) (b c : Bool) → P g → AllByRecursion P (x ∷ rest) → AllByRecursion P more → AllByRecursion P (if b then g ∷ x ∷ rest else (if c then x ∷ rest else x ∷ more))
with_if P g x rest more true c p a m = (p, a)
with_if P g x rest more false true p a m = a
with_if P g x rest more false false p a m = (a.0, m)

with_each : (P : LogicalTime → Type 0) (g : LogicalTime) (tags : List LogicalTime) → P g → AllByRecursion P tags → AllByRecursion P (with_tag g tags)
with_each P g [] p a = (p, tt)
with_each P g (x ∷ rest) p a = with_if P g x rest (with_tag g rest) (is_before g x) (is_same g x) p a (with_each P g rest p a.1)

rises_if : (g x : LogicalTime) (rest : List LogicalTime) (b c : Bool) → is_before g x ≡ b → is_same g x ≡ c → IsRising (x ∷ rest) → IsRising (with_tag g rest) → IsRising (if b then g ∷ x ∷ rest else (if c then x ∷ rest else x ∷ with_tag g rest))
rises_if g x rest true c p q r m = ((p, each_more (IsBefore x) (IsBefore g) (λ y h. before_transitive g x y p h) rest r.0), r)
rises_if g x rest false true p q r m = r
rises_if g x rest false false p q r m = (with_each (IsBefore x) g rest (before_else g x p q) r.0, m)

with_rises : (g : LogicalTime) (tags : List LogicalTime) → IsRising tags → IsRising (with_tag g tags)
with_rises g [] r = (tt, tt)
with_rises g (x ∷ rest) r = rises_if g x rest (is_before g x) (is_same g x) refl refl r (with_rises g rest r.1)

least_is_tag : (g : LogicalTime) (tags : List LogicalTime) → IsLogicalTime g → AllByRecursion IsFinite tags → IsLogicalTime (least_with g tags)
least_is_tag g [] p a = p
least_is_tag g (x ∷ rest) p a = lesser_is_tag x (least_with g rest) (finite_is_logical x a.0) (least_is_tag g rest p a.1)

-- what is known of one federate
pub initial_is_federate_record : IsFederateRecord initial_federate_record
initial_is_federate_record =
    record { completed = tt; granted = tt; next = origin_is_logical; transit = from_each IsFinite [] tt; rising = from_each_pair IsBefore [] tt }

message_stands : (s : FederateRecord) (g : LogicalTime) → IsFinite g → IsFederateRecord s → IsFederateRecord (after_message s g)
message_stands s g p k =
    record {
      completed = k.completed;
      granted = k.granted;
      next = lesser_is_tag s.next g k.next (finite_is_logical g p);
      transit = from_each IsFinite (with_tag g s.transit) (with_each IsFinite g s.transit p (each IsFinite s.transit k.transit));
      rising = from_each_pair IsBefore (with_tag g s.transit) (with_rises g s.transit (each_pair IsBefore s.transit k.rising));
    }

net_stands : (s : FederateRecord) (g : LogicalTime) → IsLogicalTime g → IsFederateRecord s → IsFederateRecord (after_net s g)
net_stands s g p k =
    record {
      completed = k.completed;
      granted = k.granted;
      next = least_is_tag g s.transit p (each IsFinite s.transit k.transit);
      transit = k.transit;
      rising = k.rising;
    }

ltc_stands : (s : FederateRecord) (g : LogicalTime) → IsFinite g → IsFederateRecord s → IsFederateRecord (after_ltc s g)
ltc_stands s g p k =
    record {
      completed = p;
      granted = k.granted;
      next = k.next;
      transit = All-filter (λ t. is_before g t) IsFinite s.transit k.transit;
      rising = AllPairs-filter IsBefore (λ t. is_before g t) s.transit k.rising;
    }

grant_stands : (s : FederateRecord) (o : Option LogicalTime) → ((g : LogicalTime) → o ≡ Some g → IsFinite g) → IsFederateRecord s → IsFederateRecord (after_grant s o)
grant_stands s None f k = k
grant_stands s (Some g) f k = record { completed = k.completed; granted = f g refl; next = k.next; transit = k.transit; rising = k.rising }

-- no signal, or one message that is past the grant
abbrev IsMessageAtMost : Option LogicalTime → List Signal → Type 0
IsMessageAtMost granted [] = Unit {0}
IsMessageAtMost granted (Net g ∷ rest) = ⊥
IsMessageAtMost granted (Ltc g ∷ rest) = ⊥
IsMessageAtMost granted (Tag g ∷ rest) = ⊥
IsMessageAtMost granted (Msg k g v ∷ []) = IsTrue (is_past granted g)
IsMessageAtMost granted (Msg k g v ∷ other ∷ rest) = ⊥

-- what a signal changed, before TAGs go out
record IsTaken (federate_records : ℕ → FederateRecord) (made : Coordinated) : Type 0 where
  stands : (j : ℕ) → IsFederateRecord (made.after j)
  granted : (j : ℕ) → (made.after j).granted ≡ (federate_records j).granted
  sent : (j : ℕ) → IsMessageAtMost (federate_records j).granted (sent_to j made.sent)

take_if : (federate_records : ℕ → FederateRecord) (b : Bool) (refusal : Refusal) (o : Outcome Coordinated) → (b ≡ true → IfDone o (IsTaken federate_records)) → IfDone (if not b then Refused refusal else o) (IsTaken federate_records)
take_if federate_records true refusal o h = h refl
take_if federate_records false refusal o h = tt

-- only one record changes, and not its grant
noted_taken : (federate_records : ℕ → FederateRecord) (i : ℕ) (mine : FederateRecord) → ((j : ℕ) → IsFederateRecord (federate_records j)) → IsFederateRecord mine → mine.granted ≡ (federate_records i).granted → IsTaken federate_records (noted federate_records i mine)
noted_taken federate_records i mine all k e =
    record {
      stands = λ j. at_update IsFederateRecord mine (federate_records j) j i (λ q. k) (all j);
      granted = λ j. at_update (λ (s : FederateRecord). s.granted ≡ (federate_records j).granted) mine (federate_records j) j i (λ q. e ∙ ap (λ x. (federate_records x).granted) (sym q)) refl;
      sent = λ j. tt;
    }

post_if : (granted : Option LogicalTime) (target k : ℕ) (g : LogicalTime) (v : ℤ) (b : Bool) → (b ≡ true → IsTrue (is_past granted g)) → IsMessageAtMost granted (map (λ (p : Post). p.signal) (cond b (record { peer = target; signal = Msg k g v } ∷ []) []))
post_if granted target k g v true h = h refl
post_if granted target k g v false h = tt

route_taken : (n : Network) (federate_records : ℕ → FederateRecord) (i k : ℕ) (g : LogicalTime) (v : ℤ) (o : Option Connection) → ((j : ℕ) → IsFederateRecord (federate_records j)) → IsFinite g → IfDone (route n federate_records i (Msg k g v) o g) (IsTaken federate_records)
route_taken n federate_records i k g v None all p = tt
route_taken n federate_records i k g v (Some c) all p =
    let made : Coordinated = record { after = with_federate_record federate_records c.target (after_message (federate_records c.target) g); sent = record { peer = c.target; signal = Msg k g v } ∷ [] } in
    let mine : FederateRecord = after_message (federate_records c.target) g in
    take_if federate_records (nat_eq c.source i) NotYours (if not (is_at_most g n.stop) then Refused AfterStop else if not (is_past (federate_records c.target).granted g) then Refused BelowGrant else Done made)
    (λ s. take_if federate_records (is_at_most g n.stop) AfterStop (if not (is_past (federate_records c.target).granted g) then Refused BelowGrant else Done made)
    (λ t. take_if federate_records (is_past (federate_records c.target).granted g) BelowGrant (Done made)
    (λ past. record {
      stands = λ j. at_update IsFederateRecord mine (federate_records j) j c.target (λ q. message_stands (federate_records c.target) g p (all c.target)) (all j);
      granted = λ j. at_update (λ (s : FederateRecord). s.granted ≡ (federate_records j).granted) mine (federate_records j) j c.target (λ q. ap (λ x. (federate_records x).granted) (sym q)) refl;
      sent = λ j. post_if (federate_records j).granted c.target k g v (nat_eq j c.target)
          (λ q. (let P : ℕ → Type 0 = λ x. IsTrue (is_past (federate_records x).granted g) in subst P (sym (eqb-true j c.target q)) past));
    })))

signal_taken : (n : Network) (federate_records : ℕ → FederateRecord) (i : ℕ) (signal : Signal) → ((j : ℕ) → IsFederateRecord (federate_records j)) → IsSignal signal → IfDone (coordinator_takes n federate_records i signal) (IsTaken federate_records)
signal_taken n federate_records i (Net g) all p =
    let made = noted federate_records i (after_net (federate_records i) g) in
    take_if federate_records (is_at_most g n.stop || is_same g forever) AfterStop (if not (is_past (federate_records i).completed g) then Refused NotRising else Done made)
    (λ t. take_if federate_records (is_past (federate_records i).completed g) NotRising (Done made) (λ q. noted_taken federate_records i (after_net (federate_records i) g) all (net_stands (federate_records i) g p (all i)) refl))
signal_taken n federate_records i (Ltc g) all p =
    let made = noted federate_records i (after_ltc (federate_records i) g) in
    take_if federate_records (is_at_most g n.stop) AfterStop (if not (is_past (federate_records i).completed g) then Refused NotRising else Done made)
    (λ t. take_if federate_records (is_past (federate_records i).completed g) NotRising (Done made) (λ q. noted_taken federate_records i (after_ltc (federate_records i) g) all (ltc_stands (federate_records i) g p (all i)) refl))
signal_taken n federate_records i (Tag g) all p = tt
signal_taken n federate_records i (Msg k g v) all p = route_taken n federate_records i k g v (slice_get n.connections k) all p.1

-- what goes to one federate: a message at most, and a TAG at most
abbrev IsSent : Option LogicalTime → Option LogicalTime → List Signal → Type 0
IsSent before after sent = IsTrue (is_of_step sent) × IsTrue (may_go_down before sent) × (after ≡ granted_by_tags before sent)

with_tag_sent : (s : FederateRecord) (before : Option LogicalTime) (xs : List Signal) (o : Option LogicalTime) → s.granted ≡ before → IsMessageAtMost before xs → ((g : LogicalTime) → o ≡ Some g → IsTrue (is_past s.granted g)) → IsSent before (after_grant s o).granted (xs ++ tag_if o)
with_tag_sent s before [] None e m later = (refl, refl, e)
with_tag_sent s before [] (Some g) e m later =
    let P : Option LogicalTime → Type 0 = λ x. IsTrue (is_past x g) in
    (refl, both_hold (is_past before g) true (subst P e (later g refl)) refl, refl)
with_tag_sent s before (Net g ∷ rest) o e m later = absurd m
with_tag_sent s before (Ltc g ∷ rest) o e m later = absurd m
with_tag_sent s before (Tag g ∷ rest) o e m later = absurd m
with_tag_sent s before (Msg k t v ∷ []) None e m later = (refl, both_hold (is_past before t) true m refl, e)
with_tag_sent s before (Msg k t v ∷ []) (Some g) e m later =
    let P : Option LogicalTime → Type 0 = λ x. IsTrue (is_past x g) in
    (refl, both_hold (is_past before t) (is_past before g && true) m (both_hold (is_past before g) true (subst P e (later g refl)) refl), refl)
with_tag_sent s before (Msg k t v ∷ other ∷ rest) o e m later = absurd m

-- all stand
abbrev pub AllStand : Outcome Coordinated → Type 0
AllStand o = IfDone o (λ made. (j : ℕ) → IsFederateRecord (made.after j))

-- what was sent to each federate is in order
abbrev pub AllInOrder : (ℕ → FederateRecord) → Outcome Coordinated → Type 0
AllInOrder federate_records o = IfDone o (λ made. (j : ℕ) → IsSent (federate_records j).granted (made.after j).granted (sent_to j made.sent))

-- a TAG that goes out is safe
tag_is_safe : (n : Network) (table : Table) (rule : Rule) (federate_records : ℕ → FederateRecord) (made : Coordinated) (j : ℕ) (g : LogicalTime) → IsSafeRule n table rule → IsTaken federate_records made → grant_to n rule made.after j ≡ Some g → IsSafe n table made.after j g
tag_is_safe n table rule federate_records made j g safe t e = safe made.after (λ i. (t.stands i).next) j g (rule_grants n rule made.after j g (nat_lt j n.reactors) e)

granted_stand : (n : Network) (table : Table) (rule : Rule) (federate_records : ℕ → FederateRecord) (o : Outcome Coordinated) → IsSafeRule n table rule → IfDone o (IsTaken federate_records) → AllStand (with_made (with_grants n rule) o)
granted_stand n table rule federate_records (Refused refusal) safe t = tt
granted_stand n table rule federate_records Nothing safe t = tt
granted_stand n table rule federate_records (Done made) safe t = λ j.
    grant_stands (made.after j) (grant_to n rule made.after j) (λ g e. (tag_is_safe n table rule federate_records made j g safe t e).finite) (t.stands j)

granted_in_order : (n : Network) (table : Table) (rule : Rule) (federate_records : ℕ → FederateRecord) (o : Outcome Coordinated) → IsSafeRule n table rule → IfDone o (IsTaken federate_records) → AllInOrder federate_records (with_made (with_grants n rule) o)
granted_in_order n table rule federate_records (Refused refusal) safe t = tt
granted_in_order n table rule federate_records Nothing safe t = tt
granted_in_order n table rule federate_records (Done made) safe t = λ j.
    let o = grant_to n rule made.after j in
    let all : sent_to j (made.sent ++ grants_from n rule made.after 0 n.reactors) ≡ sent_to j made.sent ++ tag_if (grant_to n rule made.after j) =
    sent-append j made.sent (grants_from n rule made.after 0 n.reactors) ∙ ap (λ x. sent_to j made.sent ++ x) (grants_sent n rule made.after j) in
    let P : List Signal → Type 0 = λ x. IsSent (federate_records j).granted (after_grant (made.after j) (grant_to n rule made.after j)).granted x in
    subst P (sym all)
    (with_tag_sent (made.after j) (federate_records j).granted (sent_to j made.sent) o (t.granted j) (t.sent j) (λ g e. (tag_is_safe n table rule federate_records made j g safe t e).later))

pub accepts_stand : (n : Network) (table : Table) (rule : Rule) (federate_records : ℕ → FederateRecord) (i : ℕ) (signal : Signal) → IsSafeRule n table rule → IsSignal signal → ((j : ℕ) → IsFederateRecord (federate_records j)) → AllStand (coordinator_accepts n rule federate_records i signal)
accepts_stand n table rule federate_records i signal safe p all =
    granted_stand n table rule federate_records (coordinator_takes n federate_records i signal) safe (signal_taken n federate_records i signal all p)

pub accepts_in_order : (n : Network) (table : Table) (rule : Rule) (federate_records : ℕ → FederateRecord) (i : ℕ) (signal : Signal) → IsSafeRule n table rule → IsSignal signal → ((j : ℕ) → IsFederateRecord (federate_records j)) → AllInOrder federate_records (coordinator_accepts n rule federate_records i signal)
accepts_in_order n table rule federate_records i signal safe p all =
    granted_in_order n table rule federate_records (coordinator_takes n federate_records i signal) safe (signal_taken n federate_records i signal all p)
