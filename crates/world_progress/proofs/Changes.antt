-- What a signal changes when the coordinator takes it, before any TAG goes out: whether TAGs may go out, and what is sent.
use Rattle.std.proofs.Common.{◌≡◌, ℕ, ◌+◌, ◌≤◌, Bool, true, false, cond, [], ◌∷◌, length, refl, sym, subst, arith, Option, None, Some, ℤ}
use Rattle.std.specs.Prelude.{slice_get, map, nat_eq, ◌||◌, if◌then◌else◌}
use Rattle.std.proofs.lemmas.Bool.{eqb-true}
use Rattle.tag.specs.LogicalTime.{LogicalTime, forever, is_at_most, is_past, is_same}
use Rattle.network.specs.Connection.{Connection}
use Rattle.network.specs.Network.{Network}
use Rattle.signal.specs.declared.signal.Signal.{Signal}
use Rattle.signal.specs.declared.signal.Signal.TheVariants.{Net, Ltc, Tag, Msg}
use Rattle.protocol.specs.declared.post.Post.{Post}
use Rattle.protocol.specs.declared.refusal.Refusal.TheVariants.{NotYours, BelowGrant, NotRising, AfterStop}
use Rattle.protocol.specs.Outcome.{IfDone}
use Rattle.protocol.specs.FederateRecord.{FederateRecord, after_message, after_net, after_ltc}
use Rattle.protocol.specs.Coordinator.{Coordinated, with_federate_record, noted, route, coordinator_takes}
use Rattle.protocol.specs.Machine.{sent_to}
use Rattle.world_progress.specs.Worth.{worth_up, worth_down, all_worth, ungranted}
use Rattle.world_progress.proofs.Sums.{where_so, at_one}
use Rattle.world_progress.proofs.Outcomes.{refused_or}
use Rattle.world_progress.proofs.CoordinatorCosts.{net_costs, message_costs}

-- at each federate more may come of it by this amount than before
abbrev pub Changes : (ℕ → FederateRecord) → Coordinated → (ℕ → ℕ) → Type 0
Changes federate_records made more = (j : ℕ) → ungranted (made.after j) + all_worth worth_down (sent_to j made.sent) ≤ ungranted (federate_records j) + more j

-- more comes of it at one federate alone, and that is 2 less than the signal was worth; and nobody is sent two signals
pub record IsChange (federate_records : ℕ → FederateRecord) (signal : Signal) (made : Coordinated) : Type 0 where
  pub where_at : ℕ
  pub most : ℕ
  pub changes : Changes federate_records made (at_one where_at most)
  pub worth : worth_up signal ≡ most + 2
  pub few : (j : ℕ) → length (sent_to j made.sent) ≤ 1

-- a NET and an LTC change one record
noted_if : (mine other : FederateRecord) (k : ℕ) (b : Bool) → (b ≡ true → ungranted mine ≤ ungranted other + k) → ungranted (if b then mine else other) + 0 ≤ ungranted other + where_so b k
noted_if mine other k true h = let l = h refl in omega arith
noted_if mine other k false h = omega arith

noted_changes : (federate_records : ℕ → FederateRecord) (i : ℕ) (mine : FederateRecord) (k : ℕ) → ungranted mine ≤ ungranted (federate_records i) + k → Changes federate_records (noted federate_records i mine) (at_one i k)
noted_changes federate_records i mine k h j =
    let P : ℕ → Type 0 = λ x. ungranted mine ≤ ungranted (federate_records x) + k in
    noted_if mine (federate_records j) k (nat_eq j i) (λ e. subst P (sym (eqb-true j i e)) h)

noted_change : (federate_records : ℕ → FederateRecord) (i : ℕ) (mine : FederateRecord) (signal : Signal) (k : ℕ) → ungranted mine ≤ ungranted (federate_records i) + k → worth_up signal ≡ k + 2 → IsChange federate_records signal (noted federate_records i mine)
noted_change federate_records i mine signal k h worth = record { where_at = i; most = k; changes = noted_changes federate_records i mine k h; worth = worth; few = λ j. omega arith }

-- a message goes on to one federate
routed_if : (mine other : FederateRecord) (target number : ℕ) (tag : LogicalTime) (value : ℤ) (b : Bool) → (b ≡ true → ungranted mine ≤ ungranted other)
    → ungranted (if b then mine else other) + all_worth worth_down (map (λ (p : Post). p.signal) (cond b (record { peer = target; signal = Msg number tag value } ∷ []) [])) ≤ ungranted other + where_so b 7
routed_if mine other target number tag value true h = let l = h refl in omega arith
routed_if mine other target number tag value false h = omega arith

one_if : (target number : ℕ) (tag : LogicalTime) (value : ℤ) (b : Bool) → length (map (λ (p : Post). p.signal) (cond b (record { peer = target; signal = Msg number tag value } ∷ []) [])) ≤ 1
one_if target number tag value true = omega arith
one_if target number tag value false = omega arith

route_changes : (federate_records : ℕ → FederateRecord) (target number : ℕ) (tag : LogicalTime) (value : ℤ) → is_past (federate_records target).granted tag ≡ true
    → Changes federate_records (record { after = with_federate_record federate_records target (after_message (federate_records target) tag); sent = record { peer = target; signal = Msg number tag value } ∷ [] }) (at_one target 7)
route_changes federate_records target number tag value past j =
    let P : ℕ → Type 0 = λ x. ungranted (after_message (federate_records target) tag) ≤ ungranted (federate_records x) in
    routed_if (after_message (federate_records target) tag) (federate_records j) target number tag value (nat_eq j target) (λ e. subst P (sym (eqb-true j target e)) (message_costs (federate_records target) tag past))

route_change : (n : Network) (federate_records : ℕ → FederateRecord) (i number : ℕ) (tag : LogicalTime) (value : ℤ) (o : Option Connection) → IfDone (route n federate_records i (Msg number tag value) o tag) (IsChange federate_records (Msg number tag value))
route_change n federate_records i number tag value None = tt
route_change n federate_records i number tag value (Some c) =
    let P : Coordinated → Type 0 = IsChange federate_records (Msg number tag value) in
    refused_or P (nat_eq c.source i) NotYours _ (λ mine. refused_or P (is_at_most tag n.stop) AfterStop _
    (λ in_time. refused_or P (is_past (federate_records c.target).granted tag) BelowGrant _ (λ past. record {
      where_at = c.target;
      most = 7;
      changes = route_changes federate_records c.target number tag value past;
      worth = refl;
      few = λ j. one_if c.target number tag value (nat_eq j c.target);
    })))

pub change_of : (n : Network) (federate_records : ℕ → FederateRecord) (i : ℕ) (signal : Signal) → IfDone (coordinator_takes n federate_records i signal) (IsChange federate_records signal)
change_of n federate_records i (Net tag) =
    let P : Coordinated → Type 0 = IsChange federate_records (Net tag) in
    refused_or P (is_at_most tag n.stop || is_same tag forever) AfterStop _ (λ in_time. refused_or P (is_past (federate_records i).completed tag) NotRising _
    (λ rising. noted_change federate_records i (after_net (federate_records i) tag) (Net tag) 2 (net_costs (federate_records i) tag) refl))
change_of n federate_records i (Ltc tag) =
    let P : Coordinated → Type 0 = IsChange federate_records (Ltc tag) in
    refused_or P (is_at_most tag n.stop) AfterStop _ (λ in_time. refused_or P (is_past (federate_records i).completed tag) NotRising _
    (λ rising. noted_change federate_records i (after_ltc (federate_records i) tag) (Ltc tag) 0 (omega arith) refl))
change_of n federate_records i (Tag tag) = tt
change_of n federate_records i (Msg number tag value) = route_change n federate_records i number tag value (slice_get n.connections number)
