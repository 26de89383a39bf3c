-- What a coordinator keeps through its steps, and that what it sends is in order.
use Rattle.std.proofs.Common.{◌≡◌, ◌≢◌, ℕ, zero, suc, ◌<◌, ◌≤◌, ◌⊎◌, inl, inr, Bool, true, false, IsTrue, List, [], refl, sym, ap, subst, ◌∙◌, arith, Option, None, Some, Result, Ok, Err}
use Rattle.std.specs.Prelude.{nat_eq, if◌then◌else◌, ◌||◌, ◌&&◌, not, slice_get}
use Rattle.std.proofs.lemmas.Bool.{cases_lt}
use Rattle.std.proofs.lemmas.Bool.Decides.{nat_tests}
use Rattle.tag.specs.LogicalTime.{LogicalTime, IsLogicalTime, is_at_most, is_same, forever, is_past}
use Rattle.network.specs.Connection.{Connection}
use Rattle.network.specs.Network.{Network}
use Rattle.network.specs.Tables.{Table}
use Rattle.signal.specs.Signal.{IsSignal}
use Rattle.signal.specs.declared.signal.Signal.{Signal}
use Rattle.signal.specs.declared.signal.Signal.TheVariants.{Net, Ltc, Tag, Msg}
use Rattle.protocol.specs.declared.refusal.Refusal.{Refusal}
use Rattle.protocol.specs.declared.refusal.Refusal.TheVariants.{NotYours, NotForCoordinator}
use Rattle.protocol.specs.Outcome.{Outcome, Refused, Nothing, Done, with_made, IfDone}
use Rattle.protocol.specs.FederateRecord.{FederateRecord, initial_federate_record, after_net, after_ltc}
use Rattle.protocol.specs.FederateRecords.{Listed, federate_record_at, federate_records_listed, listed_after, coordinator_accepts_in}
use Rattle.protocol.specs.Grant.{Rule, IsSafeRule, is_eligible, all_below}
use Rattle.protocol.specs.Machine.{sent_to}
use Rattle.protocol.specs.KeptAlone.{IsFederateRecord, is_of_step, may_go_down, granted_by_tags}
use Rattle.protocol.specs.Coordinator.{Coordinated, noted, route, coordinator_takes, with_grants, grant_to, coordinator_accepts}
use Rattle.node.specs.declared.fault.NodeFault.{NodeFault}
use Rattle.node.specs.declared.fault.NodeFault.TheVariants as fault
use Rattle.node.specs.Mail.{Mail, all_posted, lacks_room}
use Rattle.node.specs.Core.{Made, LacksRoom, Moves, answer_of, node_after, mail_after, IsCall, Allows, SendsOnly}
use Rattle.protocol_laws.specs.Runs.{IsFullRule}
use Rattle.protocol_laws.proofs.SafeGrants.{widest_rule_is_safe, widest_rule_is_full}
use Rattle.protocol_laws.proofs.Settled.{NobodyIsEligible, settled_by_grants, next_same}
use Rattle.protocol_laws.proofs.CoordinatorAlone.{accepts_stand, accepts_in_order, initial_is_federate_record}
use Rattle.protocol_laws.proofs.ListedFederateRecords.{accepts_listed, initial_read}
use Rattle.protocol_laws.proofs.Eligibility.{contains_at, between_is, all_below_from}
use Rattle.protocol_laws.proofs.Tests.{both_hold}
use Rattle.plan.specs.declared.draft.Draft.{Draft}
use Rattle.grants.specs.Wiring.{Wiring, network_by, least_by, federation_wiring}
use Rattle.plan.specs.Federation.{federate_count}
use Rattle.grants.specs.Records.{Records, AreRecords, initial_records}
use Rattle.node_cores.specs.CoordinatorCore.{CoordinatorNode, made_by, accepts, coordinator_may_send}
use Rattle.coordinator.specs.Sending.{rule_by}
use Rattle.coordinator.specs.Steps.{IsSettled, IsKept, IsStep, made_listed, taken_by}
use Rattle.coordinator.proofs.Signals.{stranger_done}
use Rattle.grants.proofs.Eligible.{not_announced}

-- what the definition makes, on lists, before TAGs
AllFederateRecord : Outcome Coordinated → Type 0
AllFederateRecord o = IfDone o (λ made. (j : ℕ) → IsFederateRecord (made.after j))

nobody_then : (n : Network) (table : Table) (rule : Rule) (o : Outcome Coordinated) → IsSafeRule n table rule → IsFullRule n table rule → IfDone (with_made (with_grants n rule) o) (λ made. (j : ℕ) → IsFederateRecord (made.after j)) →
    IfDone (with_made (with_grants n rule) o) (λ made. NobodyIsEligible n table made.after)
nobody_then n table rule (Refused refusal) safe full stand = tt
nobody_then n table rule Nothing safe full stand = tt
nobody_then n table rule (Done made) safe full stand =
    let P : LogicalTime → Type 0 = λ g. IsLogicalTime g in
    settled_by_grants n table rule made.after safe full (λ j. subst P (next_same (made.after j) (grant_to n rule made.after j)) (stand j).next)

-- a settled table with these records
abbrev with_federate_records : Records → List FederateRecord → Records
with_federate_records r xs = record r { federate_records = xs }

settled_then : (r : Records) (o : Outcome Coordinated) (made : Made (List FederateRecord)) → IfDone o (λ m. federate_record_at (federate_records_listed r.wiring.federates m.after) ≡ m.after) → IfDone o (λ m. (j : ℕ) → IsFederateRecord (m.after j)) →
    IfDone o (λ m. NobodyIsEligible (network_by r.wiring) (least_by r.wiring) m.after) → with_made made_listed (with_made (listed_after r.wiring.federates) o) ≡ Done made → IsSettled (with_federate_records r made.after)
settled_then r (Refused refusal) made read stand nobody is = let bad : ⊥ = cc in absurd bad
settled_then r Nothing made read stand nobody is = let bad : ⊥ = cc in absurd bad
settled_then r (Done m) made read stand nobody is =
    let same : federate_records_listed r.wiring.federates m.after ≡ made.after = cc in
    let f : federate_record_at made.after ≡ m.after = ap federate_record_at (sym same) ∙ read in
    record {
      federate_records = λ j. (let P : (ℕ → FederateRecord) → Type 0 = λ g. IsFederateRecord (g j) in subst P (sym f) (stand j));
      nobody = λ j l. (let P : (ℕ → FederateRecord) → Type 0 = λ g. is_eligible (network_by r.wiring) (least_by r.wiring) g j ≡ false in subst P (sym f) (nobody j l));
    }

-- a step for a federate that is there
settled_there : (r : Records) (i : ℕ) (signal : Signal) (made : Made (List FederateRecord)) → AreRecords r → IsSettled r → IsSignal signal → i < r.wiring.federates → taken_by r i signal ≡ Done made → IsSettled (with_federate_records r made.after)
settled_there r i signal made are settled good l is =
    let n = network_by r.wiring in
    let t = least_by r.wiring in
    let safe = widest_rule_is_safe (network_by r.wiring) (least_by r.wiring) are.wiring.wired in
    let full = widest_rule_is_full (network_by r.wiring) (least_by r.wiring) are.wiring.wired in
    let stand = accepts_stand n t (rule_by r.wiring) (federate_record_at r.federate_records) i signal safe good settled.federate_records in
    settled_then r (coordinator_accepts n (rule_by r.wiring) (federate_record_at r.federate_records) i signal) made
    (accepts_listed n (rule_by r.wiring) r.federate_records i signal are.wiring.wired l are.count) stand
    (nobody_then n t (rule_by r.wiring) (coordinator_takes n (federate_record_at r.federate_records) i signal) safe full stand) is

-- what a stranger's signal comes to
abbrev IsRefusedOrNoted : (ℕ → FederateRecord) → ℕ → Outcome Coordinated → Type 0
IsRefusedOrNoted f i o = ((refusal : Refusal) × (o ≡ Refused refusal)) ⊎ ((s : FederateRecord) × (o ≡ Done (noted f i s)))

by_two : (f : ℕ → FederateRecord) (i : ℕ) (b c : Bool) (x y : Refusal) (s : FederateRecord) → IsRefusedOrNoted f i (if not b then Refused x else if not c then Refused y else Done (noted f i s))
by_two f i true true x y s = inr (s, refl)
by_two f i true false x y s = inl (y, refl)
by_two f i false c x y s = inl (x, refl)

route_stranger : (r : Records) (i k : ℕ) (message : Signal) (o : Option Connection) (tag : LogicalTime) → AreRecords r → r.wiring.federates ≤ i → slice_get r.wiring.connections k ≡ o →
    IsRefusedOrNoted (federate_record_at r.federate_records) i (route (network_by r.wiring) (federate_record_at r.federate_records) i message o tag)
route_stranger r i k message None tag are l at = inl (NotYours, refl)
route_stranger r i k message (Some c) tag are l at =
    let source : c.source < r.wiring.federates = (between_is (network_by r.wiring) c are.wiring.wired (contains_at r.wiring.connections k c at)).source in
    let other : nat_eq c.source i ≡ false = grind (arith, nat_tests) in
    inl (NotYours, rw other refl)

stranger_takes : (r : Records) (i : ℕ) (signal : Signal) → AreRecords r → r.wiring.federates ≤ i → IsRefusedOrNoted (federate_record_at r.federate_records) i (coordinator_takes (network_by r.wiring) (federate_record_at r.federate_records) i signal)
stranger_takes r i (Net tag) are l = by_two (federate_record_at r.federate_records) i (is_at_most tag r.wiring.stop || is_same tag forever) (is_past (federate_record_at r.federate_records i).completed tag) _ _ (after_net (federate_record_at r.federate_records i) tag)
stranger_takes r i (Ltc tag) are l = by_two (federate_record_at r.federate_records) i (is_at_most tag r.wiring.stop) (is_past (federate_record_at r.federate_records i).completed tag) _ _ (after_ltc (federate_record_at r.federate_records i) tag)
stranger_takes r i (Tag tag) are l = inl (NotForCoordinator, refl)
stranger_takes r i (Msg k tag value) are l = route_stranger r i k (Msg k tag value) (slice_get r.wiring.connections k) tag are l refl

refused_then : (r : Records) (i : ℕ) (signal : Signal) (refusal : Refusal) → coordinator_takes (network_by r.wiring) (federate_record_at r.federate_records) i signal ≡ Refused refusal → taken_by r i signal ≡ Refused refusal
refused_then r i signal refusal is =
    ap (λ o. with_made made_listed (with_made (listed_after r.wiring.federates) (with_made (with_grants (network_by r.wiring) (rule_by r.wiring)) o))) is

settled_stranger : (r : Records) (i : ℕ) (signal : Signal) (made : Made (List FederateRecord)) → AreRecords r → IsSettled r → r.wiring.federates ≤ i → taken_by r i signal ≡ Done made → IsSettled (with_federate_records r made.after)
settled_stranger r i signal made are settled l is =
    elim (stranger_takes r i signal are l) [
      | inl x ↦ (let e : taken_by r i signal ≡ Refused x.0 = refused_then r i signal x.0 x.1 in let bad : ⊥ = cc in absurd bad)
      | inr x ↦ (
          let e = stranger_done r i signal x.0 are settled l x.1 in
          let same : r.federate_records ≡ made.after = made_same r.federate_records made (sym e ∙ is) in
          let P : List FederateRecord → Type 0 = λ xs. IsSettled (with_federate_records r xs) in
          subst P same settled)
    ]
  where
    made_same : (xs : List FederateRecord) (m : Made (List FederateRecord)) → (let o : Outcome (Made (List FederateRecord)) = Done (record { after = xs; sent = [] }) in o) ≡ Done m → xs ≡ m.after
    made_same xs m e = let same : record { after = xs; sent = [] } ≡ m = cc in ap (λ (x : Made (List FederateRecord)). x.after) same

settled_by : (r : Records) (i : ℕ) (signal : Signal) (made : Made (List FederateRecord)) → AreRecords r → IsSettled r → IsSignal signal → taken_by r i signal ≡ Done made → IsSettled (with_federate_records r made.after)
settled_by r i signal made are settled good is =
    elim (cases_lt i r.wiring.federates) [
      | inl l ↦ settled_there r i signal made are settled good l is
      | inr l ↦ settled_stranger r i signal made are settled l is
    ]

-- a call leaves the records as they were, or as they were made
call_leaves : (r : Records) (xs : List FederateRecord) (m mail_then : Mail) (answer : Result Bool NodeFault) (o : Outcome (Made (List FederateRecord))) → IsSettled r → ((made : Made (List FederateRecord)) → o ≡ Done made → IsSettled (with_federate_records r made.after)) →
    IsCall r.federate_records xs m mail_then answer o → IsSettled (with_federate_records r xs)
call_leaves r xs m mail_then answer (Refused refusal) settled made_so call = let P : List FederateRecord → Type 0 = λ x. IsSettled (with_federate_records r x) in subst P (sym call.node) settled
call_leaves r xs m mail_then answer Nothing settled made_so call = let P : List FederateRecord → Type 0 = λ x. IsSettled (with_federate_records r x) in subst P (sym call.node) settled
call_leaves r xs m mail_then answer (Done made) settled made_so call = by_room (lacks_room m.ends made.sent) call.node
  where
    by_room : (b : Bool) → xs ≡ node_after r.federate_records (if b then LacksRoom else Moves made.after (all_posted m made.sent)) → IsSettled (with_federate_records r xs)
    by_room true is = let P : List FederateRecord → Type 0 = λ x. IsSettled (with_federate_records r x) in subst P (sym is) settled
    by_room false is = let P : List FederateRecord → Type 0 = λ x. IsSettled (with_federate_records r x) in subst P (sym is) (made_so made refl)

-- whether it was memory
is_memory : (answer : Result Bool NodeFault) → (answer ≡ Err fault.Memory) ⊎ (answer ≢ Err fault.Memory)
is_memory (Ok b) = inr (λ e. (let bad : ⊥ = cc in bad))
is_memory (Err (fault.Refused refusal)) = inr (λ e. (let bad : ⊥ = cc in bad))
is_memory (Err fault.NoRoom) = inr (λ e. (let bad : ⊥ = cc in bad))
is_memory (Err fault.Memory) = inl refl

settled_as : (r after : Records) → after.wiring ≡ r.wiring → IsSettled (with_federate_records r after.federate_records) → IsSettled after
settled_as r after wiring settled =
    let P : Wiring → Type 0 = λ w. IsSettled (record { wiring = w; federate_records = after.federate_records; looks = after.looks }) in
    subst P (sym wiring) (record { federate_records = settled.federate_records; nobody = settled.nobody })

-- what is kept stays kept
pub stays_kept : (d : Draft) (r after : Records) (m mail_then : Mail) (answer : Result Bool NodeFault) (i : ℕ) (signal : Signal) → IsKept d r → AreRecords r → IsSignal signal → IsStep r after m mail_then answer i signal → IsKept d after
stays_kept d r after m mail_then answer i signal kept are good step =
    record {
      wiring = step.wiring ∙ kept.wiring;
      settled = settled_as r after step.wiring (elim (is_memory answer) [
        | inl e ↦ (let P : List FederateRecord → Type 0 = λ x. IsSettled (with_federate_records r x) in subst P (sym (step.memory e).0) kept.settled)
        | inr unless ↦ call_leaves r after.federate_records m mail_then answer (taken_by r i signal) kept.settled (λ made is. settled_by r i signal made are kept.settled good is) (step.call unless)
      ]);
    }

-- the node of this draft with these records
abbrev pub node_with : Draft → List FederateRecord → CoordinatorNode
node_with d xs = record { draft = d; federate_records = xs }

lift : (d : Draft) (xs ys : List FederateRecord) (m mail_then : Mail) (answer : Result Bool NodeFault) (o : Outcome Listed) → IsCall xs ys m mail_then answer (with_made made_listed o) →
    IsCall (node_with d xs) (node_with d ys) m mail_then answer (with_made (made_by (node_with d xs)) o)
lift d xs ys m mail_then answer (Refused refusal) call = record { answers = call.answers; node = ap (node_with d) call.node; posts = call.posts }
lift d xs ys m mail_then answer Nothing call = record { answers = call.answers; node = ap (node_with d) call.node; posts = call.posts }
lift d xs ys m mail_then answer (Done made) call =
    let parts = by_room (lacks_room m.ends made.sent) call.answers call.node call.posts in
    record { answers = parts.0; node = parts.1; posts = parts.2 }
  where
    by_room : (b : Bool) → answer ≡ answer_of (if b then LacksRoom else Moves made.after (all_posted m made.sent)) → ys ≡ node_after xs (if b then LacksRoom else Moves made.after (all_posted m made.sent)) →
        mail_then ≡ mail_after m (if b then LacksRoom else Moves made.after (all_posted m made.sent)) →
        (answer ≡ answer_of (if b then LacksRoom else Moves (node_with d made.after) (all_posted m made.sent))) × (node_with d ys ≡ node_after (node_with d xs) (if b then LacksRoom else Moves (node_with d made.after) (all_posted m made.sent))) ×
        (mail_then ≡ mail_after m (if b then LacksRoom else Moves (node_with d made.after) (all_posted m made.sent)))
    by_room true a n p = (a, ap (node_with d) n, p)
    by_room false a n p = (a, ap (node_with d) n, p)

allowed : (d : Draft) (xs : List FederateRecord) (o : Outcome Listed) → Allows (with_made made_listed o) → Allows (with_made (made_by (node_with d xs)) o)
allowed d xs (Refused refusal) a = a
allowed d xs Nothing a = tt
allowed d xs (Done made) a = tt

abbrev listed_by : List FederateRecord → ℕ → Signal → Wiring → Outcome Listed
listed_by xs i signal w = coordinator_accepts_in (network_by w) (rule_by w) xs i signal

pub call_lifts : (d : Draft) (r after : Records) (m mail_then : Mail) (answer : Result Bool NodeFault) (i : ℕ) (signal : Signal) → r.wiring ≡ federation_wiring d → IsStep r after m mail_then answer i signal → answer ≢ Err fault.Memory →
    IsCall (node_with d r.federate_records) (node_with d after.federate_records) m mail_then answer (accepts (node_with d r.federate_records) i signal)
call_lifts d r after m mail_then answer i signal wiring step unless =
    let P : Wiring → Type 0 = λ w. IsCall (node_with d r.federate_records) (node_with d after.federate_records) m mail_then answer (with_made (made_by (node_with d r.federate_records)) (listed_by r.federate_records i signal w)) in
    subst P wiring (lift d r.federate_records after.federate_records m mail_then answer (listed_by r.federate_records i signal r.wiring) (step.call unless))

pub memory_lifts : (d : Draft) (r after : Records) (m mail_then : Mail) (answer : Result Bool NodeFault) (i : ℕ) (signal : Signal) → r.wiring ≡ federation_wiring d → IsStep r after m mail_then answer i signal → answer ≡ Err fault.Memory →
    (node_with d after.federate_records ≡ node_with d r.federate_records) × (mail_then ≡ m) × Allows (accepts (node_with d r.federate_records) i signal)
memory_lifts d r after m mail_then answer i signal wiring step is =
    let parts = step.memory is in
    let P : Wiring → Type 0 = λ w. Allows (with_made (made_by (node_with d r.federate_records)) (listed_by r.federate_records i signal w)) in
    (ap (node_with d) parts.0, parts.1, subst P wiring (allowed d r.federate_records (listed_by r.federate_records i signal r.wiring) parts.2))

in_order : (d : Draft) (xs : List FederateRecord) (count : ℕ) (o : Outcome Coordinated) →
    IfDone o (λ made. (j : ℕ) → IsTrue (is_of_step (sent_to j made.sent)) × IsTrue (may_go_down (federate_record_at xs j).granted (sent_to j made.sent)) × ((made.after j).granted ≡ granted_by_tags (federate_record_at xs j).granted (sent_to j made.sent))) →
    SendsOnly (coordinator_may_send (node_with d xs)) (with_made (made_by (node_with d xs)) (with_made (listed_after count) o))
in_order d xs count (Refused refusal) h = tt
in_order d xs count Nothing h = tt
in_order d xs count (Done made) h =
    all_below_from _ (λ j. is_of_step (sent_to j made.sent) && may_go_down (federate_record_at xs j).granted (sent_to j made.sent))
    (λ j l. both_hold (is_of_step (sent_to j made.sent)) (may_go_down (federate_record_at xs j).granted (sent_to j made.sent)) (h j).0 (h j).1)

-- what it sends may be sent
pub sends_in_order : (d : Draft) (r : Records) (i : ℕ) (signal : Signal) → IsKept d r → AreRecords r → IsSignal signal → SendsOnly (coordinator_may_send (node_with d r.federate_records)) (accepts (node_with d r.federate_records) i signal)
sends_in_order d r i signal kept are good =
    let n = network_by r.wiring in
    let safe = widest_rule_is_safe (network_by r.wiring) (least_by r.wiring) are.wiring.wired in
    let P : Wiring → Type 0 = λ w. SendsOnly (coordinator_may_send (node_with d r.federate_records)) (with_made (made_by (node_with d r.federate_records)) (listed_by r.federate_records i signal w)) in
    subst P kept.wiring (in_order d r.federate_records r.wiring.federates (coordinator_accepts n (rule_by r.wiring) (federate_record_at r.federate_records) i signal)
    (accepts_in_order n (least_by r.wiring) (rule_by r.wiring) (federate_record_at r.federate_records) i signal safe good kept.settled.federate_records))

-- one that fails is enough
pub below_fails : (count j : ℕ) (test : ℕ → Bool) → j < count → test j ≡ false → all_below count test ≡ false
below_fails zero j test l e = absurd (omega arith)
below_fails (suc count) j test l e =
    elim (cases_lt j count) [
      | inl m ↦ (let rest = below_fails count j test m e in ap (λ b. test count && b) rest ∙ and_false (test count))
      | inr m ↦ (let same : j ≡ count = omega arith in ap (λ b. b && all_below count test) (ap test (sym same) ∙ e))
    ]
  where
    and_false : (b : Bool) → (b && false) ≡ false
    and_false true = refl
    and_false false = refl

-- what a coordinator keeps holds at the start
pub initial_is_kept : (d : Draft) → IsKept d (initial_records d)
initial_is_kept d =
    let f = federate_record_at (federate_records_listed (federate_count d) (λ k. initial_federate_record)) in
    record {
      wiring = refl;
      settled = record {
        federate_records = λ j. (let P : FederateRecord → Type 0 = λ s. IsFederateRecord s in subst P (sym (initial_read (federate_count d) j)) initial_is_federate_record);
        nobody = λ j l. not_announced (f j).announced _ _ _ (ap (λ s. s.announced) (initial_read (federate_count d) j));
      };
    }
