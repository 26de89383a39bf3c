-- What a step comes to: the definition's outcome on lists of records, and the table and the mail as the code leaves them.
use Rattle.std.proofs.Common.{◌≡◌, ◌≢◌, ℕ, zero, suc, ◌+◌, ◌<◌, Bool, true, false, List, [], ◌∷◌, ◌++◌, length, set, refl, sym, ap, subst, ◌∙◌, arith, None, Some, Result, Ok, Err}
use Rattle.std.specs.Prelude.{nat_eq, nat_lt, if◌then◌else◌}
use Rattle.std.proofs.Math.Path.{fun_ext}
use Rattle.std.proofs.lemmas.Bool.Decides.{nat_tests}
use Rattle.std.proofs.lemmas.List.{append-nil}
use Rattle.tag.specs.LogicalTime.{LogicalTime}
use Rattle.network.specs.Network.{Network}
use Rattle.signal.specs.declared.signal.Signal.{Signal}
use Rattle.protocol.specs.declared.post.Post.{Post}
use Rattle.protocol.specs.Outcome.{Outcome, Done, with_made}
use Rattle.protocol.specs.FederateRecord.{FederateRecord}
use Rattle.protocol.specs.FederateRecords.{Listed, federate_record_at, listed_after}
use Rattle.protocol.specs.Grant.{Rule, is_eligible}
use Rattle.protocol.specs.Coordinator.{Coordinated, with_federate_record, coordinator_takes, with_grants, grant_to, grant_post, grants_from, grants_over}
use Rattle.node.specs.declared.fault.NodeFault.{NodeFault}
use Rattle.node.specs.declared.fault.NodeFault.TheVariants as fault
use Rattle.node.specs.Mail.{Mail, all_posted, lacks_room}
use Rattle.node.specs.Core.{Made, LacksRoom, Moves, answer_of, node_after, mail_after, IsCall, Allows}
use Rattle.grants.specs.Wiring.{Wiring, network_by, least_by}
use Rattle.grants.specs.Records.{Records, AreRecords}
use Rattle.grants.specs.Routes.{listed_below, may_change, affected_by}
use Rattle.coordinator.specs.Sending.{rule_by, all_granted}
use Rattle.coordinator.specs.Steps.{IsSettled, IsStep, made_listed, taken_by}
use Rattle.coordinator.proofs.Listed.{read_set, grants_listed, grants_more}
use Rattle.coordinator.proofs.Unseen.{without_transit, all_without, posts_unseen}
use Rattle.coordinator.proofs.Affected.{unconcerned}
use Rattle.coordinator.proofs.Sent.{over_append}

one_if : (n : Network) (rule : Rule) (f : ℕ → FederateRecord) (j : ℕ) (b : Bool) → (b ≡ false → grant_to n rule f j ≡ None) → grant_post j (grant_to n rule f j) ≡ grants_over n rule f (if b then j ∷ [] else [])
one_if n rule f j true none = sym (append-nil (grant_post j (grant_to n rule f j)))
one_if n rule f j false none = ap (grant_post j) (none refl)

-- all TAGs are those to the ones that pass a test, if nobody else gets one
grants_below : (n : Network) (rule : Rule) (f : ℕ → FederateRecord) (test : ℕ → Bool) (count : ℕ) → ((j : ℕ) → test j ≡ false → grant_to n rule f j ≡ None) → grants_from n rule f 0 count ≡ grants_over n rule f (listed_below count test)
grants_below n rule f test zero none = refl
grants_below n rule f test (suc count) none =
    let e : suc count ≡ count + 1 = omega arith in
    let here : 0 + count ≡ count = omega arith in
    ap (grants_from n rule f 0) e ∙
    (grants_more n rule f 0 count ∙
    (ap (λ k. grants_from n rule f 0 count ++ grant_post k (grant_to n rule f k)) here ∙
    (ap (λ xs. xs ++ grant_post count (grant_to n rule f count)) (grants_below n rule f test count none) ∙
    (ap (λ xs. grants_over n rule f (listed_below count test) ++ xs) (one_if n rule f count (test count) (none count)) ∙
    sym (over_append n rule f (listed_below count test) (if test count then count ∷ [] else []))))))

if_both : (b c : Bool) (o : LogicalTime) → (b ≡ true → c ≡ false) → (if b then (if c then Some o else None) else None) ≡ None
if_both true c o h = ap (λ (x : Bool). if x then Some o else None) (h refl)
if_both false c o h = refl

-- who isn't eligible gets no TAG, and nobody does who isn't there
pub none_to : (w : Wiring) (f : ℕ → FederateRecord) (j : ℕ) → (j < w.federates → is_eligible (network_by w) (least_by w) f j ≡ false) → grant_to (network_by w) (rule_by w) f j ≡ None
none_to w f j not_so =
    let there : nat_lt j w.federates ≡ true → is_eligible (network_by w) (least_by w) f j ≡ false = λ e. (let l : j < w.federates = grind (arith, nat_tests) in not_so l) in
    if_both (nat_lt j w.federates) (is_eligible (network_by w) (least_by w) f j) _ there

-- after a change of one federate's record, TAGs go to those alone whom it may make eligible
posts_of_change : (r : Records) (i : ℕ) (s : FederateRecord) → AreRecords r → IsSettled r → i < r.wiring.federates →
    grants_from (network_by r.wiring) (rule_by r.wiring) (federate_record_at (set r.federate_records i s)) 0 r.wiring.federates ≡ grants_over (network_by r.wiring) (rule_by r.wiring) (federate_record_at (set r.federate_records i s)) (affected_by r.wiring i)
posts_of_change r i s are settled l =
    grants_below (network_by r.wiring) (rule_by r.wiring) (federate_record_at (set r.federate_records i s)) (may_change r.wiring i) r.wiring.federates
    (λ j e. none_to r.wiring (federate_record_at (set r.federate_records i s)) j
    (λ m. ap (λ f. is_eligible (network_by r.wiring) (least_by r.wiring) f j) (read_set r.federate_records i s (omega (arith, are.count))) ∙
    (unconcerned r.wiring (federate_record_at r.federate_records) i s j are.wiring e ∙ settled.nobody j m)))

without_if : (f : ℕ → FederateRecord) (a b : FederateRecord) (k : ℕ) (t : Bool) → without_transit a ≡ without_transit b → without_transit (if t then a else f k) ≡ without_transit (if t then b else f k)
without_if f a b k true same = same
without_if f a b k false same = refl

-- what is in transit may be noted later
pub posts_of_later : (r : Records) (i : ℕ) (a s : FederateRecord) → AreRecords r → IsSettled r → i < r.wiring.federates → without_transit a ≡ without_transit s →
    grants_from (network_by r.wiring) (rule_by r.wiring) (federate_record_at (set r.federate_records i s)) 0 r.wiring.federates ≡ grants_over (network_by r.wiring) (rule_by r.wiring) (federate_record_at (set r.federate_records i a)) (affected_by r.wiring i)
posts_of_later r i a s are settled l same =
    let within : i < length r.federate_records = omega (arith, are.count) in
    let one : all_without (federate_record_at (set r.federate_records i s)) ≡ all_without (with_federate_record (federate_record_at r.federate_records) i s) = ap all_without (read_set r.federate_records i s within) in
    let two : all_without (federate_record_at (set r.federate_records i a)) ≡ all_without (with_federate_record (federate_record_at r.federate_records) i a) = ap all_without (read_set r.federate_records i a within) in
    let three : all_without (with_federate_record (federate_record_at r.federate_records) i a) ≡ all_without (with_federate_record (federate_record_at r.federate_records) i s) = fun_ext (λ k. without_if (federate_record_at r.federate_records) a s k (nat_eq k i) same) in
    posts_unseen (network_by r.wiring) (least_by r.wiring) (federate_record_at (set r.federate_records i s)) (federate_record_at (set r.federate_records i a)) 0 r.wiring.federates (one ∙ (sym three ∙ sym two)) ∙
    posts_of_change r i a are settled l

-- the definition's outcome, on lists
pub done_by : (r : Records) (i : ℕ) (signal : Signal) (made : Coordinated) (xs : List FederateRecord) (posts : List Post) → coordinator_takes (network_by r.wiring) (federate_record_at r.federate_records) i signal ≡ Done made →
    length xs ≡ r.wiring.federates → made.after ≡ federate_record_at xs → grants_from (network_by r.wiring) (rule_by r.wiring) (federate_record_at xs) 0 r.wiring.federates ≡ posts →
    taken_by r i signal ≡ Done (record { after = all_granted xs posts; sent = made.sent ++ posts })
done_by r i signal made xs posts takes len is these =
    let n = network_by r.wiring in
    ap (λ o. with_made made_listed (with_made (listed_after r.wiring.federates) (with_made (with_grants (network_by r.wiring) (rule_by r.wiring)) o))) takes ∙
    (ap (λ (l : Listed). let o : Outcome (Made (List FederateRecord)) = Done (made_listed l) in o) (grants_listed n (rule_by r.wiring) xs made len is) ∙
    ap (λ ps. let o : Outcome (Made (List FederateRecord)) = Done (record { after = all_granted xs ps; sent = made.sent ++ ps }) in o) these)

sends_if : (m mail_then : Mail) (made : Made (List FederateRecord)) (before after : List FederateRecord) (b : Bool) → b ≡ false → after ≡ made.after → mail_then ≡ all_posted m made.sent →
    (Ok true ≡ answer_of (if b then LacksRoom else Moves made.after (all_posted m made.sent))) × (after ≡ node_after before (if b then LacksRoom else Moves made.after (all_posted m made.sent))) ×
    (mail_then ≡ mail_after m (if b then LacksRoom else Moves made.after (all_posted m made.sent)))
sends_if m mail_then made before after true e node mail = let bad : ⊥ = cc in absurd bad
sends_if m mail_then made before after false e node mail = (refl, node, mail)

-- a step that is done
pub step_done : (r after : Records) (m mail_then : Mail) (i : ℕ) (signal : Signal) (made : Made (List FederateRecord)) → taken_by r i signal ≡ Done made → after.wiring ≡ r.wiring → after.federate_records ≡ made.after → mail_then ≡ all_posted m made.sent →
    lacks_room m.ends made.sent ≡ false → IsStep r after m mail_then (Ok true) i signal
step_done r after m mail_then i signal made is wiring federate_records mail room =
    let P : Outcome (Made (List FederateRecord)) → Type 0 = λ o. IsCall r.federate_records after.federate_records m mail_then (Ok true) o in
    let parts = sends_if m mail_then made r.federate_records after.federate_records (lacks_room m.ends made.sent) room federate_records mail in
    let call : P (Done made) = record { answers = parts.0; node = parts.1; posts = parts.2 } in
    record { wiring = wiring; call = λ unless. subst P (sym is) call; memory = λ e. (let bad : ⊥ = cc in absurd bad) }

fails_if : (m : Mail) (made : Made (List FederateRecord)) (before : List FederateRecord) (f : NodeFault) (b : Bool) (answer : Result Unit NodeFault) → answer ≡ Err f → answer ≡ (if b then Err fault.NoRoom else Ok tt) →
    (Err f ≡ answer_of (if b then LacksRoom else Moves made.after (all_posted m made.sent))) × (before ≡ node_after before (if b then LacksRoom else Moves made.after (all_posted m made.sent))) ×
    (m ≡ mail_after m (if b then LacksRoom else Moves made.after (all_posted m made.sent)))
fails_if m made before f true answer e is = let same : f ≡ fault.NoRoom = cc in (ap (λ x. let y : Result Bool NodeFault = Err x in y) same, refl, refl)
fails_if m made before f false answer e is = let bad : ⊥ = cc in absurd bad

fault_of : (f : NodeFault) → (let x : Result Bool NodeFault = Err f in x) ≢ Err fault.Memory → (let x : Result Unit NodeFault = Err f in x) ≢ Err fault.Memory
fault_of f unless e = unless (ap (λ x. let y : Result Bool NodeFault = Err x in y) (let same : f ≡ fault.Memory = cc in same))

-- a step that would be done, and isn't
pub step_failed : (r after : Records) (m mail_then : Mail) (i : ℕ) (signal : Signal) (made : Made (List FederateRecord)) (f : NodeFault) → taken_by r i signal ≡ Done made → after.wiring ≡ r.wiring → after.federate_records ≡ r.federate_records → mail_then ≡ m →
    ((let x : Result Unit NodeFault = Err f in x) ≢ Err fault.Memory → (let x : Result Unit NodeFault = Err f in x) ≡ (if lacks_room m.ends made.sent then Err fault.NoRoom else Ok tt)) → IsStep r after m mail_then (Err f) i signal
step_failed r after m mail_then i signal made f is wiring federate_records mail answer =
    let P : Outcome (Made (List FederateRecord)) → Type 0 = λ o. (let x : Result Bool NodeFault = Err f in x) ≢ Err fault.Memory → IsCall r.federate_records r.federate_records m m (Err f) o in
    let Q : Outcome (Made (List FederateRecord)) → Type 0 = λ o. Allows o in
    let call : P (Done made) = λ unless. (
    let parts = fails_if m made r.federate_records f (lacks_room m.ends made.sent) (Err f) refl (answer (fault_of f unless)) in
    record { answers = parts.0; node = parts.1; posts = parts.2 }) in
    let R : List FederateRecord → Mail → Type 0 = λ s x. (let y : Result Bool NodeFault = Err f in y) ≢ Err fault.Memory → IsCall r.federate_records s m x (Err f) (taken_by r i signal) in
    record {
      wiring = wiring;
      call = subst (R after.federate_records) (sym mail) (subst (λ (s : List FederateRecord). R s m) (sym federate_records) (subst P (sym is) call));
      memory = λ e. (federate_records, mail, subst Q (sym is) tt);
    }
