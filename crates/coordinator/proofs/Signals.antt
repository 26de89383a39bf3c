-- The steps that signals make: what the code did to its table, and what the definition says.
use Rattle.std.proofs.Common.{◌≡◌, ◌≢◌, ℕ, ℤ, zero, suc, ◌+◌, ◌<◌, ◌≤◌, Bool, true, false, List, [], ◌∷◌, ◌++◌, length, set, refl, sym, ap, subst, ◌∙◌, arith, Option, None, Some, Result, Ok, Err, All}
use Rattle.std.specs.Prelude.{nat_eq, if◌then◌else◌, ◌||◌, not, filter, slice_get, OnOk, OnErr}
use Rattle.std.specs.Result.{is_err}
use Rattle.std.specs.List.{AllByRecursion}
use Rattle.std.proofs.Math.ListN.{length-set, get_or-eq_default}
use Rattle.std.proofs.lemmas.Bool.Decides.{nat_tests}
use Rattle.std.proofs.lemmas.Grind.{get_or-set_at}
use Rattle.std.proofs.lemmas.List.{set-set, set-get_or}
use Rattle.tag.specs.LogicalTime.{LogicalTime, forever, is_at_most, is_same, is_before, lesser, is_past}
use Rattle.network.specs.Connection.{Connection}
use Rattle.network.specs.Network.{Network}
use Rattle.signal.specs.declared.signal.Signal.{Signal}
use Rattle.signal.specs.declared.signal.Signal.TheVariants.{Net, Ltc, Msg}
use Rattle.protocol.specs.declared.post.Post.{Post}
use Rattle.protocol.specs.declared.refusal.Refusal.{Refusal}
use Rattle.protocol.specs.declared.refusal.Refusal.TheVariants.{NotYours, BelowGrant, NotRising, AfterStop}
use Rattle.protocol.specs.Outcome.{Outcome, Refused, Done, with_made}
use Rattle.protocol.specs.FederateRecord.{FederateRecord, initial_federate_record, least_with, with_tag, after_grant, after_net, after_ltc, after_message}
use Rattle.protocol.specs.FederateRecords.{federate_record_at, federate_records_listed, listed_after}
use Rattle.protocol.specs.Grant.{Rule}
use Rattle.protocol.specs.Coordinator.{Coordinated, with_federate_record, noted, route, coordinator_takes, with_grants, grant_to, grant_post, grants_from, grants_over}
use Rattle.node.specs.declared.fault.NodeFault.{NodeFault}
use Rattle.node.specs.declared.fault.NodeFault.TheVariants as fault
use Rattle.node.specs.Mail.{Mail, all_posted, lacks_room}
use Rattle.node.specs.Core.{Made}
use Rattle.node.proofs.Ends.{no_posts}
use Rattle.protocol_laws.proofs.ListedFederateRecords.{list_read}
use Rattle.protocol_laws.proofs.Eligibility.{contains_at, between_is}
use Rattle.network_laws.proofs.Lists.{each_append, each, from_each}
use Rattle.grants.specs.Wiring.{Wiring, network_by}
use Rattle.grants.specs.Transit.{lesser_with}
use Rattle.grants.specs.Records as table
use Rattle.grants.specs.Records.{Records, AreRecords, with_looks}
use Rattle.grants.specs.Routes.{affected_by}
use Rattle.coordinator.specs.Sending.{rule_by, grants_in, all_granted}
use Rattle.coordinator.specs.Steps.{IsSettled, IsStep, made_listed, taken_by}
use Rattle.coordinator.proofs.Listed.{read_set, listed_same}
use Rattle.coordinator.proofs.Unseen.{without_transit}
use Rattle.coordinator.proofs.Affected.{stranger_concerns_nobody}
use Rattle.coordinator.proofs.Sent.{affected_are_there}
use Rattle.coordinator.proofs.Steps.{posts_of_later, done_by, step_done, step_failed, none_to}

-- a table after one change
pub changed : (r t : Records) (i looks : ℕ) (s : FederateRecord) → t ≡ with_looks (table.with_federate_record r i s) looks → (t.wiring ≡ r.wiring) × (t.federate_records ≡ set r.federate_records i s)
changed r t i looks s is = (ap (λ x. x.wiring) is, ap (λ x. x.federate_records) is)

-- after two changes of one record
pub changed_twice : (r t u : Records) (i k looks : ℕ) (a : FederateRecord) (change : FederateRecord → FederateRecord) → i < length r.federate_records → t ≡ with_looks (table.with_federate_record r i a) k →
    u ≡ with_looks (table.with_federate_record t i (change (federate_record_at t.federate_records i))) looks → (u.wiring ≡ r.wiring) × (u.federate_records ≡ set r.federate_records i (change a))
changed_twice r t u i k looks a change within one two =
    let first = changed r t i k a one in
    let second = changed t u i looks (change (federate_record_at t.federate_records i)) two in
    let at : federate_record_at (set r.federate_records i a) i ≡ a = get_or-set_at r.federate_records i i a initial_federate_record refl within in (
      second.0 ∙ first.0,
      second.1 ∙ (ap (λ xs. set xs i (change (federate_record_at xs i))) first.1 ∙
          (set-set r.federate_records i a (change (federate_record_at (set r.federate_records i a) i)) ∙ ap (λ s. set r.federate_records i (change s)) at)),
    )

-- one more change of the same record
pub changed_again : (r t u : Records) (i looks : ℕ) (a : FederateRecord) (change : FederateRecord → FederateRecord) → i < length r.federate_records → t.wiring ≡ r.wiring → t.federate_records ≡ set r.federate_records i a →
    u ≡ with_looks (table.with_federate_record t i (change (federate_record_at t.federate_records i))) looks → (u.wiring ≡ r.wiring) × (u.federate_records ≡ set r.federate_records i (change a))
changed_again r t u i looks a change within wiring so two =
    let second = changed t u i looks (change (federate_record_at t.federate_records i)) two in
    let at : federate_record_at (set r.federate_records i a) i ≡ a = get_or-set_at r.federate_records i i a initial_federate_record refl within in (
      second.0 ∙ wiring,
      second.1 ∙ (ap (λ xs. set xs i (change (federate_record_at xs i))) so ∙
          (set-set r.federate_records i a (change (federate_record_at (set r.federate_records i a) i)) ∙ ap (λ s. set r.federate_records i (change s)) at)),
    )

-- taken back
pub taken_back : (r u : Records) (i : ℕ) (s : FederateRecord) → u.federate_records ≡ set r.federate_records i s → s ≡ federate_record_at r.federate_records i → u.federate_records ≡ r.federate_records
taken_back r u i s is same = is ∙ (ap (set r.federate_records i) same ∙ set-get_or r.federate_records i initial_federate_record)

grants_in_are : (r t : Records) (xs : List FederateRecord) (j : ℕ) → t.wiring ≡ r.wiring → t.federate_records ≡ xs →
    grants_in t (affected_by t.wiring j) ≡ grants_over (network_by r.wiring) (rule_by r.wiring) (federate_record_at xs) (affected_by r.wiring j)
grants_in_are r t xs j wiring federate_records =
    let F : Wiring → List FederateRecord → List Post = λ w s. grants_over (network_by w) (rule_by w) (federate_record_at s) (affected_by w j) in
    ap (λ w. F w t.federate_records) wiring ∙ ap (F r.wiring) federate_records

taken_done : (r t : Records) (i j : ℕ) (signal : Signal) (made : Coordinated) (a s : FederateRecord) → AreRecords r → IsSettled r → j < r.wiring.federates → coordinator_takes (network_by r.wiring) (federate_record_at r.federate_records) i signal ≡ Done made →
    made.after ≡ with_federate_record (federate_record_at r.federate_records) j s → without_transit a ≡ without_transit s → t.wiring ≡ r.wiring → t.federate_records ≡ set r.federate_records j a →
    taken_by r i signal ≡ Done (record { after = all_granted (set r.federate_records j s) (grants_in t (affected_by t.wiring j)); sent = made.sent ++ grants_in t (affected_by t.wiring j) })
taken_done r t i j signal made a s are settled there takes is same wiring federate_records =
    done_by r i signal made (set r.federate_records j s) (grants_in t (affected_by t.wiring j)) takes (length-set r.federate_records j s ∙ are.count)
    (is ∙ sym (read_set r.federate_records j s (omega (arith, are.count))))
    (posts_of_later r j a s are settled there same ∙ sym (grants_in_are r t (set r.federate_records j a) j wiring federate_records))

-- what goes out before TAGs grants nothing
abbrev pub GrantsNothing : List Post → Type 0
GrantsNothing first = (xs : List FederateRecord) (rest : List Post) → all_granted xs (first ++ rest) ≡ all_granted xs rest

-- what a signal changed, and the table when the TAGs were found, before what is in transit was noted
pub record IsTaken (r t : Records) (i j : ℕ) (signal : Signal) (made : Coordinated) (a s : FederateRecord) : Type 0 where
  pub are : AreRecords r
  pub settled : IsSettled r
  pub there : j < r.wiring.federates
  pub takes : coordinator_takes (network_by r.wiring) (federate_record_at r.federate_records) i signal ≡ Done made
  pub is : made.after ≡ with_federate_record (federate_record_at r.federate_records) j s
  pub same : without_transit a ≡ without_transit s
  pub wiring : t.wiring ≡ r.wiring
  pub federate_records : t.federate_records ≡ set r.federate_records j a

pub finished_step : (r t u after : Records) (m ready mail_then : Mail) (i j : ℕ) (signal : Signal) (made : Coordinated) (a s : FederateRecord) (first posts : List Post) → IsTaken r t i j signal made a s → first ≡ made.sent → GrantsNothing made.sent →
    u.wiring ≡ r.wiring → u.federate_records ≡ set r.federate_records j s → posts ≡ first ++ grants_in t (affected_by t.wiring j) → ready ≡ m → lacks_room ready.ends posts ≡ false →
    after.wiring ≡ u.wiring → after.federate_records ≡ all_granted u.federate_records posts → mail_then ≡ all_posted ready posts → IsStep r after m mail_then (Ok true) i signal
finished_step r t u after m ready mail_then i j signal made a s first posts taken first_is nothing wiring federate_records posts_are ready_is room after_wiring after_federate_records mail =
    let g = grants_in t (affected_by t.wiring j) in
    let all : posts ≡ made.sent ++ g = posts_are ∙ ap (λ xs. xs ++ g) first_is in
    let r_made : Made (List FederateRecord) = record { after = all_granted (set r.federate_records j s) g; sent = made.sent ++ g } in
    let granted : after.federate_records ≡ all_granted (set r.federate_records j s) g =
    after_federate_records ∙ (ap (λ xs. all_granted xs posts) federate_records ∙ (ap (all_granted (set r.federate_records j s)) all ∙ nothing (set r.federate_records j s) g)) in
    let sent : mail_then ≡ all_posted m (made.sent ++ g) = mail ∙ (ap (λ x. all_posted x posts) ready_is ∙ ap (all_posted m) all) in
    let fits : lacks_room m.ends (made.sent ++ g) ≡ false =
    ap (λ (x : Mail). lacks_room x.ends (made.sent ++ g)) (sym ready_is) ∙ (ap (lacks_room ready.ends) (sym all) ∙ room) in
    step_done r after m mail_then i signal r_made (taken_done r t i j signal made a s taken.are taken.settled taken.there taken.takes taken.is taken.same taken.wiring taken.federate_records)
    (after_wiring ∙ wiring) granted sent fits

pub failed_step : (r t back : Records) (m mail_then : Mail) (i j : ℕ) (signal : Signal) (made : Coordinated) (a s : FederateRecord) (first : List Post) (f : NodeFault) → IsTaken r t i j signal made a s → first ≡ made.sent →
    back.wiring ≡ r.wiring → back.federate_records ≡ r.federate_records → mail_then ≡ m →
    ((let x : Result Unit NodeFault = Err f in x) ≢ Err fault.Memory → (let x : Result Unit NodeFault = Err f in x) ≡ (if lacks_room m.ends (first ++ grants_in t (affected_by t.wiring j)) then Err fault.NoRoom else Ok tt)) →
    IsStep r back m mail_then (Err f) i signal
failed_step r t back m mail_then i j signal made a s first f taken first_is wiring federate_records mail answer =
    let g = grants_in t (affected_by t.wiring j) in
    let r_made : Made (List FederateRecord) = record { after = all_granted (set r.federate_records j s) g; sent = made.sent ++ g } in
    let P : List Post → Type 0 = λ xs. (let x : Result Unit NodeFault = Err f in x) ≢ Err fault.Memory → (let x : Result Unit NodeFault = Err f in x) ≡ (if lacks_room m.ends (xs ++ g) then Err fault.NoRoom else Ok tt) in
    step_failed r back m mail_then i signal r_made f (taken_done r t i j signal made a s taken.are taken.settled taken.there taken.takes taken.is taken.same taken.wiring taken.federate_records)
    wiring federate_records mail (subst P first_is answer)

two_tests : {A : Type 0} (b c : Bool) (x y : Refusal) (made : A) → b ≡ true → c ≡ true → (if not b then Refused x else if not c then Refused y else Done made) ≡ Done made
two_tests true true x y made e d = refl
two_tests true false x y made e d = cc
two_tests false c x y made e d = cc

three_tests : {A : Type 0} (b c d : Bool) (x y z : Refusal) (made : A) → b ≡ true → c ≡ true → d ≡ true → (if not b then Refused x else if not c then Refused y else if not d then Refused z else Done made) ≡ Done made
three_tests true true true x y z made e f g = refl
three_tests true true false x y z made e f g = cc
three_tests true false d x y z made e f g = cc
three_tests false c d x y z made e f g = cc

-- a NET that isn't refused
pub net_takes : (n : Network) (f : ℕ → FederateRecord) (i : ℕ) (tag : LogicalTime) → (is_at_most tag n.stop || is_same tag forever) ≡ true → is_past (f i).completed tag ≡ true →
    coordinator_takes n f i (Net tag) ≡ Done (noted f i (after_net (f i) tag))
net_takes n f i tag in_time rising = two_tests (is_at_most tag n.stop || is_same tag forever) (is_past (f i).completed tag) AfterStop NotRising (noted f i (after_net (f i) tag)) in_time rising

pub ltc_takes : (n : Network) (f : ℕ → FederateRecord) (i : ℕ) (tag : LogicalTime) → is_at_most tag n.stop ≡ true → is_past (f i).completed tag ≡ true →
    coordinator_takes n f i (Ltc tag) ≡ Done (noted f i (after_ltc (f i) tag))
ltc_takes n f i tag in_time rising = two_tests (is_at_most tag n.stop) (is_past (f i).completed tag) AfterStop NotRising (noted f i (after_ltc (f i) tag)) in_time rising

-- a message that goes on to federate j
abbrev pub routed : (ℕ → FederateRecord) → Signal → ℕ → LogicalTime → Coordinated
routed f message j tag = record { after = with_federate_record f j (after_message (f j) tag); sent = record { peer = j; signal = message } ∷ [] }

pub route_takes : (n : Network) (f : ℕ → FederateRecord) (i j : ℕ) (message : Signal) (o : Option Connection) (c : Connection) (tag : LogicalTime) → o ≡ Some c → j ≡ c.target → nat_eq c.source i ≡ true → is_at_most tag n.stop ≡ true → is_past (f j).granted tag ≡ true →
    route n f i message o tag ≡ Done (routed f message j tag)
route_takes n f i j message o c tag found target own in_time later =
    ap (λ x. route n f i message x tag) found ∙
    (three_tests (nat_eq c.source i) (is_at_most tag n.stop) (is_past (f c.target).granted tag) NotYours AfterStop BelowGrant (routed f message c.target tag) own in_time (ap (λ k. is_past (f k).granted tag) (sym target) ∙ later) ∙
    ap (λ k. let x : Outcome Coordinated = Done (routed f message k tag) in x) (sym target))

none_from : (n : Network) (rule : Rule) (f : ℕ → FederateRecord) (j count : ℕ) → ((k : ℕ) → grant_to n rule f k ≡ None) → grants_from n rule f j count ≡ []
none_from n rule f j zero none = refl
none_from n rule f j (suc count) none = ap (λ o. grant_post j o ++ grants_from n rule f (j + 1) count) (none j) ∙ none_from n rule f (j + 1) count none

-- a signal of a federate that isn't there changes nothing, and nobody gets a TAG
pub stranger_done : (r : Records) (i : ℕ) (signal : Signal) (s : FederateRecord) → AreRecords r → IsSettled r → r.wiring.federates ≤ i → coordinator_takes (network_by r.wiring) (federate_record_at r.federate_records) i signal ≡ Done (noted (federate_record_at r.federate_records) i s) →
    taken_by r i signal ≡ Done (record { after = r.federate_records; sent = [] })
stranger_done r i signal s are settled l takes =
    let n = network_by r.wiring in
    let f = with_federate_record (federate_record_at r.federate_records) i s in
    let none : (k : ℕ) → grant_to (network_by r.wiring) (rule_by r.wiring) (with_federate_record (federate_record_at r.federate_records) i s) k ≡ None =
    λ k. none_to r.wiring (with_federate_record (federate_record_at r.federate_records) i s) k (λ m. stranger_concerns_nobody r.wiring (federate_record_at r.federate_records) i s k are.wiring l m ∙ settled.nobody k m) in
    let each_same : (k : ℕ) → k < r.wiring.federates → after_grant (f k) (grant_to n (rule_by r.wiring) f k) ≡ federate_record_at r.federate_records k =
    λ k m. (
    let apart : nat_eq k i ≡ false = grind (arith, nat_tests) in
    ap (after_grant (f k)) (none k) ∙ ap (λ (b : Bool). if b then s else federate_record_at r.federate_records k) apart) in
    let list : federate_records_listed r.wiring.federates (λ k. after_grant (f k) (grant_to n (rule_by r.wiring) f k)) ≡ r.federate_records =
    listed_same r.wiring.federates (λ k. after_grant (f k) (grant_to n (rule_by r.wiring) f k)) (federate_record_at r.federate_records) each_same ∙
    (ap (λ count. federate_records_listed count (federate_record_at r.federate_records)) (sym are.count) ∙ list_read r.federate_records) in
    ap (λ o. with_made made_listed (with_made (listed_after r.wiring.federates) (with_made (with_grants (network_by r.wiring) (rule_by r.wiring)) o))) takes ∙
    (ap (λ xs. let o : Outcome (Made (List FederateRecord)) = Done (record { after = xs; sent = grants_from n (rule_by r.wiring) f 0 r.wiring.federates }) in o) list ∙
    ap (λ ps. let o : Outcome (Made (List FederateRecord)) = Done (record { after = r.federate_records; sent = ps }) in o) (none_from n (rule_by r.wiring) f 0 r.wiring.federates none))

stranger_is_new : (r : Records) (i : ℕ) → AreRecords r → r.wiring.federates ≤ i → (federate_record_at r.federate_records i).completed ≡ None
stranger_is_new r i are l = ap (λ (s : FederateRecord). s.completed) (get_or-eq_default r.federate_records initial_federate_record (omega (arith, are.count)))

stranger_step : (r : Records) (m : Mail) (i : ℕ) (signal : Signal) (s : FederateRecord) → AreRecords r → IsSettled r → r.wiring.federates ≤ i → coordinator_takes (network_by r.wiring) (federate_record_at r.federate_records) i signal ≡ Done (noted (federate_record_at r.federate_records) i s) →
    IsStep r r m m (Ok true) i signal
stranger_step r m i signal s are settled l takes =
    step_done r r m m i signal (record { after = r.federate_records; sent = [] }) (stranger_done r i signal s are settled l takes) refl refl refl (no_posts 0 m.ends)

pub stranger_net : (r : Records) (m : Mail) (i : ℕ) (tag : LogicalTime) → AreRecords r → IsSettled r → r.wiring.federates ≤ i → (is_at_most tag r.wiring.stop || is_same tag forever) ≡ true → IsStep r r m m (Ok true) i (Net tag)
stranger_net r m i tag are settled l in_time =
    stranger_step r m i (Net tag) (after_net (federate_record_at r.federate_records i) tag) are settled l
    (net_takes (network_by r.wiring) (federate_record_at r.federate_records) i tag in_time (ap (λ o. is_past o tag) (stranger_is_new r i are l)))

pub stranger_ltc : (r : Records) (m : Mail) (i : ℕ) (tag : LogicalTime) → AreRecords r → IsSettled r → r.wiring.federates ≤ i → is_at_most tag r.wiring.stop ≡ true → IsStep r r m m (Ok true) i (Ltc tag)
stranger_ltc r m i tag are settled l in_time =
    stranger_step r m i (Ltc tag) (after_ltc (federate_record_at r.federate_records i) tag) are settled l
    (ltc_takes (network_by r.wiring) (federate_record_at r.federate_records) i tag in_time (ap (λ o. is_past o tag) (stranger_is_new r i are l)))

post_within : (most j : ℕ) (o : Option LogicalTime) → j < most → AllByRecursion (λ (p : Post). p.peer < most) (grant_post j o)
post_within most j None l = tt
post_within most j (Some tag) l = (l, tt)

over_within : (n : Network) (rule : Rule) (f : ℕ → FederateRecord) (most : ℕ) (xs : List ℕ) → AllByRecursion (λ j. j < most) xs → AllByRecursion (λ (p : Post). p.peer < most) (grants_over n rule f xs)
over_within n rule f most [] a = tt
over_within n rule f most (x ∷ xs) a =
    each_append (λ (p : Post). p.peer < most) (grant_post x (grant_to n rule f x)) (grants_over n rule f xs) (post_within most x (grant_to n rule f x) a.0) (over_within n rule f most xs a.1)

-- all that goes out is for federates that are there
pub peers_are_there : (t : Records) (j most : ℕ) (first posts : List Post) → AllByRecursion (λ (p : Post). p.peer < most) first → posts ≡ first ++ grants_in t (affected_by t.wiring j) → t.wiring.federates ≡ most → All (λ (p : Post). p.peer < most) posts
peers_are_there t j most first posts a is many =
    let Q : ℕ → Type 0 = λ k. AllByRecursion (λ (p : Post). p.peer < k) (grants_in t (affected_by t.wiring j)) in
    let rest : Q most = subst Q many (over_within (network_by t.wiring) (rule_by t.wiring) (federate_record_at t.federate_records) t.wiring.federates (affected_by t.wiring j)
    (each (λ k. k < t.wiring.federates) (affected_by t.wiring j) (affected_are_there t.wiring j))) in
    let P : List Post → Type 0 = λ ps. All (λ (p : Post). p.peer < most) ps in
    subst P (sym is) (from_each (λ (p : Post). p.peer < most) (first ++ grants_in t (affected_by t.wiring j)) (each_append (λ (p : Post). p.peer < most) first (grants_in t (affected_by t.wiring j)) a rest))

-- a NET: the table after both changes
pub net_taken : (r t u : Records) (i k looks : ℕ) (tag next : LogicalTime) → AreRecords r → IsSettled r → i < r.wiring.federates → (is_at_most tag r.wiring.stop || is_same tag forever) ≡ true → is_past (federate_record_at r.federate_records i).completed tag ≡ true →
    next ≡ least_with tag (federate_record_at r.federate_records i).transit → t ≡ with_looks (table.with_federate_record r i (record (federate_record_at r.federate_records i) { next = next })) k →
    u ≡ with_looks (table.with_federate_record t i (record (federate_record_at t.federate_records i) { announced = true })) looks →
    IsTaken r u i i (Net tag) (noted (federate_record_at r.federate_records) i (after_net (federate_record_at r.federate_records i) tag)) (after_net (federate_record_at r.federate_records i) tag) (after_net (federate_record_at r.federate_records i) tag)
net_taken r t u i k looks tag next are settled there in_time rising next_is one two =
    let s = federate_record_at r.federate_records i in
    let two_changes = changed_twice r t u i k looks (record (federate_record_at r.federate_records i) { next = next }) (λ x. record x { announced = true }) (omega (arith, are.count)) one two in
    record {
      are = are;
      settled = settled;
      there = there;
      takes = net_takes (network_by r.wiring) (federate_record_at r.federate_records) i tag in_time rising;
      is = refl;
      same = refl;
      wiring = two_changes.0;
      federate_records = two_changes.1 ∙ ap (λ x. set r.federate_records i (record s { announced = true; next = x })) next_is;
    }

-- and taken back
pub net_back : (r u v w : Records) (i k looks : ℕ) (announced : Bool) (next : LogicalTime) (a : FederateRecord) → AreRecords r → i < r.wiring.federates → u.wiring ≡ r.wiring → u.federate_records ≡ set r.federate_records i a →
    record (federate_record_at r.federate_records i) { announced = a.announced; next = a.next } ≡ a →
    announced ≡ (federate_record_at r.federate_records i).announced → next ≡ (federate_record_at r.federate_records i).next →
    v ≡ with_looks (table.with_federate_record u i (record (federate_record_at u.federate_records i) { announced = announced })) k → w ≡ with_looks (table.with_federate_record v i (record (federate_record_at v.federate_records i) { next = next })) looks →
    (w.wiring ≡ r.wiring) × (w.federate_records ≡ r.federate_records)
net_back r u v w i k looks announced next a are there wiring federate_records shape announced_is next_is one two =
    let s = federate_record_at r.federate_records i in
    let within : i < length r.federate_records = omega (arith, are.count) in
    let first = changed_again r u v i k a (λ x. record x { announced = announced }) within wiring federate_records one in
    let second = changed_again r v w i looks (record a { announced = announced }) (λ x. record x { next = next }) within first.0 first.1 two in
    let F : Bool → LogicalTime → FederateRecord = λ b g. record s { announced = b; next = g } in
    let same : record a { announced = announced; next = next } ≡ s =
    ap (λ (x : FederateRecord). record x { announced = announced; next = next }) (sym shape) ∙ (ap (λ b. F b next) announced_is ∙ ap (F s.announced) next_is) in
    (second.0, taken_back r w i (record a { announced = announced; next = next }) second.1 same)

-- an LTC: what it completed, and then what is in transit
pub ltc_taken : (r t : Records) (i looks : ℕ) (tag : LogicalTime) → AreRecords r → IsSettled r → i < r.wiring.federates → is_at_most tag r.wiring.stop ≡ true → is_past (federate_record_at r.federate_records i).completed tag ≡ true →
    t ≡ with_looks (table.with_federate_record r i (record (federate_record_at r.federate_records i) { completed = Some tag })) looks →
    IsTaken r t i i (Ltc tag) (noted (federate_record_at r.federate_records) i (after_ltc (federate_record_at r.federate_records i) tag)) (record (federate_record_at r.federate_records i) { completed = Some tag }) (after_ltc (federate_record_at r.federate_records i) tag)
ltc_taken r t i looks tag are settled there in_time rising one =
    let change = changed r t i looks (record (federate_record_at r.federate_records i) { completed = Some tag }) one in
    record {
      are = are;
      settled = settled;
      there = there;
      takes = ltc_takes (network_by r.wiring) (federate_record_at r.federate_records) i tag in_time rising;
      is = refl;
      same = refl;
      wiring = change.0;
      federate_records = change.1;
    }

pub ltc_dropped : (r t u : Records) (i : ℕ) (tag : LogicalTime) → AreRecords r → i < r.wiring.federates → t.wiring ≡ r.wiring → t.federate_records ≡ set r.federate_records i (record (federate_record_at r.federate_records i) { completed = Some tag }) →
    u ≡ table.with_federate_record t i (record (federate_record_at t.federate_records i) { transit = filter (λ g. is_before tag g) (federate_record_at t.federate_records i).transit }) →
    (u.wiring ≡ r.wiring) × (u.federate_records ≡ set r.federate_records i (after_ltc (federate_record_at r.federate_records i) tag))
ltc_dropped r t u i tag are there wiring federate_records is =
    changed_again r t u i t.looks (record (federate_record_at r.federate_records i) { completed = Some tag }) (λ x. record x { transit = filter (λ g. is_before tag g) x.transit }) (omega (arith, are.count)) wiring federate_records is

pub ltc_back : (r t u : Records) (i looks : ℕ) (tag : LogicalTime) (completed : Option LogicalTime) → AreRecords r → i < r.wiring.federates → t.wiring ≡ r.wiring → t.federate_records ≡ set r.federate_records i (record (federate_record_at r.federate_records i) { completed = Some tag }) →
    completed ≡ (federate_record_at r.federate_records i).completed → u ≡ with_looks (table.with_federate_record t i (record (federate_record_at t.federate_records i) { completed = completed })) looks → (u.wiring ≡ r.wiring) × (u.federate_records ≡ r.federate_records)
ltc_back r t u i looks tag completed are there wiring federate_records completed_is is =
    let s = federate_record_at r.federate_records i in
    let change = changed_again r t u i looks (record (federate_record_at r.federate_records i) { completed = Some tag }) (λ x. record x { completed = completed }) (omega (arith, are.count)) wiring federate_records is in
    (change.0, taken_back r u i (record s { completed = completed }) change.1 (ap (λ o. record s { completed = o }) completed_is))

-- a message: the receiver's next tag, and then what is in transit
pub message_taken : (r t : Records) (i j looks : ℕ) (message : Signal) (tag next : LogicalTime) → AreRecords r → IsSettled r → j < r.wiring.federates →
    coordinator_takes (network_by r.wiring) (federate_record_at r.federate_records) i message ≡ Done (routed (federate_record_at r.federate_records) message j tag) →
    next ≡ lesser (federate_record_at r.federate_records j).next tag → t ≡ with_looks (table.with_federate_record r j (record (federate_record_at r.federate_records j) { next = next })) looks →
    IsTaken r t i j message (routed (federate_record_at r.federate_records) message j tag) (record (federate_record_at r.federate_records j) { next = lesser (federate_record_at r.federate_records j).next tag }) (after_message (federate_record_at r.federate_records j) tag)
message_taken r t i j looks message tag next are settled there takes next_is one =
    let s = federate_record_at r.federate_records j in
    let change = changed r t j looks (record (federate_record_at r.federate_records j) { next = next }) one in
    record {
      are = are;
      settled = settled;
      there = there;
      takes = takes;
      is = refl;
      same = refl;
      wiring = change.0;
      federate_records = change.1 ∙ ap (λ x. set r.federate_records j (record s { next = x })) next_is;
    }

-- the receiver is there
pub target_is_there : (r : Records) (number j : ℕ) (o : Option Connection) (c : Connection) → AreRecords r → o ≡ slice_get r.wiring.connections number → o ≡ Some c → j ≡ c.target → j < r.wiring.federates
target_is_there r number j o c are at found target =
    let P : ℕ → Type 0 = λ k. k < r.wiring.federates in
    subst P (sym target) (between_is (network_by r.wiring) c are.wiring.wired (contains_at r.wiring.connections number c (sym at ∙ found))).target

pub message_added : (r t u : Records) (j : ℕ) (tag : LogicalTime) → AreRecords r → j < r.wiring.federates → t.wiring ≡ r.wiring → t.federate_records ≡ set r.federate_records j (record (federate_record_at r.federate_records j) { next = lesser (federate_record_at r.federate_records j).next tag }) →
    u ≡ table.with_federate_record t j (record (federate_record_at t.federate_records j) { transit = with_tag tag (federate_record_at t.federate_records j).transit }) →
    (u.wiring ≡ r.wiring) × (u.federate_records ≡ set r.federate_records j (after_message (federate_record_at r.federate_records j) tag))
message_added r t u j tag are there wiring federate_records is =
    changed_again r t u j t.looks (record (federate_record_at r.federate_records j) { next = lesser (federate_record_at r.federate_records j).next tag }) (λ x. record x { transit = with_tag tag x.transit }) (omega (arith, are.count)) wiring federate_records is

pub message_back : (r t u : Records) (j looks : ℕ) (tag next : LogicalTime) → AreRecords r → j < r.wiring.federates → t.wiring ≡ r.wiring → t.federate_records ≡ set r.federate_records j (record (federate_record_at r.federate_records j) { next = lesser (federate_record_at r.federate_records j).next tag }) →
    next ≡ (federate_record_at r.federate_records j).next → u ≡ with_looks (table.with_federate_record t j (record (federate_record_at t.federate_records j) { next = next })) looks → (u.wiring ≡ r.wiring) × (u.federate_records ≡ r.federate_records)
message_back r t u j looks tag next are there wiring federate_records next_is is =
    let s = federate_record_at r.federate_records j in
    let change = changed_again r t u j looks (record (federate_record_at r.federate_records j) { next = lesser (federate_record_at r.federate_records j).next tag }) (λ x. record x { next = next }) (omega (arith, are.count)) wiring federate_records is in
    (change.0, taken_back r u j (record s { next = next }) change.1 (ap (λ g. record s { next = g }) next_is))

pub nothing_first : GrantsNothing []
nothing_first xs rest = refl

pub message_first : (j number : ℕ) (tag : LogicalTime) (value : ℤ) → GrantsNothing (record { peer = j; signal = Msg number tag value } ∷ [])
message_first j number tag value xs rest = refl

-- what holds of a result that is Ok, or isn't
pub ok_of : {A E : Type 0} {P : Type 0} (result : Result A E) → is_err result ≡ false → OnOk result P → P
ok_of (Ok x) e p = p
ok_of (Err x) e p = let bad : ⊥ = cc in absurd bad

pub err_of : {A E : Type 0} {P : Type 0} (result : Result A E) → is_err result ≡ true → OnErr result P → P
err_of (Ok x) e p = let bad : ⊥ = cc in absurd bad
err_of (Err x) e p = p

-- the tests as the code makes them
pub in_time_is : (tag g stop last : LogicalTime) (b : Bool) → g ≡ tag → last ≡ stop → b ≡ is_at_most g last → b ≡ true → is_at_most tag stop ≡ true
in_time_is tag g stop last b same is tested so = ap (λ x. is_at_most x stop) (sym same) ∙ (ap (is_at_most g) (sym is) ∙ (sym tested ∙ so))

pub next_in_time_is : (tag stop last : LogicalTime) (b : Bool) → last ≡ stop → b ≡ (is_at_most tag last || is_same tag forever) → b ≡ true → (is_at_most tag stop || is_same tag forever) ≡ true
next_in_time_is tag stop last b is tested so = ap (λ g. is_at_most tag g || is_same tag forever) (sym is) ∙ (sym tested ∙ so)

past_is : (o last : Option LogicalTime) (tag g : LogicalTime) (b : Bool) → last ≡ o → g ≡ tag → b ≡ is_past last g → b ≡ true → is_past o tag ≡ true
past_is o last tag g b is same tested so = ap (λ x. is_past x tag) (sym is) ∙ (ap (is_past last) (sym same) ∙ (sym tested ∙ so))

pub net_passed : (r t u : Records) (i : ℕ) (tag next stop : LogicalTime) (transit completed : Option LogicalTime) (in_time rising : Bool) → AreRecords r → IsSettled r → i < r.wiring.federates →
    stop ≡ r.wiring.stop → in_time ≡ (is_at_most tag stop || is_same tag forever) → in_time ≡ true →
    completed ≡ (federate_record_at r.federate_records i).completed → rising ≡ is_past completed tag → rising ≡ true →
    ((g : LogicalTime) → least_with g (federate_record_at r.federate_records i).transit ≡ lesser_with g transit) → next ≡ lesser_with tag transit →
    t ≡ with_looks (table.with_federate_record r i (record (federate_record_at r.federate_records i) { next = next })) t.looks →
    u ≡ with_looks (table.with_federate_record t i (record (federate_record_at t.federate_records i) { announced = true })) u.looks →
    IsTaken r u i i (Net tag) (noted (federate_record_at r.federate_records) i (after_net (federate_record_at r.federate_records i) tag)) (after_net (federate_record_at r.federate_records i) tag) (after_net (federate_record_at r.federate_records i) tag)
net_passed r t u i tag next stop transit completed in_time rising are settled there stop_is tested so completed_is risen past least next_is one two =
    net_taken r t u i t.looks u.looks tag next are settled there (next_in_time_is tag r.wiring.stop stop in_time stop_is tested so)
    (past_is (federate_record_at r.federate_records i).completed completed tag tag rising completed_is refl risen past) (next_is ∙ sym (least tag)) one two

pub ltc_passed : (r t : Records) (i : ℕ) (tag g h stop : LogicalTime) (completed : Option LogicalTime) (in_time rising : Bool) → AreRecords r → IsSettled r → i < r.wiring.federates →
    g ≡ tag → stop ≡ r.wiring.stop → in_time ≡ is_at_most g stop → in_time ≡ true →
    completed ≡ (federate_record_at r.federate_records i).completed → h ≡ tag → rising ≡ is_past completed h → rising ≡ true →
    t ≡ with_looks (table.with_federate_record r i (record (federate_record_at r.federate_records i) { completed = Some tag })) t.looks →
    IsTaken r t i i (Ltc tag) (noted (federate_record_at r.federate_records) i (after_ltc (federate_record_at r.federate_records i) tag)) (record (federate_record_at r.federate_records i) { completed = Some tag }) (after_ltc (federate_record_at r.federate_records i) tag)
ltc_passed r t i tag g h stop completed in_time rising are settled there g_is stop_is tested so completed_is h_is risen past one =
    ltc_taken r t i t.looks tag are settled there (in_time_is tag g r.wiring.stop stop in_time g_is stop_is tested so)
    (past_is (federate_record_at r.federate_records i).completed completed tag h rising completed_is h_is risen past) one

pub message_passed : (r t : Records) (i j number source : ℕ) (value : ℤ) (tag g h k next least stop : LogicalTime) (granted : Option LogicalTime) (over : Option Connection) (c : Connection) (in_time later : Bool) → AreRecords r → IsSettled r →
    over ≡ slice_get r.wiring.connections number → over ≡ Some c → source ≡ c.source → source ≡ i → j ≡ c.target →
    g ≡ tag → stop ≡ r.wiring.stop → in_time ≡ is_at_most g stop → in_time ≡ true →
    granted ≡ (federate_record_at r.federate_records j).granted → h ≡ tag → later ≡ is_past granted h → later ≡ true →
    next ≡ (federate_record_at r.federate_records j).next → k ≡ tag → least ≡ lesser next k →
    t ≡ with_looks (table.with_federate_record r j (record (federate_record_at r.federate_records j) { next = least })) t.looks →
    IsTaken r t i j (Msg number tag value) (routed (federate_record_at r.federate_records) (Msg number tag value) j tag) (record (federate_record_at r.federate_records j) { next = lesser (federate_record_at r.federate_records j).next tag }) (after_message (federate_record_at r.federate_records j) tag)
message_passed r t i j number source value tag g h k next least stop granted over c in_time later are settled at found source_is own target g_is stop_is tested so granted_is h_is reached past next_is k_is least_is one =
    let same : c.source ≡ i = sym source_is ∙ own in
    let owned : nat_eq c.source i ≡ true = grind (arith, nat_tests) in
    message_taken r t i j t.looks (Msg number tag value) tag least are settled (target_is_there r number j over c are at found target)
    (ap (λ o. route (network_by r.wiring) (federate_record_at r.federate_records) i (Msg number tag value) o tag) (sym at) ∙
    route_takes (network_by r.wiring) (federate_record_at r.federate_records) i j (Msg number tag value) over c tag found target owned
    (in_time_is tag g r.wiring.stop stop in_time g_is stop_is tested so) (past_is (federate_record_at r.federate_records j).granted granted tag h later granted_is h_is reached past))
    (least_is ∙ (ap (λ x. lesser x k) next_is ∙ ap (lesser (federate_record_at r.federate_records j).next) k_is)) one
