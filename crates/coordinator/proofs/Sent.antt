-- TAGs to one federate more, and posts noted one after the other.
use Rattle.std.proofs.Common.{◌≡◌, ℕ, zero, suc, ◌+◌, ◌<◌, ◌≤◌, All, Bool, true, false, List, [], ◌∷◌, ◌++◌, take, refl, sym, ap, ◌∙◌, arith, Option, None, Some}
use Rattle.std.specs.Prelude.{nat_lt, if◌then◌else◌}
use Rattle.std.proofs.lemmas.Bool.Decides.{nat_tests}
use Rattle.std.proofs.lemmas.List.{append-nil, append_assoc}
use Rattle.tag.specs.LogicalTime.{LogicalTime, lesser, predecessor_of}
use Rattle.network.specs.Network.{Network}
use Rattle.signal.specs.declared.signal.Signal.{Signal}
use Rattle.signal.specs.declared.signal.Signal.TheVariants.{Net, Ltc, Tag, Msg}
use Rattle.protocol.specs.declared.post.Post.{Post}
use Rattle.protocol.specs.FederateRecord.{FederateRecord}
use Rattle.protocol.specs.FederateRecords.{federate_record_at}
use Rattle.protocol.specs.Grant.{Rule, bound_of}
use Rattle.protocol.specs.Coordinator.{grant_to, grant_post, grants_over}
use Rattle.network_laws.proofs.Lists.{each_append, from_each}
use Rattle.std.specs.List.{AllByRecursion}
use Rattle.grants.specs.Wiring.{Wiring, network_by, least_by}
use Rattle.grants.specs.Routes.{listed_below, may_change, affected_by}
use Rattle.grants.specs.Records.{Records, is_eligible_in, with_looks, with_federate_record}
use Rattle.coordinator.specs.Sending.{rule_by, grants_in, granted_with, all_granted}

pub over_append : (n : Network) (rule : Rule) (f : ℕ → FederateRecord) (xs ys : List ℕ) → grants_over n rule f (xs ++ ys) ≡ grants_over n rule f xs ++ grants_over n rule f ys
over_append n rule f [] ys = refl
over_append n rule f (x ∷ xs) ys =
    ap (λ rest. grant_post x (grant_to n rule f x) ++ rest) (over_append n rule f xs ys) ∙
    sym (append_assoc (grant_post x (grant_to n rule f x)) (grants_over n rule f xs) (grants_over n rule f ys))

-- one federate more
pub over_push : (n : Network) (rule : Rule) (f : ℕ → FederateRecord) (xs : List ℕ) (j : ℕ) → grants_over n rule f (xs ++ j ∷ []) ≡ grants_over n rule f xs ++ grant_post j (grant_to n rule f j)
over_push n rule f xs j =
    over_append n rule f xs (j ∷ []) ∙ ap (λ rest. grants_over n rule f xs ++ rest) (append-nil (grant_post j (grant_to n rule f j)))

-- one post more
pub granted_push : (federate_records : List FederateRecord) (posts : List Post) (post : Post) → all_granted federate_records (posts ++ post ∷ []) ≡ granted_with (all_granted federate_records posts) post.peer post.signal
granted_push federate_records [] post = refl
granted_push federate_records (first ∷ rest) post = granted_push (granted_with federate_records first.peer first.signal) rest post

-- no other signal than a TAG grants anything
granted_by_no_tag : (federate_records : List FederateRecord) (j : ℕ) (signal : Signal) → ((tag : LogicalTime) → signal ≡ Tag tag → ⊥) → granted_with federate_records j signal ≡ federate_records
granted_by_no_tag federate_records j (Net tag) other = refl
granted_by_no_tag federate_records j (Ltc tag) other = refl
granted_by_no_tag federate_records j (Tag tag) other = absurd (other tag refl)
granted_by_no_tag federate_records j (Msg connection tag value) other = refl

pub noted_tag : (first : List FederateRecord) (t after : Records) (posts : List Post) (k looks : ℕ) (post : Post) (tag : LogicalTime) → t.federate_records ≡ all_granted first (take k posts) → take (k + 1) posts ≡ take k posts ++ post ∷ [] →
    post.signal ≡ Tag tag → after ≡ with_looks (with_federate_record t post.peer (record (federate_record_at t.federate_records post.peer) { granted = Some tag })) looks → after.federate_records ≡ all_granted first (take (k + 1) posts)
noted_tag first t after posts k looks post tag so more is_tag is =
    ap (λ r. r.federate_records) is ∙
    (ap (granted_with t.federate_records post.peer) (sym is_tag) ∙
    (ap (λ s. granted_with s post.peer post.signal) so ∙ (sym (granted_push first (take k posts) post) ∙ ap (all_granted first) (sym more))))

pub noted_other : (first : List FederateRecord) (t : Records) (posts : List Post) (k : ℕ) (post : Post) → t.federate_records ≡ all_granted first (take k posts) → take (k + 1) posts ≡ take k posts ++ post ∷ [] →
    ((tag : LogicalTime) → post.signal ≡ Tag tag → ⊥) → t.federate_records ≡ all_granted first (take (k + 1) posts)
noted_other first t posts k post so more other =
    sym (granted_by_no_tag t.federate_records post.peer post.signal other) ∙
    (ap (λ s. granted_with s post.peer post.signal) so ∙ (sym (granted_push first (take k posts) post) ∙ ap (all_granted first) (sym more)))

none_if : (b : Bool) (o : Option LogicalTime) → o ≡ None → (if b then o else None) ≡ None
none_if true o is = is
none_if false o is = refl

-- who isn't eligible gets nothing
pub no_grant : (r : Records) (j : ℕ) → is_eligible_in r j ≡ false → grant_to (network_by r.wiring) (rule_by r.wiring) (federate_record_at r.federate_records) j ≡ None
no_grant r j not_so =
    none_if (nat_lt j r.wiring.federates) (rule_by r.wiring (federate_record_at r.federate_records) j)
    (ap (λ b. if b then Some (lesser (predecessor_of (bound_of (network_by r.wiring) (least_by r.wiring) (federate_record_at r.federate_records) j)) r.wiring.stop) else None) not_so)

-- where nobody is eligible, nobody is granted
none_granted : (r : Records) (federates : List ℕ) → ((j : ℕ) → j < r.wiring.federates → is_eligible_in r j ≡ false) →
    All (λ j. j < r.wiring.federates) federates → grants_in r federates ≡ []
none_granted r [] nobody there = refl
none_granted r (j ∷ rest) nobody there =
    ap (λ o. grant_post j o ++ grants_in r rest) (no_grant r j (nobody j (there 0 0 (omega arith)))) ∙ none_granted r rest nobody (λ k d l. there (suc k) d (omega arith))

pub nothing_pushed : (r : Records) (posts : List Post) (federates : List ℕ) → ((j : ℕ) → j < r.wiring.federates → is_eligible_in r j ≡ false) →
    All (λ j. j < r.wiring.federates) federates → posts ≡ posts ++ grants_in r federates
nothing_pushed r posts federates nobody there =
    sym (ap (λ xs. posts ++ xs) (none_granted r federates nobody there) ∙ append-nil posts)

pub one_grant : (r : Records) (j : ℕ) (tag : LogicalTime) → j < r.wiring.federates → rule_by r.wiring (federate_record_at r.federate_records) j ≡ Some tag →
    grant_to (network_by r.wiring) (rule_by r.wiring) (federate_record_at r.federate_records) j ≡ Some tag
one_grant r j tag l is =
    let e : nat_lt j r.wiring.federates ≡ true = grind (arith, nat_tests) in
    ap (λ (b : Bool). if b then rule_by r.wiring (federate_record_at r.federate_records) j else None) e ∙ is

pub pushed : (r : Records) (first now after : List Post) (federates : List ℕ) (k j : ℕ) (o : Option LogicalTime) → now ≡ first ++ grants_in r (take k federates) → take (k + 1) federates ≡ take k federates ++ j ∷ [] →
    grant_to (network_by r.wiring) (rule_by r.wiring) (federate_record_at r.federate_records) j ≡ o → after ≡ now ++ grant_post j o → after ≡ first ++ grants_in r (take (k + 1) federates)
pushed r first now after federates k j o so more is put =
    put ∙ (ap (λ xs. xs ++ grant_post j o) so ∙ (append_assoc first (grants_in r (take k federates)) (grant_post j o) ∙
    ap (λ xs. first ++ xs) (ap (λ x. grants_in r (take k federates) ++ grant_post j x) (sym is) ∙
    (sym (over_push (network_by r.wiring) (rule_by r.wiring) (federate_record_at r.federate_records) (take k federates) j) ∙ ap (grants_in r) (sym more)))))

below_each : (count most : ℕ) (test : ℕ → Bool) → count ≤ most → AllByRecursion (λ j. j < most) (listed_below count test)
below_each zero most test l = tt
below_each (suc count) most test l =
    each_append (λ j. j < most) (listed_below count test) (if test count then count ∷ [] else []) (below_each count most test (omega arith)) (one_below (test count))
  where
    one_below : (b : Bool) → AllByRecursion (λ j. j < most) (if b then count ∷ [] else [])
    one_below true = (omega arith, tt)
    one_below false = tt

-- whom a change may make eligible is there
pub affected_are_there : (w : Wiring) (i : ℕ) → All (λ j. j < w.federates) (affected_by w i)
affected_are_there w i = from_each (λ j. j < w.federates) (affected_by w i) (below_each w.federates w.federates (may_change w i) (omega arith))
