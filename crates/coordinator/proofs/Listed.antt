-- Records as a list: changed at a place, and granted one after the other.
use Rattle.std.proofs.Common.{◌≡◌, ◌≢◌, ℕ, zero, suc, ◌+◌, ◌<◌, ◌≤◌, Bool, true, false, List, ◌∷◌, ◌++◌, length, set, refl, sym, ap, ◌∙◌, arith, inl, inr, Option, None, Some}
use Rattle.std.specs.Prelude.{nat_eq, if◌then◌else◌}
use Rattle.std.proofs.Math.Path.{fun_ext}
use Rattle.std.proofs.Math.ListN.{length-set}
use Rattle.std.proofs.lemmas.Bool.{eqb-true, cases_lt}
use Rattle.std.proofs.lemmas.Bool.Decides.{nat_tests}
use Rattle.std.proofs.lemmas.Grind.{get_or-set_at}
use Rattle.std.proofs.lemmas.List.{append-nil, append_assoc, get_or-set_other, set-get_or}
use Rattle.tag.specs.LogicalTime.{LogicalTime}
use Rattle.network.specs.Network.{Network}
use Rattle.protocol.specs.FederateRecord.{FederateRecord, initial_federate_record, after_grant}
use Rattle.protocol.specs.Grant.{Rule}
use Rattle.protocol.specs.declared.post.Post.{Post}
use Rattle.protocol.specs.Coordinator.{Coordinated, with_federate_record, grant_to, grant_post, grants_from, with_grants}
use Rattle.protocol.specs.FederateRecords.{federate_record_at, federate_records_listed, Listed, listed_after}
use Rattle.protocol_laws.proofs.ListedFederateRecords.{list_read}
use Rattle.coordinator.specs.Sending.{all_granted}

set_at : (xs : List FederateRecord) (i : ℕ) (s : FederateRecord) (j : ℕ) (b : Bool) → nat_eq j i ≡ b → i < length xs → federate_record_at (set xs i s) j ≡ (if b then s else federate_record_at xs j)
set_at xs i s j true e l = get_or-set_at xs i j s initial_federate_record (eqb-true j i e) l
set_at xs i s j false e l =
    let apart : j ≢ i = grind (arith, nat_tests) in
    get_or-set_other xs i j s initial_federate_record apart

-- a list with one record replaced is read so
pub read_set : (xs : List FederateRecord) (i : ℕ) (s : FederateRecord) → i < length xs → federate_record_at (set xs i s) ≡ with_federate_record (federate_record_at xs) i s
read_set xs i s l = fun_ext (λ j. set_at xs i s j (nat_eq j i) refl l)

-- records that agree on those that are listed
pub listed_same : (count : ℕ) (f g : ℕ → FederateRecord) → ((j : ℕ) → j < count → f j ≡ g j) → federate_records_listed count f ≡ federate_records_listed count g
listed_same zero f g same = refl
listed_same (suc count) f g same =
    ap (λ s. s ∷ federate_records_listed count (λ j. f (suc j))) (same 0 (omega arith)) ∙
    ap (λ rest. g 0 ∷ rest) (listed_same count (λ j. f (suc j)) (λ j. g (suc j)) (λ j l. same (suc j) (omega arith)))

granted_once : (xs : List FederateRecord) (j : ℕ) (o : Option LogicalTime) (rest : List Post) → all_granted xs (grant_post j o ++ rest) ≡ all_granted (set xs j (after_grant (federate_record_at xs j) o)) rest
granted_once xs j None rest = ap (λ ys. all_granted ys rest) (sym (set-get_or xs j initial_federate_record))
granted_once xs j (Some tag) rest = refl

pub granted_length : (n : Network) (rule : Rule) (f : ℕ → FederateRecord) (xs : List FederateRecord) (j count : ℕ) → length (all_granted xs (grants_from n rule f j count)) ≡ length xs
granted_length n rule f xs j zero = refl
granted_length n rule f xs j (suc count) =
    let s = after_grant (federate_record_at xs j) (grant_to n rule f j) in
    ap length (granted_once xs j (grant_to n rule f j) (grants_from n rule f (j + 1) count)) ∙ (granted_length n rule f (set xs j s) (j + 1) count ∙ length-set xs j s)

granted_before : (n : Network) (rule : Rule) (f : ℕ → FederateRecord) (xs : List FederateRecord) (j count k : ℕ) → k < j → federate_record_at (all_granted xs (grants_from n rule f j count)) k ≡ federate_record_at xs k
granted_before n rule f xs j zero k l = refl
granted_before n rule f xs j (suc count) k l =
    let s = after_grant (federate_record_at xs j) (grant_to n rule f j) in
    let apart : k ≢ j = omega arith in
    ap (λ ys. federate_record_at ys k) (granted_once xs j (grant_to n rule f j) (grants_from n rule f (j + 1) count)) ∙
    (granted_before n rule f (set xs j s) (j + 1) count k (omega arith) ∙ get_or-set_other xs j k s initial_federate_record apart)

granted_there : (n : Network) (rule : Rule) (f : ℕ → FederateRecord) (xs : List FederateRecord) (j count k : ℕ) → j ≤ k → k < j + count → j + count ≤ length xs → federate_record_at (all_granted xs (grants_from n rule f j count)) k ≡ after_grant (federate_record_at xs k) (grant_to n rule f k)
granted_there n rule f xs j zero k l m within = absurd (omega arith)
granted_there n rule f xs j (suc count) k l m within =
    let s = after_grant (federate_record_at xs j) (grant_to n rule f j) in
    let same : length (set xs j s) ≡ length xs = length-set xs j s in
    ap (λ ys. federate_record_at ys k) (granted_once xs j (grant_to n rule f j) (grants_from n rule f (j + 1) count)) ∙
    elim (cases_lt j k) [
      | inl later ↦
          let apart : k ≢ j = omega arith in
          granted_there n rule f (set xs j s) (j + 1) count k (omega arith) (omega arith) (omega arith) ∙
          ap (λ x. after_grant x (grant_to n rule f k)) (get_or-set_other xs j k s initial_federate_record apart)
      | inr here ↦
          let is : k ≡ j = omega arith in
          granted_before n rule f (set xs j s) (j + 1) count k (omega arith) ∙
          (get_or-set_at xs j k s initial_federate_record is (omega arith) ∙ ap (λ x. after_grant (federate_record_at xs x) (grant_to n rule f x)) (sym is))
    ]

-- after all grants, one after the other, each federate has its own
pub granted_all : (n : Network) (rule : Rule) (xs : List FederateRecord) → length xs ≡ n.reactors → all_granted xs (grants_from n rule (federate_record_at xs) 0 n.reactors) ≡ federate_records_listed n.reactors (λ j. after_grant (federate_record_at xs j) (grant_to n rule (federate_record_at xs) j))
granted_all n rule xs len =
    let ys = all_granted xs (grants_from n rule (federate_record_at xs) 0 n.reactors) in
    let many : length ys ≡ n.reactors = granted_length n rule (federate_record_at xs) xs 0 n.reactors ∙ len in
    sym (list_read ys) ∙
    (ap (λ count. federate_records_listed count (federate_record_at ys)) many ∙
    listed_same n.reactors (federate_record_at ys) (λ j. after_grant (federate_record_at xs j) (grant_to n rule (federate_record_at xs) j))
    (λ j l. granted_there n rule (federate_record_at xs) xs 0 n.reactors j (omega arith) (omega arith) (omega arith)))

-- what a step makes on a list: the grants are those of the list as the signal left it, and all are noted there
pub grants_listed : (n : Network) (rule : Rule) (xs : List FederateRecord) (made : Coordinated) → length xs ≡ n.reactors → made.after ≡ federate_record_at xs →
    listed_after n.reactors (with_grants n rule made) ≡ record { after = all_granted xs (grants_from n rule (federate_record_at xs) 0 n.reactors); sent = made.sent ++ grants_from n rule (federate_record_at xs) 0 n.reactors }
grants_listed n rule xs made len is =
    let F : (ℕ → FederateRecord) → Listed = λ f. record { after = federate_records_listed n.reactors (λ j. after_grant (f j) (grant_to n rule f j)); sent = made.sent ++ grants_from n rule f 0 n.reactors } in
    ap F is ∙
    ap (λ ys. let r : Listed = record { after = ys; sent = made.sent ++ grants_from n rule (federate_record_at xs) 0 n.reactors } in r) (sym (granted_all n rule xs len))

-- one more federate may be granted
pub grants_more : (n : Network) (rule : Rule) (f : ℕ → FederateRecord) (j count : ℕ) → grants_from n rule f j (count + 1) ≡ grants_from n rule f j count ++ grant_post (j + count) (grant_to n rule f (j + count))
grants_more n rule f j zero =
    let here : j + 0 ≡ j = omega arith in
    append-nil (grant_post j (grant_to n rule f j)) ∙ ap (λ k. grant_post k (grant_to n rule f k)) (sym here)
grants_more n rule f j (suc count) =
    let e : suc count + 1 ≡ suc (count + 1) = omega arith in
    let here : (j + 1) + count ≡ j + suc count = omega arith in
    ap (λ k. grants_from n rule f j k) e ∙
    (ap (λ rest. grant_post j (grant_to n rule f j) ++ rest)
    (grants_more n rule f (j + 1) count ∙ ap (λ k. grants_from n rule f (j + 1) count ++ grant_post k (grant_to n rule f k)) here) ∙
    sym (append_assoc (grant_post j (grant_to n rule f j)) (grants_from n rule f (j + 1) count) (grant_post (j + suc count) (grant_to n rule f (j + suc count)))))
