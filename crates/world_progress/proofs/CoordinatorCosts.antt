-- Whether a TAG may still go out to a federate, after what the coordinator notes of it, and after a TAG.
use Rattle.std.proofs.Common.{◌≡◌, ◌+◌, ◌≤◌, Bool, true, false, IsTrue, refl, ap, arith, Option, None, Some}
use Rattle.std.proofs.lemmas.Bool.Decides.{nat_tests}
use Rattle.tag.specs.LogicalTime.{LogicalTime, is_at_most, is_past, lesser}
use Rattle.tag.proofs.Order.{not_before}
use Rattle.protocol.specs.FederateRecord.{FederateRecord, after_message, after_net, after_grant}
use Rattle.protocol_laws.proofs.Safety.{tag_if}
use Rattle.world_progress.specs.Worth.{worth_down, all_worth, ungranted}
use Rattle.world_progress.proofs.Sums.{where_so}

ungranted_at_most : (b : Bool) → where_so b 2 ≤ 2
ungranted_at_most true = omega arith
ungranted_at_most false = omega arith

ungranted_falls : (b c : Bool) → (b ≡ false → c ≡ false) → where_so c 2 ≤ where_so b 2
ungranted_falls true c h = ungranted_at_most c
ungranted_falls false c h = let same : where_so c 2 ≡ 0 = ap (λ (x : Bool). where_so x 2) (h refl) in omega arith

-- a TAG that goes out is no more than one that might
pub grant_costs : (s : FederateRecord) (o : Option LogicalTime) → ((tag : LogicalTime) → o ≡ Some tag → IsTrue (is_past s.granted s.next) × IsTrue (is_at_most s.next tag)) → ungranted (after_grant s o) + all_worth worth_down (tag_if o) ≤ ungranted s
grant_costs s None h = omega arith
grant_costs s (Some tag) h =
    let is = h tag refl in
    let before : ungranted s ≡ 2 = ap (λ (x : Bool). where_so x 2) is.0 in
    let after : ungranted (after_grant s (Some tag)) ≡ 0 = ap (λ (x : Bool). where_so x 2) (not_before tag s.next is.1) in
    omega arith

-- a NET may call for one more TAG
pub net_costs : (s : FederateRecord) (tag : LogicalTime) → ungranted (after_net s tag) ≤ ungranted s + 2
net_costs s tag = let most = ungranted_at_most (is_past (after_net s tag).granted (after_net s tag).next) in omega arith

-- a message past what was granted calls for none
still_granted : (granted : Option LogicalTime) (next tag : LogicalTime) → is_past granted tag ≡ true → is_past granted next ≡ false → is_past granted (lesser next tag) ≡ false
still_granted None next tag p q = cc
still_granted (Some k) next tag p q = grind (arith, nat_tests)

pub message_costs : (s : FederateRecord) (tag : LogicalTime) → is_past s.granted tag ≡ true → ungranted (after_message s tag) ≤ ungranted s
message_costs s tag past = ungranted_falls (is_past s.granted s.next) (is_past s.granted (lesser s.next tag)) (still_granted s.granted s.next tag past)
