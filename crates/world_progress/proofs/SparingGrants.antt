-- Both forms of grant are sparing: nothing goes to a federate whose next tag is granted, and never less than its next tag.
use Rattle.std.proofs.Common.{◌≡◌, ℕ, Bool, true, false, IsTrue, refl, subst, Option, None, Some}
use Rattle.std.specs.Prelude.{if◌then◌else◌, ◌||◌, IsSomeAnd}
use Rattle.tag.specs.LogicalTime.{LogicalTime, is_at_most, is_past}
use Rattle.network.specs.Network.{Network}
use Rattle.network.specs.Wiring.{IsWired}
use Rattle.network.specs.Tables.{Table}
use Rattle.protocol.specs.FederateRecord.{FederateRecord}
use Rattle.protocol.specs.Grant.{is_eligible, grant_next, grant_widest, passes_paths, passes_connections}
use Rattle.protocol_laws.proofs.SafeGrants.{eligible_not_granted, next_rule_is_full, widest_rule_is_full}
use Rattle.world_progress.specs.Runs.{IsSparing}

past_of : (n : Network) (table : Table) (federate_records : ℕ → FederateRecord) (j : ℕ) → is_eligible n table federate_records j ≡ true → IsTrue (is_past (federate_records j).granted (federate_records j).next)
past_of n table federate_records j h =
    let s = federate_records j in
    eligible_not_granted s.announced (is_past s.granted s.next) (is_at_most s.next n.stop) (passes_paths n table federate_records j s.next || passes_connections n federate_records j s.next) h

at_least : (next tag : LogicalTime) (o : Option LogicalTime) → o ≡ Some tag → IsSomeAnd o (λ x. IsTrue (is_at_most next x)) → IsTrue (is_at_most next tag)
at_least next tag o e h = let P : Option LogicalTime → Type 0 = λ x. IsSomeAnd x (λ y. IsTrue (is_at_most next y)) in subst P e h

eligible_if : (b : Bool) (x tag : LogicalTime) → (if b then Some x else None) ≡ Some tag → b ≡ true
eligible_if true x tag e = refl
eligible_if false x tag e = cc

pub widest_is_sparing : (n : Network) (table : Table) → IsWired n → IsSparing (grant_widest n table)
widest_is_sparing n table wired federate_records tags j tag e =
    let eligible : is_eligible n table federate_records j ≡ true = eligible_if (is_eligible n table federate_records j) _ tag e in
    (past_of n table federate_records j eligible, at_least (federate_records j).next tag (grant_widest n table federate_records j) e (widest_rule_is_full n table wired federate_records tags j eligible))

pub next_is_sparing : (n : Network) (table : Table) → IsSparing (grant_next n table)
next_is_sparing n table federate_records tags j tag e =
    let eligible : is_eligible n table federate_records j ≡ true = eligible_if (is_eligible n table federate_records j) _ tag e in
    (past_of n table federate_records j eligible, at_least (federate_records j).next tag (grant_next n table federate_records j) e (next_rule_is_full n table federate_records tags j eligible))
