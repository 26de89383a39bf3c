-- Of a network the coordinator goes by its wiring alone.
use Rattle.std.proofs.Common.{◌≡◌, ℕ, zero, suc, ◌+◌, ◌↔◌, List, ◌++◌, refl, ap, ◌∙◌, Option, None, Some}
use Rattle.std.specs.Prelude.{slice_get}
use Rattle.std.proofs.Math.Path.{fun_ext}
use Rattle.tag.specs.LogicalTime.{LogicalTime}
use Rattle.network.specs.Connection.{Connection}
use Rattle.network.specs.Network.{Network}
use Rattle.network.specs.Wiring.{IsWired, wiring_of}
use Rattle.signal.specs.declared.signal.Signal.{Signal}
use Rattle.signal.specs.declared.signal.Signal.TheVariants.{Net, Ltc, Tag, Msg}
use Rattle.protocol.specs.Outcome.{Outcome, with_made}
use Rattle.protocol.specs.FederateRecord.{FederateRecord, after_grant}
use Rattle.protocol.specs.Grant.{Rule, IsEligible}
use Rattle.protocol.specs.declared.post.Post.{Post}
use Rattle.protocol.specs.Coordinator.{Coordinated, route, coordinator_takes, grant_to, grant_post, grants_from, with_grants, coordinator_accepts}

pub wiring_is_wired : (n : Network) → IsWired n → IsWired (wiring_of n)
wiring_is_wired n w = record { stop = w.stop; connections = w.connections }

route_same : (n : Network) (federate_records : ℕ → FederateRecord) (i : ℕ) (signal : Signal) (o : Option Connection) (tag : LogicalTime) → route n federate_records i signal o tag ≡ route (wiring_of n) federate_records i signal o tag
route_same n federate_records i signal None tag = refl
route_same n federate_records i signal (Some c) tag = refl

takes_same : (n : Network) (federate_records : ℕ → FederateRecord) (i : ℕ) (signal : Signal) → coordinator_takes n federate_records i signal ≡ coordinator_takes (wiring_of n) federate_records i signal
takes_same n federate_records i (Net tag) = refl
takes_same n federate_records i (Ltc tag) = refl
takes_same n federate_records i (Tag tag) = refl
takes_same n federate_records i (Msg k tag v) = route_same n federate_records i (Msg k tag v) (slice_get n.connections k) tag

grants_same : (n : Network) (rule : Rule) (federate_records : ℕ → FederateRecord) (j count : ℕ) → grants_from n rule federate_records j count ≡ grants_from (wiring_of n) rule federate_records j count
grants_same n rule federate_records j zero = refl
grants_same n rule federate_records j (suc count) = ap (λ (x : List Post). grant_post j (grant_to n rule federate_records j) ++ x) (grants_same n rule federate_records (j + 1) count)

with_grants_same : (n : Network) (rule : Rule) (made : Coordinated) → with_grants n rule made ≡ with_grants (wiring_of n) rule made
with_grants_same n rule made =
    ap (λ (x : List Post). record { after = λ j. after_grant (made.after j) (grant_to n rule made.after j); sent = made.sent ++ x }) (grants_same n rule made.after 0 n.reactors)

pub accepts_same : (n : Network) (rule : Rule) (federate_records : ℕ → FederateRecord) (i : ℕ) (signal : Signal) → coordinator_accepts n rule federate_records i signal ≡ coordinator_accepts (wiring_of n) rule federate_records i signal
accepts_same n rule federate_records i signal =
    let grants : with_grants n rule ≡ with_grants (wiring_of n) rule = fun_ext (λ made. with_grants_same n rule made) in
    ap (λ (o : Outcome Coordinated). with_made (with_grants n rule) o) (takes_same n federate_records i signal) ∙
    ap (λ (f : Coordinated → Coordinated). with_made f (coordinator_takes (wiring_of n) federate_records i signal)) grants

pub eligible_same : (n : Network) (federate_records : ℕ → FederateRecord) (j : ℕ) → IsEligible n federate_records j ↔ IsEligible (wiring_of n) federate_records j
eligible_same n federate_records j = (
  (λ e. record { announced = e.announced; not_granted = e.not_granted; in_time = e.in_time; safe = e.safe }),
  (λ e. record { announced = e.announced; not_granted = e.not_granted; in_time = e.in_time; safe = e.safe }),
)
