-- What a node's call comes to, by its step.
use Rattle.std.proofs.Common.{◌≡◌, ◌≢◌, Bool, true, false, IsTrue, IsErrAnd, if◌then◌else◌, List, [], ◌∷◌, map, Result, Ok, Err, IfOk, MatchResult, refl, sym, ap, subst, ◌∙◌}
use Rattle.signal.specs.Signal.{IsSignal}
use Rattle.signal.specs.declared.signal.Signal.{Signal}
use Rattle.protocol.specs.declared.post.Post.{Post}
use Rattle.protocol.specs.declared.refusal.Refusal.{Refusal}
use Rattle.protocol.specs.Outcome.{Outcome, Refused, Nothing, Done, with_made, IfDone}
use Rattle.protocol.specs.Federate.{Federate, Stepped, federate_accepts, federate_advances}
use Rattle.protocol.specs.KeptAlone.{IsFederate, is_of_turn, may_go_up, completed_by_ltcs}
use Rattle.protocol_laws.proofs.FederateAlone.{accept_leaves, advance_sends}
use Rattle.node.specs.declared.fault.NodeFault.{NodeFault}
use Rattle.node.specs.declared.fault.NodeFault.TheVariants as fault
use Rattle.node.specs.Mail.{Mail, lacks_room, all_posted}
use Rattle.node.specs.Core.{Made, LacksRoom, Moves, ending_of, IsCall, SendsOnly}
use Rattle.plan_network.proofs.LawfulNetwork.{gives_lawful}
use Rattle.node_cores.specs.FederateCore.{FederateNode, network_at, to_coordinator, signals_of, made_by, federate_may_send, advances}
use Rattle.federate.specs.declared.change.Change.{Change}
use Rattle.federate.specs.Change.{changed}
use Rattle.federate.specs.Invariant.{IsNode}

-- done, and this sent
pub done_call : {V : Type 0} (v after : V) (m mail : Mail) (o : Outcome (Made V)) (made : Made V) → o ≡ Done made → after ≡ made.after → mail ≡ all_posted m made.sent →
    lacks_room m.ends made.sent ≡ false → IsCall v after m mail (Ok true) o
done_call v after m mail o made e is sent room =
    let moves : ending_of m (Done made) ≡ Moves made.after (all_posted m made.sent) = rw room refl in
    subst (IsCall v after m mail (Ok true)) (sym e) (record { answers = rw moves refl; node = rw moves is; posts = rw moves sent })

-- there is no room for what would be sent
pub crowded_call : {V : Type 0} (v : V) (m : Mail) (o : Outcome (Made V)) (made : Made V) → o ≡ Done made → lacks_room m.ends made.sent ≡ true →
    IsCall v v m m (Err fault.NoRoom) o
crowded_call v m o made e room =
    let crowded : ending_of m (Done made) ≡ LacksRoom = rw room refl in
    subst (IsCall v v m m (Err fault.NoRoom)) (sym e) (record { answers = rw crowded refl; node = rw crowded refl; posts = rw crowded refl })

-- ---- what a federate sends is in order

signals_back : (xs : List Signal) → signals_of (map to_coordinator xs) ≡ xs
signals_back [] = refl
signals_back (x ∷ xs) = ap (λ rest. x ∷ rest) (signals_back xs)

in_order : (v : FederateNode) (o : Outcome Stepped) → IfDone o (λ made. IsTrue (may_go_up v.federate.completed made.sent)) → SendsOnly (federate_may_send v) (with_made (made_by v) o)
in_order v (Refused r) h = tt
in_order v Nothing h = tt
in_order v (Done made) h = subst (λ xs. IsTrue (may_go_up v.federate.completed xs)) (sym (signals_back made.sent)) h

sent_by_turn : (f : Federate) (o : Outcome Stepped) → IfDone o (λ made. IsTrue (is_of_turn made.sent) × IsTrue (may_go_up f.completed made.sent) × (made.after.completed ≡ completed_by_ltcs f.completed made.sent)) →
    IfDone o (λ made. IsTrue (may_go_up f.completed made.sent))
sent_by_turn f (Refused r) h = tt
sent_by_turn f Nothing h = tt
sent_by_turn f (Done made) h = h.1

pub advance_in_order : (v : FederateNode) → IsNode v → SendsOnly (federate_may_send v) (advances v)
advance_in_order v k =
    let o = federate_advances (network_at v) v.number v.federate in
    in_order v o (sent_by_turn v.federate o (advance_sends (network_at v) v.number v.federate k.alone))

-- ---- a federate stays one

pub changed_alone : (v : FederateNode) (signal : Signal) (change : Change) → IsNode v → IsSignal signal →
    federate_accepts (network_at v) v.number v.federate signal ≡ Done (record { after = changed change v.federate; sent = [] }) →
    IsFederate (network_at v) v.number (changed change v.federate)
changed_alone v signal change k is e =
    subst (λ o. IfDone o (λ made. IsFederate (network_at v) v.number made.after)) e
    (accept_leaves (network_at v) v.number v.federate signal (gives_lawful v.draft v.programs v.inputs k.legal k.programs_fit k.inputs_fit) is k.alone)

-- whether it is admitted or not
pub admitted_alone : (v : FederateNode) (signal : Signal) (r : Result Change Refusal) → IsNode v → IsSignal signal →
    MatchResult r (λ change. federate_accepts (network_at v) v.number v.federate signal ≡ Done (record { after = changed change v.federate; sent = [] }))
    (λ refusal. federate_accepts (network_at v) v.number v.federate signal ≡ Refused refusal) →
    IfOk r (λ change. IsFederate (network_at v) v.number (changed change v.federate))
admitted_alone v signal (Ok change) k is e = changed_alone v signal change k is e
admitted_alone v signal (Err refusal) k is e = tt

pub advances_done : (v : FederateNode) (made : Stepped) → federate_advances (network_at v) v.number v.federate ≡ Done made → advances v ≡ Done (made_by v made)
advances_done v made e = ap (with_made (made_by v)) e

-- ---- where a call to reserve what is sent is refused

told : (r : Result Bool NodeFault) (f : NodeFault) → IsErrAnd r (λ x. x ≡ f) → r ≡ Err f
told (Ok b) f h = absurd h
told (Err x) f h = ap (λ y. Err y) h

lacking : (b : Bool) (f : NodeFault) (x : Result (Unit {0}) NodeFault) → x ≡ Err f → x ≡ (if b then Err fault.NoRoom else Ok tt) → (f ≡ fault.NoRoom) × (b ≡ true)
lacking true f x e a = (cc, refl)
lacking false f x e a = absurd cc

same_fault : (f g : NodeFault) (x y : Result (Unit {0}) NodeFault) → x ≡ Err f → y ≡ Err g → x ≡ y → f ≡ g
same_fault f g x y a b e = cc

pub not_reserved : {V : Type 0} (v w : V) (m mail : Mail) (r : Result Bool NodeFault) (f : NodeFault) (x : Result (Unit {0}) NodeFault) (posts : List Post) (o : Outcome (Made V)) (made : Made V) →
    o ≡ Done made → posts ≡ made.sent → w ≡ v → mail ≡ m → IsErrAnd r (λ x. x ≡ f) → x ≡ Err f →
    (x ≢ Err fault.Memory → x ≡ (if lacks_room m.ends posts then Err fault.NoRoom else Ok tt)) →
    r ≢ Err fault.Memory → IsCall v w m mail r o
not_reserved v w m mail r f x posts o made e sent same kept is x_is answer unless =
    let r_is : r ≡ Err f = told r f is in
    let lacks = lacking (lacks_room m.ends posts) f x x_is
    (answer (λ memory. unless (r_is ∙ ap (λ y. Err y) (same_fault f fault.Memory x (Err fault.Memory) x_is refl memory)))) in
    let room : lacks_room m.ends made.sent ≡ true = ap (lacks_room m.ends) (sym sent) ∙ lacks.1 in
    rw (same, kept, r_is, lacks.0) (crowded_call v m o made e room)
