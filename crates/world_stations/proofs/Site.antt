-- One federate's link beside the machine of queues: what was offered and not yet taken of each direction is what the machine's queue holds.
use Rattle.std.proofs.Common.{◌≡◌, ℕ, suc, ◌+◌, ◌-◌, ◌<◌, ◌≤◌, inl, inr, max, Bool, true, false, List, [], ◌∷◌, ◌++◌, length, drop, slice_get, refl, sym, ap, subst, ◌∙◌, arith, Some, Ok, Err, if◌then◌else◌}
use Rattle.std.specs.Prelude.{nat_eq, nat_le}
use Rattle.std.specs.List.{AllByRecursion}
use Rattle.std.proofs.lemmas.Bool.{eqb-true}
use Rattle.std.proofs.lemmas.List.{append-nil, drop-append-le}
use Rattle.signal.specs.declared.signal.Signal.{Signal}
use Rattle.signal.specs.declared.frame.Frame.{Frame}
use Rattle.signal.specs.declared.frame.Frame.TheVariants.{Data}
use Rattle.link.specs.declared.arrival.Arrival.TheVariants as arrival
use Rattle.link.specs.declared.fault.LinkFault.{LinkFault}
use Rattle.link.specs.Image.{answer_of, after_frame, ack_of}
use Rattle.plan.specs.declared.draft.Draft.{Draft}
use Rattle.plan.specs.declared.input.Input.{Input}
use Rattle.reactor_program.specs.Behaviour.{Behaviour}
use Rattle.protocol.specs.Federate.{Federate}
use Rattle.protocol.specs.Machine.{Member}
use Rattle.node_cores.specs.FederateCore.{FederateNode}
use Rattle.link_laws.specs.Direction.{offered_in, IsGenuine}
use Rattle.link_laws.specs.Link.{Side, Link, side_after, Act, Gets, Offers, Resends, Greets, Closes, TurnsAway, offers, takes}
use Rattle.link_laws.proofs.Offers.{offers_open}
use Rattle.link_laws.proofs.Places.{drop_at}
use Rattle.link_laws.proofs.Ways.{offers_same}
use Rattle.link_laws.proofs.Carried.{IsLinked, linked_back}
use Rattle.link_laws.proofs.Taken.{at_place, act_keeps}
use Rattle.link_laws.proofs.Forgotten.{AreOf, act_of, IsBlank, blank_acts, all_old}
use Rattle.link_laws.proofs.Acts.{IsHeld, first_acts, second_acts, first_in_order, second_in_order}
use Rattle.world_stations.proofs.Course.{acted, IsQuiet}
use Rattle.world_stations.proofs.Courses.{gets_frame, is_open}
use Rattle.world_stations.proofs.Quiet.{AreCalm, IsCalmAct, act_calm, quiet_acts, offers_at}

-- federate j as a node
abbrev pub node_with : Draft → List Behaviour → List Input → ℕ → Federate → FederateNode
node_with d programs inputs j f = record { draft = d; programs = programs; inputs = inputs; number = j; federate = f }

-- a federate that kept its state is the machine's; of one that lost it the machine's is lost
pub data Own (d : Draft) (programs : List Behaviour) (inputs : List Input) (j : ℕ) (l : Link) (m : Member) (v : FederateNode) : Type 0 where
  keeps : l.second.end.incarnation ≡ 1 → l.second.end.closed ≡ false → m.lost ≡ false → v ≡ node_with d programs inputs j m.federate → m.down ≡ drop l.second.end.taken (offered_in 1 l.first.sent) → AreOf 1 l.second.sent → Own d programs inputs j l m v
  loses : 1 < l.second.end.incarnation → m.lost ≡ true → Own d programs inputs j l m v

pub record IsSite (d : Draft) (programs : List Behaviour) (inputs : List Input) (j : ℕ) (l : Link) (m : Member) (v : FederateNode) : Type 0 where
  pub held : IsHeld 1 l
  pub unclosed : l.first.end.closed ≡ false
  pub ups_calm : AreCalm 1 l.second.sent
  pub downs_calm : AreCalm 1 l.first.sent
  pub up : m.up ≡ drop l.first.end.taken (offered_in 1 l.second.sent)
  pub own : Own d programs inputs j l m v

-- both sides in the first incarnation
pub kept_linked : (l : Link) → IsHeld 1 l → l.second.end.incarnation ≡ 1 → IsLinked 1 l.first l.second
kept_linked l h is =
    elim h.there [
      | inl same ↦ (let P : Side → Type 0 = λ x. IsLinked 1 l.first x in subst P same h.linked)
      | inr blank ↦ (let later = blank.later in absurd (omega arith))
    ]

pub lost_blank : (l : Link) → IsHeld 1 l → 1 < l.second.end.incarnation → IsBlank 1 l.second
lost_blank l h later =
    elim h.there [
      | inl same ↦ (let there = h.linked.there in let P : Side → Type 0 = λ x. x.end.incarnation ≡ 1 in let one = subst P same there in absurd (omega arith))
      | inr blank ↦ blank
    ]

-- acts keep what both sides hold
pub firsts_held : (l : Link) (acts : List Act) → IsHeld 1 l → IsHeld 1 (record { first = acted l.first l.second.sent acts; second = l.second })
firsts_held l [] h = h
firsts_held l (act ∷ rest) h = firsts_held (record { first = side_after l.first l.second.sent act; second = l.second }) rest (first_acts 1 l act h)

pub seconds_held : (l : Link) (acts : List Act) → IsHeld 1 l → IsHeld 1 (record { first = l.first; second = acted l.second l.first.sent acts })
seconds_held l [] h = h
seconds_held l (act ∷ rest) h = seconds_held (record { first = l.first; second = side_after l.second l.first.sent act }) rest (second_acts 1 l act h)

pub taken_down : (l : Link) → IsHeld 1 l → l.second.end.incarnation ≡ 1 → l.second.end.taken ≤ length (offered_in 1 l.first.sent)
taken_down l h is = let P : ℕ → Type 0 = λ x. l.second.end.taken ≤ length (offered_in x l.first.sent) in subst P is (second_in_order 1 l h).offered

-- the coordinator's side changed
pub with_first : (d : Draft) (programs : List Behaviour) (inputs : List Input) (j : ℕ) (l : Link) (m : Member) (v : FederateNode) (s : Side) (after : Member) (more : List Signal) → IsSite d programs inputs j l m v → IsHeld 1 (record { first = s; second = l.second }) → s.end.closed ≡ false → AreCalm 1 s.sent → offered_in 1 s.sent ≡ offered_in 1 l.first.sent ++ more → after.up ≡ drop s.end.taken (offered_in 1 l.second.sent) → after.down ≡ m.down ++ more → after.lost ≡ m.lost → after.federate ≡ m.federate → IsSite d programs inputs j (record { first = s; second = l.second }) after v
with_first d programs inputs j l m v s after more site held unclosed calm offers up down lost federate =
    record {
      held = held;
      unclosed = unclosed;
      ups_calm = site.ups_calm;
      downs_calm = calm;
      up = up;
      own =
          elim site.own [
            | keeps is opened not_lost node queue mine ↦
                keeps is opened (lost ∙ not_lost) (node ∙ ap (node_with d programs inputs j) (sym federate))
                (down ∙ ap (λ (x : List Signal). x ++ more) queue ∙
                sym (ap (drop l.second.end.taken) offers ∙ drop-append-le l.second.end.taken (offered_in 1 l.first.sent) more (taken_down l site.held is))) mine
            | loses later is_lost ↦ loses later (lost ∙ is_lost)
          ];
    }

-- the federate's side changed
pub with_second : (d : Draft) (programs : List Behaviour) (inputs : List Input) (j : ℕ) (l : Link) (m : Member) (v : FederateNode) (s : Side) (after : Member) (w : FederateNode) (more : List Signal) → IsSite d programs inputs j l m v → IsHeld 1 (record { first = l.first; second = s }) → AreCalm 1 s.sent → offered_in 1 s.sent ≡ offered_in 1 l.second.sent ++ more → after.up ≡ m.up ++ more → Own d programs inputs j (record { first = l.first; second = s }) after w → IsSite d programs inputs j (record { first = l.first; second = s }) after w
with_second d programs inputs j l m v s after w more site held calm offers up own =
    let order = first_in_order 1 l site.held in
    record {
      held = held;
      unclosed = site.unclosed;
      ups_calm = calm;
      downs_calm = site.downs_calm;
      up =
          up ∙ ap (λ (x : List Signal). x ++ more) site.up ∙
          sym (ap (drop l.first.end.taken) offers ∙ drop-append-le l.first.end.taken (offered_in 1 l.second.sent) more order.offered);
      own = own;
    }

-- quiet acts of the coordinator
pub quiet_first : (d : Draft) (programs : List Behaviour) (inputs : List Input) (j : ℕ) (l : Link) (m : Member) (v : FederateNode) (is_coordinator : Bool) (acts : List Act) → AllByRecursion (IsQuiet is_coordinator l.first.end.incarnation) acts → IsSite d programs inputs j l m v → IsSite d programs inputs j (record { first = acted l.first l.second.sent acts; second = l.second }) m v
quiet_first d programs inputs j l m v is_coordinator acts q site =
    let h = site.held in
    let N : ℕ → Type 0 = λ x. AllByRecursion (IsQuiet is_coordinator x) acts in
    let C : List Frame → Type 0 = λ x. AreCalm 1 x in
    let quiet = quiet_acts is_coordinator 1 l.first h.gone acts (subst N h.linked.here q) (subst C (sym h.sent) site.ups_calm) h.linked in
    let S : List Frame → Type 0 = λ x. IsSite d programs inputs j (record { first = acted l.first x acts; second = l.second }) m v in
    let H : List Frame → Type 0 = λ x. IsHeld 1 (record { first = acted l.first x acts; second = l.second }) in
    subst S h.sent
    (with_first d programs inputs j l m v (acted l.first h.gone.sent acts) m [] site (subst H (sym h.sent) (firsts_held l acts h)) (quiet.stays.closed ∙ site.unclosed)
    (quiet.calm site.downs_calm) (quiet.stays.offered ∙ sym (append-nil (offered_in 1 l.first.sent)))
    (site.up ∙ ap (λ (x : ℕ). drop x (offered_in 1 l.second.sent)) (sym quiet.nothing.taken)) (sym (append-nil m.down)) refl refl)

-- a blank side stays blank, whatever is done at it, and offers nothing in the first incarnation
pub blank_acted : (s : Side) (coming : List Frame) (acts : List Act) → AreOf 1 coming → IsBlank 1 s → IsBlank 1 (acted s coming acts) × (offered_in 1 (acted s coming acts).sent ≡ offered_in 1 s.sent)
blank_acted s coming [] of b = (b, refl)
blank_acted s coming (act ∷ rest) of b =
    let first = blank_acts 1 s coming act of b in
    let more = blank_acted (side_after s coming act) coming rest of first.blank in
    (more.0, more.1 ∙ ap (offered_in 1) first.sent ∙ offers_same 1 s.sent first.more (all_old 1 (length (offered_in 1 s.sent)) first.more first.foreign))

-- acts that send nothing that closes the first incarnation
pub calm_acted : (s : Side) (coming : List Frame) (acts : List Act) → AllByRecursion (IsCalmAct 1) acts → AreCalm 1 s.sent → AreCalm 1 (acted s coming acts).sent
calm_acted s coming [] c h = h
calm_acted s coming (act ∷ rest) c h = calm_acted (side_after s coming act) coming rest c.1 (act_calm 1 s coming act c.0 h)

federate_quiet_calm : (i : ℕ) (acts : List Act) → AllByRecursion (IsQuiet false i) acts → AllByRecursion (IsCalmAct 1) acts
federate_quiet_calm i [] q = tt
federate_quiet_calm i (Gets place is_taken ∷ rest) q = (tt, federate_quiet_calm i rest q.1)
federate_quiet_calm i (Offers signals ∷ rest) q = absurd q.0
federate_quiet_calm i (Resends ∷ rest) q = (tt, federate_quiet_calm i rest q.1)
federate_quiet_calm i (Greets ∷ rest) q = (tt, federate_quiet_calm i rest q.1)
federate_quiet_calm i (Closes number ∷ rest) q = absurd q.0
federate_quiet_calm i (TurnsAway k number ∷ rest) q = let never = q.0.0 in cc

-- a lost federate does something
pub lost_second : (d : Draft) (programs : List Behaviour) (inputs : List Input) (j : ℕ) (l : Link) (m : Member) (v w : FederateNode) (acts : List Act) → AllByRecursion (IsCalmAct 1) acts → 1 < l.second.end.incarnation → m.lost ≡ true → IsSite d programs inputs j l m v → IsSite d programs inputs j (record { first = l.first; second = acted l.second l.first.sent acts }) m w
lost_second d programs inputs j l m v w acts calm later lost site =
    let blank = blank_acted l.second l.first.sent acts site.held.own (lost_blank l site.held later) in
    with_second d programs inputs j l m v (acted l.second l.first.sent acts) m w [] site (seconds_held l acts site.held)
    (calm_acted l.second l.first.sent acts calm site.ups_calm) (blank.1 ∙ sym (append-nil (offered_in 1 l.second.sent))) (sym (append-nil m.up))
    (loses blank.0.later lost)

-- a side of the first incarnation sends frames of it
pub acts_of : (s r : Side) (acts : List Act) → IsLinked 1 s r → AreOf 1 s.sent → AreOf 1 (acted s r.sent acts).sent
acts_of s r [] l h = h
acts_of s r (act ∷ rest) l h = acts_of (side_after s r.sent act) r rest (act_keeps 1 s r act l) (act_of 1 s r.sent act l.here h)

-- quiet acts of the federate
pub quiet_second : (d : Draft) (programs : List Behaviour) (inputs : List Input) (j : ℕ) (l : Link) (m : Member) (v : FederateNode) (acts : List Act) → AllByRecursion (IsQuiet false l.second.end.incarnation) acts → IsSite d programs inputs j l m v → IsSite d programs inputs j (record { first = l.first; second = acted l.second l.first.sent acts }) m v
quiet_second d programs inputs j l m v acts q site =
    elim site.own [
      | keeps is opened not_lost node queue mine ↦
          let linked = linked_back 1 l.first l.second (kept_linked l site.held is) in
          let N : ℕ → Type 0 = λ x. AllByRecursion (IsQuiet false x) acts in
          let quiet = quiet_acts false 1 l.second l.first acts (subst N is q) site.downs_calm linked in
          with_second d programs inputs j l m v (acted l.second l.first.sent acts) m v [] site (seconds_held l acts site.held)
          (quiet.calm site.ups_calm) (quiet.stays.offered ∙ sym (append-nil (offered_in 1 l.second.sent))) (sym (append-nil m.up))
          (keeps (quiet.nothing.incarnation ∙ is) (quiet.stays.closed ∙ opened) not_lost node (queue ∙ ap (λ (x : ℕ). drop x (offered_in 1 l.first.sent)) (sym quiet.nothing.taken)) (acts_of l.second l.first acts linked mine))
      | loses later lost ↦ lost_second d programs inputs j l m v v acts (federate_quiet_calm l.second.end.incarnation acts q) later lost site
    ]

-- a signal in its turn is the next one that the other side offered
pub in_turn_is : (own closed le eq : Bool) → (if own then (if closed then Err LinkFault.Closed else if le then Ok arrival.Repeated else if eq then Ok arrival.Signal else Err LinkFault.Gap) else Err LinkFault.Stranger) ≡ Ok arrival.Signal → (own ≡ true) × (eq ≡ true)
in_turn_is true false false true is = (refl, refl)
in_turn_is true false false false is = cc
in_turn_is true false true eq is = cc
in_turn_is true true le eq is = cc
in_turn_is false closed le eq is = cc

pub record TakesNext (i : ℕ) (s : Side) (coming : List Frame) (after : Side) (signal : Signal) (signals : List Signal) : Type 0 where
  pub next : drop s.end.taken (offered_in i coming) ≡ signal ∷ drop after.end.taken (offered_in i coming)
  pub rises : after.end.taken ≡ suc s.end.taken
  pub took : after.took ≡ s.took ++ signal ∷ []
  pub unclosed : after.end.closed ≡ false
  pub offered : offered_in i after.sent ≡ offered_in i s.sent ++ signals
  pub incarnation : after.end.incarnation ≡ s.end.incarnation

pub takes_next : (i : ℕ) (s r : Side) (place k n : ℕ) (signal : Signal) (signals : List Signal) → IsLinked i s r → slice_get r.sent place ≡ Some (Data k n signal) → answer_of s.end (Data k n signal) ≡ Ok arrival.Signal → TakesNext i s r.sent (acted s r.sent (Gets place true ∷ Offers signals ∷ [])) signal signals
takes_next i s r place k n signal signals l at is =
    let own = in_turn_is (nat_eq k s.end.incarnation) s.end.closed (nat_le n s.end.taken) (nat_eq n (s.end.taken + 1)) is in
    let mine : k ≡ i = eqb-true k s.end.incarnation own.0 ∙ l.here in
    let number : n ≡ s.end.taken + 1 = eqb-true n (s.end.taken + 1) own.1 in
    let genuine = at_place (IsGenuine i (offered_in i r.sent) r.end.taken) r.sent place (Data k n signal) l.back.genuine at in
    let there = genuine mine in
    let place_of : n - 1 ≡ s.end.taken = omega arith in
    let P : ℕ → Type 0 = λ x. slice_get (offered_in i r.sent) x ≡ Some signal in
    let stands = subst P place_of there.1 in
    let opened : s.end.closed ≡ false = is_open s.end (Data k n signal) arrival.Signal is in
    let heard : side_after s r.sent (Gets place true) ≡ takes s (Data k n signal) signal = gets_frame s r.sent place true (Data k n signal) (Ok arrival.Signal) at is in
    let L : Side → Type 0 = λ x. IsLinked i x r in
    let linked : IsLinked i (takes s (Data k n signal) signal) r = subst L heard (act_keeps i s r (Gets place true) l) in
    let o = offers_at i (takes s (Data k n signal) signal) r signals opened linked in
    let up : max s.end.taken n ≡ suc s.end.taken = omega arith in
    let G : Side → Type 0 = λ x. TakesNext i s r.sent (offers x signals) signal signals in
    let taken : (offers (takes s (Data k n signal) signal) signals).end.taken ≡ suc s.end.taken = o.1 ∙ up in
    subst G (sym heard)
    (record {
      next = drop_at (offered_in i r.sent) s.end.taken signal stands ∙ ap (λ (x : ℕ). signal ∷ drop x (offered_in i r.sent)) (sym taken);
      rises = taken;
      took = o.2;
      unclosed = o.0;
      offered = o.3 ∙ ap (λ (x : List Signal). x ++ signals) (offers_same i s.sent (ack_of (after_frame s.end (Data k n signal)) ∷ []) (refl, tt));
      incarnation = ap (λ (x : Side). x.end.incarnation) (offers_open (takes s (Data k n signal) signal) signals opened);
    })
