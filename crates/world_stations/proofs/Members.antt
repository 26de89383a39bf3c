-- What a federate does in a world, as a move of the machine of queues; and what one does that forgot all.
use Rattle.std.proofs.Common.{◌≡◌, ℕ, ◌+◌, ◌<◌, true, false, List, [], ◌∷◌, ◌++◌, length, drop, set, slice_get, refl, sym, ap, subst, ◌∙◌, arith, Some, Ok}
use Rattle.std.specs.Prelude.{nat_eq, nat_le}
use Rattle.std.proofs.lemmas.Bool.{eqb-true}
use Rattle.network.specs.Network.{with_one}
use Rattle.signal.specs.declared.signal.Signal.{Signal}
use Rattle.signal.specs.declared.frame.Frame.TheVariants.{Data}
use Rattle.link.specs.declared.arrival.Arrival.TheVariants as arrival
use Rattle.link.specs.Image.{Image, answer_of}
use Rattle.plan.specs.declared.draft.Draft.{Draft}
use Rattle.plan.specs.declared.input.Input.{Input}
use Rattle.plan.specs.Federation.{federate_count}
use Rattle.reactor_program.specs.Behaviour.{Behaviour}
use Rattle.plan_network.specs.Network.{network_of}
use Rattle.protocol.specs.declared.refusal.Refusal.{Refusal}
use Rattle.protocol.specs.Outcome.{Outcome, Refused, Done, with_made}
use Rattle.protocol.specs.Federate.{Stepped, federate_accepts, federate_announces, federate_advances}
use Rattle.protocol.specs.Machine.{Member, Move, ToFederate, with_member, sent_to, stepped, outcome_of}
use Rattle.node.specs.declared.event.Event.{Event}
use Rattle.node.specs.Core.{Made}
use Rattle.node.specs.Step.{Station, step_of}
use Rattle.node_cores.specs.FederateCore as of_federate
use Rattle.node_cores.specs.FederateCore.{FederateNode, federate_core, to_coordinator}
use Rattle.link_laws.specs.Direction.{offered_in}
use Rattle.link_laws.specs.Link.{Link, Act, Gets, Offers, replaced}
use Rattle.link_laws.proofs.Carried.{linked_back}
use Rattle.link_laws.proofs.Taken.{at_place}
use Rattle.link_laws.proofs.Forgotten.{IsOf, AreOf}
use Rattle.link_laws.proofs.Acts.{forgets}
use Rattle.world_stations.specs.World.{after_federate, forgotten}
use Rattle.world_stations.specs.Federation.{Federation}
use Rattle.world_stations.proofs.Course.{acted, taking, Comes, IsHandedOn, IsCourse}
use Rattle.world_stations.proofs.Courses.{place_there, some_of}
use Rattle.world_stations.proofs.Shown.{shown_at_federate, shown_lost, at_own, at_other}
use Rattle.world_stations.proofs.Quiet.{offers_at}
use Rattle.world_stations.proofs.Site.{node_with, IsSite, keeps, loses, kept_linked, in_turn_is, takes_next}
use Rattle.world_stations.proofs.Moves.{done_of, refused_of, rule_of, sent_up, federate_move}
use Rattle.world_stations.proofs.Runs.{IsRun, IsMoved, comes_with, federate_run, same_federate_records, same_lost, spoken_incarnation, kept_does}

-- what is handed on to a federate comes from its one peer, in its turn
pub record IsHanded (l : Link) (place incarnation number : ℕ) (signal : Signal) (q : ℕ) : Type 0 where
  pub peer : q ≡ 0
  pub at : slice_get l.first.sent place ≡ Some (Data incarnation number signal)
  pub in_turn : answer_of l.second.end (Data incarnation number signal) ≡ Ok arrival.Signal

pub handed_at : (w : Federation) (l : Link) (s : Station FederateNode) (e : Event) (place q : ℕ) (o : Outcome (Made FederateNode)) → s.ends ≡ l.second.end ∷ [] → Comes s (λ p. l.first.sent) place e → (h : IsHandedOn federate_core s e q o) → IsHanded l place h.incarnation h.number h.signal q
handed_at w l s e place q o ends comes h =
    let placed = place_there s.ends q h.image h.found in
    let size : length s.ends ≡ 1 = ap length ends in
    let first : q ≡ 0 = omega arith in
    let E : List Image → Type 0 = λ x. slice_get x q ≡ Some h.image in
    let P : ℕ → Type 0 = λ x. slice_get (l.second.end ∷ []) x ≡ Some h.image in
    let same : l.second.end ≡ h.image = some_of l.second.end h.image (subst P first (subst E ends h.found)) in
    let A : Image → Type 0 = λ x. answer_of x (Data h.incarnation h.number h.signal) ≡ Ok arrival.Signal in
    record { peer = first; at = comes_with s (λ p. l.first.sent) place e q (Data h.incarnation h.number h.signal) h.is_event comes; in_turn = subst A (sym same) h.in_turn }

-- no signal is handed on to a federate that forgot all
pub never_handed : (d : Draft) (programs : List Behaviour) (inputs : List Input) (j : ℕ) (l : Link) (m : Member) (v : FederateNode) (place k n : ℕ) (signal : Signal) (q : ℕ) → IsSite d programs inputs j l m v → 1 < l.second.end.incarnation → IsHanded l place k n signal q → ⊥
never_handed d programs inputs j l m v place k n signal q site later h =
    let of = at_place (IsOf 1) l.first.sent place (Data k n signal) site.held.own h.at in
    let own = in_turn_is (nat_eq k l.second.end.incarnation) l.second.end.closed (nat_le n l.second.end.taken) (nat_eq n (l.second.end.taken + 1)) h.in_turn in
    let mine : k ≡ l.second.end.incarnation = eqb-true k l.second.end.incarnation own.0 in
    omega arith

-- its ends, as they stand in the world
pub own_ends : (d : Draft) (programs : List Behaviour) (inputs : List Input) (w : Federation) (links : ℕ → Link) (members : ℕ → Member) (j : ℕ) (s : Station FederateNode) → j < federate_count d → slice_get w.federates j ≡ Some s → IsRun d programs inputs w links members → s.ends ≡ (links j).second.end ∷ []
own_ends d programs inputs w links members j s below there run =
    let at = run.shown.each j below in
    let E : Station FederateNode → Type 0 = λ x. x.ends ≡ (links j).second.end ∷ [] in
    subst E (some_of at.station s (sym at.there ∙ there)) at.second

-- what a kept federate's node does with a signal
pub accepts_as : (d : Draft) (programs : List Behaviour) (inputs : List Input) (j : ℕ) (m : Member) (v : FederateNode) (q : ℕ) (signal : Signal) (o : Outcome (Made FederateNode)) → v ≡ node_with d programs inputs j m.federate → of_federate.accepts v q signal ≡ o → with_made (of_federate.made_by (node_with d programs inputs j m.federate)) (federate_accepts (network_of d programs inputs) j m.federate signal) ≡ o
accepts_as d programs inputs j m v q signal o is e = let P : FederateNode → Type 0 = λ x. of_federate.accepts x q signal ≡ o in subst P is e

pub announces_as : (d : Draft) (programs : List Behaviour) (inputs : List Input) (j : ℕ) (m : Member) (v : FederateNode) (o : Outcome (Made FederateNode)) → v ≡ node_with d programs inputs j m.federate → of_federate.announces v ≡ o → with_made (of_federate.made_by (node_with d programs inputs j m.federate)) (federate_announces m.federate) ≡ o
announces_as d programs inputs j m v o is e = let P : FederateNode → Type 0 = λ x. of_federate.announces x ≡ o in subst P is e

pub advances_as : (d : Draft) (programs : List Behaviour) (inputs : List Input) (j : ℕ) (m : Member) (v : FederateNode) (o : Outcome (Made FederateNode)) → v ≡ node_with d programs inputs j m.federate → of_federate.advances v ≡ o → with_made (of_federate.made_by (node_with d programs inputs j m.federate)) (federate_advances (network_of d programs inputs) j m.federate) ≡ o
advances_as d programs inputs j m v o is e = let P : FederateNode → Type 0 = λ x. of_federate.advances x ≡ o in subst P is e

-- a kept federate takes a signal
pub kept_takes : (d : Draft) (programs : List Behaviour) (inputs : List Input) (w : Federation) (links : ℕ → Link) (members : ℕ → Member) (j : ℕ) (s : Station FederateNode) (e : Event) (place q : ℕ) (m : Made FederateNode) (c : IsCourse federate_core false s e (λ p. (links j).first.sent) place (step_of federate_core false s e))
    → j < federate_count d → slice_get w.federates j ≡ Some s → Comes s (λ p. (links j).first.sent) place e → IsHandedOn federate_core s e q (Done m) → (step_of federate_core false s e).station.node ≡ m.after → c.acts 0 ≡ taking q place 0 (sent_to 0 m.sent)
    → (links j).second.end.incarnation ≡ 1 → (members j).lost ≡ false → s.node ≡ node_with d programs inputs j (members j).federate → (members j).down ≡ drop (links j).second.end.taken (offered_in 1 (links j).first.sent) → AreOf 1 (links j).second.sent → IsRun d programs inputs w links members
    → IsMoved d programs inputs (after_federate w j (step_of federate_core false s e)).world (with_one links j (record { first = (links j).first; second = acted (links j).second (links j).first.sent (c.acts 0) })) members (ToFederate j)
kept_takes d programs inputs w links members j s e place q m c below there comes h node acts is not_lost node_is queue frames run =
    let n = network_of d programs inputs in
    let site = run.site j below s there in
    let l = links j in
    let handed = handed_at w (links j) s e place q (Done m) (own_ends d programs inputs w links members j s below there run) comes h in
    let o = federate_accepts n j (members j).federate h.signal in
    let done = done_of (of_federate.made_by (node_with d programs inputs j (members j).federate)) o m (accepts_as d programs inputs j (members j) s.node q h.signal (Done m) node_is h.node) in
    let made : Stepped = done.0 in
    let sent : sent_to 0 m.sent ≡ made.sent = ap (λ (x : Made FederateNode). sent_to 0 x.sent) done.2 ∙ sent_up made.sent in
    let linked = linked_back 1 (links j).first (links j).second (kept_linked (links j) site.held is) in
    let next = takes_next 1 (links j).second (links j).first place h.incarnation h.number h.signal (sent_to 0 m.sent) linked handed.at handed.in_turn in
    let all : List Act = Gets place true ∷ Offers (sent_to 0 m.sent) ∷ [] in
    let rest : List Signal = drop (acted (links j).second (links j).first.sent (Gets place true ∷ Offers (sent_to 0 m.sent) ∷ [])).end.taken (offered_in 1 (links j).first.sent) in
    let T : ℕ → Type 0 = λ x. c.acts 0 ≡ taking x place 0 (sent_to 0 m.sent) in
    record {
      after = with_member members j (stepped (members j) rest made);
      is_made = federate_move n (rule_of d programs inputs) members j h.signal rest not_lost (queue ∙ next.next) ∙ ap (with_made (λ made. with_member members j (stepped (members j) rest made))) done.1;
      run = kept_does d programs inputs w links members j s e place c (stepped (members j) rest made) made.sent (Gets place true ∷ Offers (sent_to 0 m.sent) ∷ []) below there (subst T handed.peer acts)
          refl not_lost (node ∙ ap (λ (x : Made FederateNode). x.after) done.2) (next.incarnation ∙ is) next.unclosed (tt, (tt, tt)) (next.offered ∙ ap (λ (x : List Signal). offered_in 1 (links j).second.sent ++ x) sent) refl refl is frames run;
      lost = same_lost members j (stepped (members j) rest made) refl;
    }

-- a kept federate says something by itself
pub kept_says : (d : Draft) (programs : List Behaviour) (inputs : List Input) (w : Federation) (links : ℕ → Link) (members : ℕ → Member) (j : ℕ) (s : Station FederateNode) (e : Event) (place : ℕ) (m : Made FederateNode) (made : Stepped) (move : Move) (c : IsCourse federate_core false s e (λ p. (links j).first.sent) place (step_of federate_core false s e))
    → j < federate_count d → slice_get w.federates j ≡ Some s → (step_of federate_core false s e).station.node ≡ m.after → c.acts 0 ≡ Offers (sent_to 0 m.sent) ∷ [] → m ≡ of_federate.made_by (node_with d programs inputs j (members j).federate) made
    → outcome_of (network_of d programs inputs) (rule_of d programs inputs) members move ≡ Done (with_member members j (stepped (members j) (members j).down made))
    → (links j).second.end.incarnation ≡ 1 → (links j).second.end.closed ≡ false → (members j).lost ≡ false → (members j).down ≡ drop (links j).second.end.taken (offered_in 1 (links j).first.sent) → AreOf 1 (links j).second.sent → IsRun d programs inputs w links members
    → IsMoved d programs inputs (after_federate w j (step_of federate_core false s e)).world (with_one links j (record { first = (links j).first; second = acted (links j).second (links j).first.sent (c.acts 0) })) members move
kept_says d programs inputs w links members j s e place m made move c below there node acts m_is moves is opened not_lost queue frames run =
    let site = run.site j below s there in
    let sent : sent_to 0 m.sent ≡ made.sent = ap (λ (x : Made FederateNode). sent_to 0 x.sent) m_is ∙ sent_up made.sent in
    let linked = linked_back 1 (links j).first (links j).second (kept_linked (links j) site.held is) in
    let o = offers_at 1 (links j).second (links j).first (sent_to 0 m.sent) opened linked in
    record {
      after = with_member members j (stepped (members j) (members j).down made);
      is_made = moves;
      run = kept_does d programs inputs w links members j s e place c (stepped (members j) (members j).down made) made.sent (Offers (sent_to 0 m.sent) ∷ []) below there acts
          refl not_lost (node ∙ ap (λ (x : Made FederateNode). x.after) m_is) (spoken_incarnation (links j).second (sent_to 0 m.sent) opened ∙ is) o.0 (tt, tt) (o.3 ∙ ap (λ (x : List Signal). offered_in 1 (links j).second.sent ++ x) sent) refl
          (queue ∙ ap (λ (x : ℕ). drop x (offered_in 1 (links j).first.sent)) (sym o.1)) is frames run;
      lost = same_lost members j (stepped (members j) (members j).down made) refl;
    }

-- a federate does something by which the machine doesn't move
pub unmoved : (d : Draft) (programs : List Behaviour) (inputs : List Input) (w : Federation) (links : ℕ → Link) (members : ℕ → Member) (j : ℕ) (s : Station FederateNode) (e : Event) (place : ℕ) (c : IsCourse federate_core false s e (λ p. (links j).first.sent) place (step_of federate_core false s e))
    → j < federate_count d → slice_get w.federates j ≡ Some s → IsSite d programs inputs j (record { first = (links j).first; second = acted (links j).second (links j).first.sent (c.acts 0) }) (members j) (step_of federate_core false s e).station.node → IsRun d programs inputs w links members
    → IsRun d programs inputs (after_federate w j (step_of federate_core false s e)).world (with_one links j (record { first = (links j).first; second = acted (links j).second (links j).first.sent (c.acts 0) })) members
unmoved d programs inputs w links members j s e place c below there site run =
    let made = step_of federate_core false s e in
    let mine : Link = record { first = (links j).first; second = acted (links j).second (links j).first.sent (c.acts 0) } in
    let L : Link → Type 0 = λ x. IsSite d programs inputs j x (members j) made.station.node in
    federate_run d programs inputs w (after_federate w j made).world links (with_one links j mine) members members j s made.station there refl refl
    (shown_at_federate federate_core w (federate_count d) links j s e place made c there below run.shown)
    (λ k apart. at_other links j k mine apart) (λ k apart. refl) refl (subst L (sym (at_own links j mine)) site) run

-- a federate forgets all
pub forgets_all : (d : Draft) (programs : List Behaviour) (inputs : List Input) (w : Federation) (links : ℕ → Link) (members : ℕ → Member) (j : ℕ) (s : Station FederateNode) → j < federate_count d → slice_get w.federates j ≡ Some s → IsRun d programs inputs w links members
    → IsRun d programs inputs (record w { federates = set w.federates j (forgotten federate_core s) }) (with_one links j (record { first = (links j).first; second = replaced (links j).second })) (with_member members j (record (members j) { lost = true }))
forgets_all d programs inputs w links members j s below there run =
    let site = run.site j below s there in
    let mine : Link = record { first = (links j).first; second = replaced (links j).second } in
    let m : Member = record (members j) { lost = true } in
    let changed : Federation = record w { federates = set w.federates j (forgotten federate_core s) } in
    let late : 0 < (links j).second.end.incarnation = elim site.own [ keeps is opened not_lost node queue mine ↦ omega arith | loses later lost ↦ omega arith ] in
    let L : Link → Type 0 = λ x. IsSite d programs inputs j x (with_member members j m j) (forgotten federate_core s).node in
    let M : Member → Type 0 = λ x. IsSite d programs inputs j mine x (forgotten federate_core s).node in
    federate_run d programs inputs w changed links (with_one links j mine) members (with_member members j m) j s (forgotten federate_core s) there refl refl
    (shown_lost federate_core w (federate_count d) links j s there below run.shown)
    (λ k apart. at_other links j k mine apart) (λ k apart. at_other members j k m apart) (same_federate_records members j m refl)
    (subst L (sym (at_own links j mine))
    (subst M (sym (at_own members j m))
    (record {
      held = forgets 1 (links j) site.held;
      unclosed = site.unclosed;
      ups_calm = site.ups_calm;
      downs_calm = site.downs_calm;
      up = site.up;
      own = loses (omega arith) refl;
    }))) run

-- what a kept federate refuses, the machine refuses
pub kept_refuses : (d : Draft) (programs : List Behaviour) (inputs : List Input) (w : Federation) (links : ℕ → Link) (members : ℕ → Member) (j : ℕ) (s : Station FederateNode) (e : Event) (place q : ℕ) (refusal : Refusal)
    → j < federate_count d → slice_get w.federates j ≡ Some s → Comes s (λ p. (links j).first.sent) place e → IsHandedOn federate_core s e q (Refused refusal)
    → (links j).second.end.incarnation ≡ 1 → (members j).lost ≡ false → s.node ≡ node_with d programs inputs j (members j).federate → (members j).down ≡ drop (links j).second.end.taken (offered_in 1 (links j).first.sent) → IsRun d programs inputs w links members
    → outcome_of (network_of d programs inputs) (rule_of d programs inputs) members (ToFederate j) ≡ Refused refusal
kept_refuses d programs inputs w links members j s e place q refusal below there comes h is not_lost node_is queue run =
    let n = network_of d programs inputs in
    let site = run.site j below s there in
    let handed = handed_at w (links j) s e place q (Refused refusal) (own_ends d programs inputs w links members j s below there run) comes h in
    let o = federate_accepts n j (members j).federate h.signal in
    let refused = refused_of (of_federate.made_by (node_with d programs inputs j (members j).federate)) o refusal (accepts_as d programs inputs j (members j) s.node q h.signal (Refused refusal) node_is h.node) in
    let linked = linked_back 1 (links j).first (links j).second (kept_linked (links j) site.held is) in
    let next = takes_next 1 (links j).second (links j).first place h.incarnation h.number h.signal [] linked handed.at handed.in_turn in
    let rest : List Signal = drop (acted (links j).second (links j).first.sent (Gets place true ∷ Offers [] ∷ [])).end.taken (offered_in 1 (links j).first.sent) in
    federate_move n (rule_of d programs inputs) members j h.signal rest not_lost (queue ∙ next.next) ∙ ap (with_made (λ made. with_member members j (stepped (members j) rest made))) refused
