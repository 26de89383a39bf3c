-- A world beside a run of the machine of queues: each step of the world is one move, or none.
use Rattle.std.proofs.Common.{◌≡◌, ◌≢◌, ℕ, ◌<◌, inl, inr, Bool, true, false, List, [], ◌∷◌, ◌++◌, length, drop, set, slice_get, refl, sym, ap, subst, ◌∙◌, arith, Some, Ok, if◌then◌else◌}
use Rattle.std.specs.Prelude.{nat_eq}
use Rattle.std.specs.List.{AllByRecursion}
use Rattle.network.specs.Network.{with_one}
use Rattle.network.specs.Wiring.{IsWired}
use Rattle.signal.specs.declared.signal.Signal.{Signal}
use Rattle.signal.specs.declared.frame.Frame.{Frame}
use Rattle.signal.specs.declared.frame.Frame.TheVariants.{Data}
use Rattle.link.specs.declared.arrival.Arrival.TheVariants as arrival
use Rattle.link.specs.Image.{Image, answer_of}
use Rattle.plan.specs.declared.draft.Draft.{Draft}
use Rattle.plan.specs.declared.input.Input.{Input}
use Rattle.plan.specs.Federation.{federate_count}
use Rattle.reactor_program.specs.Behaviour.{Behaviour}
use Rattle.plan_network.specs.Network.{network_of}
use Rattle.protocol.specs.declared.refusal.Refusal.{Refusal}
use Rattle.protocol.specs.Outcome.{Outcome, Refused, Done, with_made, IfDone}
use Rattle.protocol.specs.FederateRecord.{FederateRecord}
use Rattle.protocol.specs.FederateRecords.{federate_record_at, federate_records_listed}
use Rattle.protocol.specs.Coordinator.{Coordinated, coordinator_accepts}
use Rattle.protocol.specs.Machine.{Member, Move, ToCoordinator, with_member, federate_records_of, sent_to, coordinated, outcome_of}
use Rattle.protocol_laws.proofs.ListedFederateRecords.{accepts_listed, listed_length}
use Rattle.node.specs.declared.event.Event.{Event}
use Rattle.node.specs.declared.event.Event.TheVariants as event
use Rattle.node.specs.Core.{Made}
use Rattle.node.specs.Step.{Station, step_of}
use Rattle.node_cores.specs.FederateCore.{FederateNode, federate_core}
use Rattle.node_cores.specs.CoordinatorCore.{CoordinatorNode, coordinator_core}
use Rattle.link_laws.specs.Direction.{offered_in}
use Rattle.link_laws.specs.Link.{Side, Link, Act, Gets, Offers, offers}
use Rattle.world_stations.specs.World.{after_coordinator, after_federate}
use Rattle.world_stations.specs.Federation.{Federation}
use Rattle.world_stations.proofs.Course.{acted, IsQuiet, taking, Comes, IsHandedOn, IsCourse}
use Rattle.world_stations.proofs.Courses.{place_there, some_of}
use Rattle.world_stations.proofs.Shown.{IsShown, ups_of, with_firsts, shown_at_coordinator, shown_at_federate, at_own, at_other, same_or_not}
use Rattle.world_stations.proofs.Quiet.{IsCalmAct, offers_at}
use Rattle.link_laws.proofs.Offers.{offers_open}
use Rattle.protocol_laws.proofs.Safety.{federate_record_stays}
use Rattle.network.proofs.Items.{get_set_here, get_set_other}
use Rattle.std.proofs.Math.Path.{fun_ext}
use Rattle.std.proofs.lemmas.Bool.{eqb-true, eqb-false}
use Rattle.world_stations.proofs.Site.{node_with, IsSite, keeps, with_first, with_second, quiet_first, firsts_held, seconds_held, calm_acted, TakesNext, takes_next, acts_of, kept_linked}
use Rattle.link_laws.proofs.Carried.{linked_back}
use Rattle.link_laws.proofs.Forgotten.{AreOf}
use Rattle.world_stations.proofs.Moves.{done_of, refused_of, rule_of, coordinator_makes, coordinator_accepts_listed, coordinator_move}

pub record IsRun (d : Draft) (programs : List Behaviour) (inputs : List Input) (w : Federation) (links : ℕ → Link) (members : ℕ → Member) : Type 0 where
  pub shown : IsShown w (federate_count d) links
  pub draft : w.coordinator.node.draft ≡ d
  pub size : length w.coordinator.node.federate_records ≡ federate_count d
  pub federate_records : federate_record_at w.coordinator.node.federate_records ≡ federate_records_of members
  pub site : (j : ℕ) → j < federate_count d → (s : Station FederateNode) → slice_get w.federates j ≡ Some s → IsSite d programs inputs j (links j) (members j) s.node

-- the frame that comes
pub comes_with : {View : Type 0} (s : Station View) (came : ℕ → List Frame) (place : ℕ) (e : Event) (q : ℕ) (frame : Frame) → e ≡ event.Frame q frame → Comes s came place e → slice_get (came q) place ≡ Some frame
comes_with s came place e q frame is comes = let P : Event → Type 0 = λ x. Comes s came place x in (subst P is comes).0

-- quiet acts of the coordinator
pub quiet_coordinator : (d : Draft) (programs : List Behaviour) (inputs : List Input) (w : Federation) (links : ℕ → Link) (members : ℕ → Member) (e : Event) (place : ℕ) (c : IsCourse coordinator_core true w.coordinator e (ups_of links) place (step_of coordinator_core true w.coordinator e))
    → (step_of coordinator_core true w.coordinator e).station.node ≡ w.coordinator.node → ((p : ℕ) (i : Image) → slice_get w.coordinator.ends p ≡ Some i → AllByRecursion (IsQuiet true i.incarnation) (c.acts p)) → IsRun d programs inputs w links members
    → IsRun d programs inputs (after_coordinator w (step_of coordinator_core true w.coordinator e)).world (with_firsts links (λ p. acted (links p).first (ups_of links p) (c.acts p))) members
quiet_coordinator d programs inputs w links members e place c node quiet run =
    let made = step_of coordinator_core true w.coordinator e in
    record {
      shown = shown_at_coordinator coordinator_core w (federate_count d) links e place made c run.shown;
      draft = ap (λ (v : CoordinatorNode). v.draft) node ∙ run.draft;
      size = ap (λ (v : CoordinatorNode). length v.federate_records) node ∙ run.size;
      federate_records = ap (λ (v : CoordinatorNode). federate_record_at v.federate_records) node ∙ run.federate_records;
      site = λ j l s there. quiet_first d programs inputs j (links j) (members j) s.node true (c.acts j) (quiet j (links j).first.end (run.shown.each j l).first) (run.site j l s there);
    }

-- the members where one's queue is shorter
up_left : (members : ℕ → Member) (q : ℕ) (rest : List Signal) (j : ℕ) → ((with_member members q (record (members q) { up = rest }) j).down ≡ (members j).down) × ((with_member members q (record (members q) { up = rest }) j).lost ≡ (members j).lost) × ((with_member members q (record (members q) { up = rest }) j).federate ≡ (members j).federate)
up_left members q rest j =
    elim (same_or_not q j) [
      | inl here ↦
          let P : ℕ → Type 0 = λ x. ((with_member members q (record (members q) { up = rest }) x).down ≡ (members x).down) × ((with_member members q (record (members q) { up = rest }) x).lost ≡ (members x).lost) × ((with_member members q (record (members q) { up = rest }) x).federate ≡ (members x).federate) in
          let own = at_own members q (record (members q) { up = rest }) in
          subst P (sym here) (ap (λ (m : Member). m.down) own, ap (λ (m : Member). m.lost) own, ap (λ (m : Member). m.federate) own)
      | inr apart ↦
          let other = at_other members q j (record (members q) { up = rest }) apart in
          (ap (λ (m : Member). m.down) other, ap (λ (m : Member). m.lost) other, ap (λ (m : Member). m.federate) other)
    ]

-- what the coordinator takes is the next signal of the queue
pub next_of : (d : Draft) (programs : List Behaviour) (inputs : List Input) (j : ℕ) (l : Link) (m : Member) (v : FederateNode) (place k n : ℕ) (signal : Signal) (signals : List Signal) → IsSite d programs inputs j l m v → slice_get l.second.sent place ≡ Some (Data k n signal) → answer_of l.first.end (Data k n signal) ≡ Ok arrival.Signal
    → TakesNext 1 l.first l.second.sent (acted l.first l.second.sent (Gets place true ∷ Offers signals ∷ [])) signal signals
next_of d programs inputs j l m v place k n signal signals site at is =
    let h = site.held in
    let P : List Frame → Type 0 = λ x. slice_get x place ≡ Some (Data k n signal) in
    let Q : List Frame → Type 0 = λ x. TakesNext 1 l.first x (acted l.first x (Gets place true ∷ Offers signals ∷ [])) signal signals in
    subst Q h.sent (takes_next 1 l.first h.gone place k n signal signals h.linked (subst P (sym h.sent) at) is)

-- the coordinator takes the next signal of federate q: that federate's link
taken_site : (d : Draft) (programs : List Behaviour) (inputs : List Input) (j : ℕ) (l : Link) (m after : Member) (v : FederateNode) (place k n : ℕ) (signal : Signal) (signals : List Signal) → IsSite d programs inputs j l m v → slice_get l.second.sent place ≡ Some (Data k n signal) → answer_of l.first.end (Data k n signal) ≡ Ok arrival.Signal
    → after.up ≡ drop (acted l.first l.second.sent (Gets place true ∷ Offers signals ∷ [])).end.taken (offered_in 1 l.second.sent) → after.down ≡ m.down ++ signals → after.lost ≡ m.lost → after.federate ≡ m.federate
    → IsSite d programs inputs j (record { first = acted l.first l.second.sent (Gets place true ∷ Offers signals ∷ []); second = l.second }) after v
taken_site d programs inputs j l m after v place k n signal signals site at is up down lost federate =
    let acts = Gets place true ∷ Offers signals ∷ [] in
    let next = next_of d programs inputs j l m v place k n signal signals site at is in
    with_first d programs inputs j l m v (acted l.first l.second.sent (Gets place true ∷ Offers signals ∷ [])) after signals site
    (firsts_held l (Gets place true ∷ Offers signals ∷ []) site.held) next.unclosed
    (calm_acted l.first l.second.sent (Gets place true ∷ Offers signals ∷ []) (tt, (tt, tt)) site.downs_calm) next.offered up down lost federate

-- the coordinator offers signals to federate j
offered_site : (d : Draft) (programs : List Behaviour) (inputs : List Input) (j : ℕ) (l : Link) (m after : Member) (v : FederateNode) (signals : List Signal) → IsSite d programs inputs j l m v
    → after.up ≡ m.up → after.down ≡ m.down ++ signals → after.lost ≡ m.lost → after.federate ≡ m.federate
    → IsSite d programs inputs j (record { first = acted l.first l.second.sent (Offers signals ∷ []); second = l.second }) after v
offered_site d programs inputs j l m after v signals site up down lost federate =
    let o = offers_at 1 l.first site.held.gone signals site.unclosed site.held.linked in
    with_first d programs inputs j l m v (acted l.first l.second.sent (Offers signals ∷ [])) after signals site
    (firsts_held l (Offers signals ∷ []) site.held) o.0 (calm_acted l.first l.second.sent (Offers signals ∷ []) (tt, tt) site.downs_calm) o.3
    (up ∙ site.up ∙ ap (λ (x : ℕ). drop x (offered_in 1 l.second.sent)) (sym o.1)) down lost federate

-- what the machine's coordinator makes of the members
abbrev pub made_of : (ℕ → Member) → ℕ → List Signal → Coordinated → ℕ → Member
made_of members q rest made j = coordinated made j (with_member members q (record (members q) { up = rest }) j)

up_own : (members : ℕ → Member) (q : ℕ) (rest : List Signal) (j : ℕ) → j ≡ q → (with_member members q (record (members q) { up = rest }) j).up ≡ rest
up_own members q rest j here =
    let P : ℕ → Type 0 = λ x. (with_member members q (record (members q) { up = rest }) x).up ≡ rest in
    subst P (sym here) (ap (λ (m : Member). m.up) (at_own members q (record (members q) { up = rest })))

up_other : (members : ℕ → Member) (q : ℕ) (rest : List Signal) (j : ℕ) → j ≢ q → (with_member members q (record (members q) { up = rest }) j).up ≡ (members j).up
up_other members q rest j apart = ap (λ (m : Member). m.up) (at_other members q j (record (members q) { up = rest }) apart)

-- what the taking coordinator needs of a link: where it is the sender's, the signal is its next
record IsNextAt (l : Link) (place : ℕ) (signals rest : List Signal) : Type 0 where
  incarnation : ℕ
  number : ℕ
  signal : Signal
  at : slice_get l.second.sent place ≡ Some (Data incarnation number signal)
  in_turn : answer_of l.first.end (Data incarnation number signal) ≡ Ok arrival.Signal
  left : rest ≡ drop (acted l.first l.second.sent (Gets place true ∷ Offers signals ∷ [])).end.taken (offered_in 1 l.second.sent)

site_after : (d : Draft) (programs : List Behaviour) (inputs : List Input) (members : ℕ → Member) (q : ℕ) (rest : List Signal) (made : Coordinated) (j : ℕ) (l : Link) (v : FederateNode) (place : ℕ) (signals : List Signal) (acts : List Act)
    → acts ≡ taking q place j signals → signals ≡ sent_to j made.sent → (j ≡ q → IsNextAt l place signals rest) → IsSite d programs inputs j l (members j) v
    → IsSite d programs inputs j (record { first = acted l.first l.second.sent acts; second = l.second }) (made_of members q rest made j) v
site_after d programs inputs members q rest made j l v place signals acts are sent next site =
    let A : List Act → Type 0 = λ x. IsSite d programs inputs j (record { first = acted l.first l.second.sent x; second = l.second }) (made_of members q rest made j) v in
    subst A (sym are) (by_number (nat_eq j q) refl)
  where
    by_number : (b : Bool) → nat_eq j q ≡ b → IsSite d programs inputs j (record { first = acted l.first l.second.sent (if b then Gets place true ∷ Offers signals ∷ [] else Offers signals ∷ []); second = l.second }) (made_of members q rest made j) v
    by_number true e =
        let here = eqb-true j q e in
        let n = next here in
        let m_left = up_left members q rest j in
        taken_site d programs inputs j l (members j) (made_of members q rest made j) v place n.incarnation n.number n.signal signals site n.at n.in_turn
        (up_own members q rest j here ∙ n.left) (ap (λ (x : List Signal). x ++ sent_to j made.sent) m_left.0 ∙ ap (λ (x : List Signal). (members j).down ++ x) (sym sent)) m_left.1 m_left.2
    by_number false e =
        let apart = eqb-false j q e in
        let m_left = up_left members q rest j in
        offered_site d programs inputs j l (members j) (made_of members q rest made j) v signals site
        (up_other members q rest j apart) (ap (λ (x : List Signal). x ++ sent_to j made.sent) m_left.0 ∙ ap (λ (x : List Signal). (members j).down ++ x) (sym sent)) m_left.1 m_left.2

-- a world after one move of the machine, which loses nobody
pub record IsMoved (d : Draft) (programs : List Behaviour) (inputs : List Input) (w : Federation) (links : ℕ → Link) (members : ℕ → Member) (move : Move) : Type 0 where
  pub after : ℕ → Member
  pub is_made : outcome_of (network_of d programs inputs) (rule_of d programs inputs) members move ≡ Done after
  pub run : IsRun d programs inputs w links after
  pub lost : (j : ℕ) → (after j).lost ≡ (members j).lost

-- the coordinator takes a signal
pub takes_coordinator : (d : Draft) (programs : List Behaviour) (inputs : List Input) (w : Federation) (links : ℕ → Link) (members : ℕ → Member) (e : Event) (place q : ℕ) (m : Made CoordinatorNode) (c : IsCourse coordinator_core true w.coordinator e (ups_of links) place (step_of coordinator_core true w.coordinator e))
    → IsWired (network_of d programs inputs) → Comes w.coordinator (ups_of links) place e → (handed : IsHandedOn coordinator_core w.coordinator e q (Done m)) → (step_of coordinator_core true w.coordinator e).station.node ≡ m.after → ((p : ℕ) → c.acts p ≡ taking q place p (sent_to p m.sent)) → IsRun d programs inputs w links members
    → IsMoved d programs inputs (after_coordinator w (step_of coordinator_core true w.coordinator e)).world (with_firsts links (λ p. acted (links p).first (ups_of links p) (c.acts p))) members (ToCoordinator q)
takes_coordinator d programs inputs w links members e place q m c wired comes handed node acts run =
    let n = network_of d programs inputs in
    let rule = rule_of d programs inputs in
    let v = w.coordinator.node in
    let o = coordinator_accepts (network_of d programs inputs) (rule_of d programs inputs) (federate_records_of members) q handed.signal in
    let accepts = coordinator_accepts_listed d programs inputs w.coordinator.node (federate_records_of members) q handed.signal run.draft run.federate_records in
    let done = done_of (coordinator_makes n w.coordinator.node) o m (sym accepts ∙ handed.node) in
    let made : Coordinated = done.0 in
    let size = run.shown.ends in
    let placed = place_there w.coordinator.ends q handed.image handed.found in
    let below : q < federate_count d = omega arith in
    let at = run.shown.each q below in
    let site = run.site q below at.station at.there in
    let comes_so = comes_with w.coordinator (ups_of links) place e q (Data handed.incarnation handed.number handed.signal) handed.is_event comes in
    let same : handed.image ≡ (links q).first.end = some_of handed.image (links q).first.end (sym handed.found ∙ at.first) in
    let A : Image → Type 0 = λ x. answer_of x (Data handed.incarnation handed.number handed.signal) ≡ Ok arrival.Signal in
    let in_turn = subst A same handed.in_turn in
    let signals = sent_to q m.sent in
    let next = next_of d programs inputs q (links q) (members q) at.station.node place handed.incarnation handed.number handed.signal signals site comes_so in_turn in
    let rest : List Signal = drop (acted (links q).first (links q).second.sent (Gets place true ∷ Offers signals ∷ [])).end.taken (offered_in 1 (links q).second.sent) in
    let queue : (members q).up ≡ handed.signal ∷ rest = site.up ∙ next.next in
    let after = made_of members q rest made in
    let sent : m.sent ≡ made.sent = ap (λ (x : Made CoordinatorNode). x.sent) done.2 in
    let node_is : (step_of coordinator_core true w.coordinator e).station.node ≡ (coordinator_makes n w.coordinator.node made).after = node ∙ ap (λ (x : Made CoordinatorNode). x.after) done.2 in
    let S : (ℕ → FederateRecord) → Type 0 = λ x. IfDone (coordinator_accepts n rule x q handed.signal) (λ made. federate_record_at (federate_records_listed n.reactors made.after) ≡ made.after) in
    let D : Outcome Coordinated → Type 0 = λ x. IfDone x (λ made. federate_record_at (federate_records_listed n.reactors made.after) ≡ made.after) in
    let listed = accepts_listed n rule w.coordinator.node.federate_records q handed.signal wired below run.size in
    let stands : federate_record_at (federate_records_listed n.reactors made.after) ≡ made.after = subst D done.1 (subst S run.federate_records listed) in
    record {
      after = made_of members q rest made;
      is_made = coordinator_move n rule members q handed.signal rest queue ∙ ap (with_made (made_of members q rest)) done.1;
      lost = λ j. (up_left members q rest j).1;
      run = record {
        shown = shown_at_coordinator coordinator_core w (federate_count d) links e place (step_of coordinator_core true w.coordinator e) c run.shown;
        draft = ap (λ (x : CoordinatorNode). x.draft) node_is ∙ run.draft;
        size = ap (λ (x : CoordinatorNode). length x.federate_records) node_is ∙ listed_length n.reactors made.after;
        federate_records = ap (λ (x : CoordinatorNode). federate_record_at x.federate_records) node_is ∙ stands;
        site = λ j l s there. site_after d programs inputs members q rest made j (links j) s.node place (sent_to j m.sent) (c.acts j) (acts j) (ap (sent_to j) sent)
            (λ here. (
            let N : ℕ → Type 0 = λ x. IsNextAt (links x) place (sent_to x m.sent) rest in
            subst N (sym here) (record { incarnation = handed.incarnation; number = handed.number; signal = handed.signal; at = comes_so; in_turn = in_turn; left = refl })))
            (run.site j l s there);
      };
    }

-- a world in which one federate's station and link changed
pub federate_run : (d : Draft) (programs : List Behaviour) (inputs : List Input) (w changed : Federation) (links others : ℕ → Link) (members after : ℕ → Member) (j : ℕ) (s made : Station FederateNode) → slice_get w.federates j ≡ Some s → changed.coordinator.node ≡ w.coordinator.node → changed.federates ≡ set w.federates j made
    → IsShown changed (federate_count d) others → ((k : ℕ) → k ≢ j → others k ≡ links k) → ((k : ℕ) → k ≢ j → after k ≡ members k) → federate_records_of after ≡ federate_records_of members → IsSite d programs inputs j (others j) (after j) made.node → IsRun d programs inputs w links members
    → IsRun d programs inputs changed others after
federate_run d programs inputs w changed links others members after j s made there node federates shown links_same members_same federate_records site run =
    record {
      shown = shown;
      draft = ap (λ (v : CoordinatorNode). v.draft) node ∙ run.draft;
      size = ap (λ (v : CoordinatorNode). length v.federate_records) node ∙ run.size;
      federate_records = ap (λ (v : CoordinatorNode). federate_record_at v.federate_records) node ∙ run.federate_records ∙ sym federate_records;
      site = λ k l t found. (
          elim (same_or_not j k) [
            | inl here ↦
                let P : ℕ → Type 0 = λ x. slice_get (set w.federates j made) x ≡ Some t in
                let mine : made ≡ t = some_of made t (sym (get_set_here w.federates j s made there) ∙ subst P here (ap (λ (x : List (Station FederateNode)). slice_get x k) (sym federates) ∙ found)) in
                let Q : ℕ → Type 0 = λ x. IsSite d programs inputs x (others x) (after x) t.node in
                let R : Station FederateNode → Type 0 = λ x. IsSite d programs inputs j (others j) (after j) x.node in
                subst Q (sym here) (subst R mine site)
            | inr apart ↦
                let before : slice_get w.federates k ≡ Some t = sym (get_set_other w.federates j k made apart) ∙ ap (λ (x : List (Station FederateNode)). slice_get x k) (sym federates) ∙ found in
                let L : Link → Type 0 = λ x. IsSite d programs inputs k x (after k) t.node in
                let M : Member → Type 0 = λ x. IsSite d programs inputs k (links k) x t.node in
                subst L (sym (links_same k apart)) (subst M (sym (members_same k apart)) (run.site k l t before))
          ]);
    }

-- one member changed, but for its record
pub same_federate_records : (members : ℕ → Member) (j : ℕ) (m : Member) → m.federate_record ≡ (members j).federate_record → federate_records_of (with_member members j m) ≡ federate_records_of members
same_federate_records members j m e = fun_ext (λ k. federate_record_stays members j m k e)

pub same_lost : (members : ℕ → Member) (j : ℕ) (m : Member) → m.lost ≡ (members j).lost → (k : ℕ) → (with_member members j m k).lost ≡ (members k).lost
same_lost members j m e k =
    elim (same_or_not j k) [
      | inl here ↦
          let P : ℕ → Type 0 = λ x. (with_member members j m x).lost ≡ (members x).lost in
          subst P (sym here) (ap (λ (x : Member). x.lost) (at_own members j m) ∙ e)
      | inr apart ↦ ap (λ (x : Member). x.lost) (at_other members j k m apart)
    ]

-- a federate's side after it said something
pub spoken_incarnation : (s : Side) (signals : List Signal) → s.end.closed ≡ false → (offers s signals).end.incarnation ≡ s.end.incarnation
spoken_incarnation s signals o = ap (λ (x : Side). x.end.incarnation) (offers_open s signals o)

-- a kept federate does something, by which its queues go from these to those
pub kept_does : (d : Draft) (programs : List Behaviour) (inputs : List Input) (w : Federation) (links : ℕ → Link) (members : ℕ → Member) (j : ℕ) (s : Station FederateNode) (e : Event) (place : ℕ) (c : IsCourse federate_core false s e (λ p. (links j).first.sent) place (step_of federate_core false s e)) (m : Member) (signals : List Signal) (acts : List Act)
    → j < federate_count d → slice_get w.federates j ≡ Some s → c.acts 0 ≡ acts → m.federate_record ≡ (members j).federate_record → m.lost ≡ false → (step_of federate_core false s e).station.node ≡ node_with d programs inputs j m.federate
    → (acted (links j).second (links j).first.sent acts).end.incarnation ≡ 1 → (acted (links j).second (links j).first.sent acts).end.closed ≡ false → AllByRecursion (IsCalmAct 1) acts → offered_in 1 (acted (links j).second (links j).first.sent acts).sent ≡ offered_in 1 (links j).second.sent ++ signals
    → m.up ≡ (members j).up ++ signals → m.down ≡ drop (acted (links j).second (links j).first.sent acts).end.taken (offered_in 1 (links j).first.sent)
    → (links j).second.end.incarnation ≡ 1 → AreOf 1 (links j).second.sent → IsRun d programs inputs w links members
    → IsRun d programs inputs (after_federate w j (step_of federate_core false s e)).world (with_one links j (record { first = (links j).first; second = acted (links j).second (links j).first.sent (c.acts 0) })) (with_member members j m)
kept_does d programs inputs w links members j s e place c m signals acts below there are federate_record lost node is opened calm offered up down was frames run =
    let made = step_of federate_core false s e in
    let mine : Link = record { first = (links j).first; second = acted (links j).second (links j).first.sent (c.acts 0) } in
    let site = run.site j below s there in
    let A : List Act → Type 0 = λ x. IsSite d programs inputs j (record { first = (links j).first; second = acted (links j).second (links j).first.sent x }) m made.station.node in
    let L : Link → Type 0 = λ x. IsSite d programs inputs j x (with_member members j m j) made.station.node in
    let M : Member → Type 0 = λ x. IsSite d programs inputs j mine x made.station.node in
    federate_run d programs inputs w (after_federate w j made).world links (with_one links j mine) members (with_member members j m) j s made.station there refl refl
    (shown_at_federate federate_core w (federate_count d) links j s e place made c there below run.shown)
    (λ k apart. at_other links j k mine apart) (λ k apart. at_other members j k m apart) (same_federate_records members j m federate_record)
    (subst L (sym (at_own links j mine))
    (subst M (sym (at_own members j m))
    (subst A (sym are)
    (with_second d programs inputs j (links j) (members j) s.node (acted (links j).second (links j).first.sent acts) m made.station.node signals site
    (seconds_held (links j) acts site.held) (calm_acted (links j).second (links j).first.sent acts calm site.ups_calm) offered up
    (keeps is opened lost node down (acts_of (links j).second (links j).first acts (linked_back 1 (links j).first (links j).second (kept_linked (links j) site.held was)) frames)))))) run

-- what the coordinator refuses, the machine refuses
pub coordinator_refuses : (d : Draft) (programs : List Behaviour) (inputs : List Input) (w : Federation) (links : ℕ → Link) (members : ℕ → Member) (e : Event) (place q : ℕ) (refusal : Refusal) → Comes w.coordinator (ups_of links) place e → IsHandedOn coordinator_core w.coordinator e q (Refused refusal) → IsRun d programs inputs w links members
    → outcome_of (network_of d programs inputs) (rule_of d programs inputs) members (ToCoordinator q) ≡ Refused refusal
coordinator_refuses d programs inputs w links members e place q refusal comes handed run =
    let n = network_of d programs inputs in
    let rule = rule_of d programs inputs in
    let o = coordinator_accepts n rule (federate_records_of members) q handed.signal in
    let accepts = coordinator_accepts_listed d programs inputs w.coordinator.node (federate_records_of members) q handed.signal run.draft run.federate_records in
    let refused = refused_of (coordinator_makes n w.coordinator.node) o refusal (sym accepts ∙ handed.node) in
    let size = run.shown.ends in
    let placed = place_there w.coordinator.ends q handed.image handed.found in
    let below : q < federate_count d = omega arith in
    let at = run.shown.each q below in
    let site = run.site q below at.station at.there in
    let comes_so = comes_with w.coordinator (ups_of links) place e q (Data handed.incarnation handed.number handed.signal) handed.is_event comes in
    let same : handed.image ≡ (links q).first.end = some_of handed.image (links q).first.end (sym handed.found ∙ at.first) in
    let A : Image → Type 0 = λ x. answer_of x (Data handed.incarnation handed.number handed.signal) ≡ Ok arrival.Signal in
    let next = next_of d programs inputs q (links q) (members q) at.station.node place handed.incarnation handed.number handed.signal [] site comes_so (subst A same handed.in_turn) in
    let rest : List Signal = drop (acted (links q).first (links q).second.sent (Gets place true ∷ Offers [] ∷ [])).end.taken (offered_in 1 (links q).second.sent) in
    coordinator_move n rule members q handed.signal rest (site.up ∙ next.next) ∙ ap (with_made (made_of members q rest)) refused
