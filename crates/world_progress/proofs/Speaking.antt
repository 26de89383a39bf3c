-- Where links keep nothing there is room for whatever a node sends; so a federate that is asked to announce or to advance, and by which
-- nothing is done, has nothing to announce or to run.
use Rattle.std.proofs.Common.{◌≡◌, ℕ, zero, suc, ◌+◌, ◌^◌, ◌<◌, ◌≤◌, Bool, true, false, List, [], ◌∷◌, ◌++◌, length, slice_get, refl, sym, ap, subst, ◌∙◌, arith, length-append, Option, None, Some, if◌then◌else◌}
use Rattle.network.proofs.Items.{get_set_here}
use Rattle.network.specs.Network.{Network}
use Rattle.network.specs.Undone.{first_tag}
use Rattle.tag.specs.LogicalTime.{LogicalTime, is_reached}
use Rattle.tag.proofs.Order as order
use Rattle.signal.specs.declared.signal.Signal.TheVariants.{Net}
use Rattle.link.specs.Image.{Image}
use Rattle.plan.specs.declared.draft.Draft.{Draft}
use Rattle.plan.specs.declared.input.Input.{Input}
use Rattle.plan.specs.Federation.{federate_count}
use Rattle.plan.specs.Legal.{IsLegal}
use Rattle.reactor_program.specs.Behaviour.{Behaviour}
use Rattle.plan_network.specs.Network.{network_of}
use Rattle.protocol.specs.Outcome as machine
use Rattle.protocol.specs.Federate.{Federate, Stepped, is_told, next_event, row_of_turn, turn_at, advance_to, federate_announces, federate_advances}
use Rattle.protocol.specs.Machine.{Move}
use Rattle.node.specs.declared.event.Event.TheVariants as event
use Rattle.node.specs.declared.node_id.NodeId.TheVariants.{Federate as FederateAt}
use Rattle.node.specs.Mail.{lacks, lacks_room, all_posted}
use Rattle.node.specs.Core.{Made, LacksRoom, Moves, ending_of}
use Rattle.node.specs.Step.{Station, acts, unsent, step_of}
use Rattle.node_cores.specs.FederateCore as of_federate
use Rattle.node_cores.specs.FederateCore.{FederateNode, federate_core}
use Rattle.node_cores.specs.CoordinatorCore.{CoordinatorNode}
use Rattle.world_stations.specs.declared.dir.Dir.TheVariants.{Up, Down}
use Rattle.world_stations.specs.declared.step.Step.TheVariants.{Announce, Advance}
use Rattle.world_stations.specs.World.{Applied}
use Rattle.world_stations.specs.Federation.{Federation, step_in}
use Rattle.world_stations.proofs.Courses.{place_there, some_of}
use Rattle.world_stations.proofs.Site.{node_with}
use Rattle.world_stations.proofs.Moves.{announces_freely, advances_freely}
use Rattle.world_stations.proofs.Steps.{members_after}
use Rattle.world_progress.specs.Fuel.{fuel_of}
use Rattle.world_progress.proofs.Reached.{Reached, Next}
use Rattle.world_progress.proofs.Facing.{own, last_within, rooms_of}
use Rattle.world_progress.proofs.Fitting.{fits, federate_fits, announce_few, advance_few}
use Rattle.world_progress.proofs.Happening.{at_own, if_below}

-- at the coordinator
pub room_at_coordinator : (d : Draft) (programs : List Behaviour) (inputs : List Input) (w : Federation) (r : Reached d programs inputs w) → fuel_of (network_of d programs inputs) < 2 ^ 63 → ((j : ℕ) → j < federate_count d → length (r.links j).first.end.kept ≡ 0)
    → (p : ℕ) (e : Image) (count : ℕ) → slice_get w.coordinator.ends p ≡ Some e → count ≤ 2 → lacks e count ≡ false
room_at_coordinator d programs inputs w r small none p e count found few =
    let size = r.run.shown.ends in
    let placed = place_there w.coordinator.ends p e found in
    let below : p < federate_count d = omega arith in
    let same : (r.links p).first.end ≡ e = some_of (r.links p).first.end e (sym (r.run.shown.each p below).first ∙ found) in
    let P : Image → Type 0 = λ x. lacks x count ≡ false in
    let last = last_within d programs inputs w r (Down p) below in
    subst P same (fits (r.links p).first.end count (none p below) (rooms_of d programs inputs w r (Down p) below) (omega arith) (omega arith))

-- and at a federate
pub room_at_federate : (d : Draft) (programs : List Behaviour) (inputs : List Input) (w : Federation) (r : Reached d programs inputs w) → fuel_of (network_of d programs inputs) < 2 ^ 63 → (j : ℕ) (below : j < federate_count d) → length (r.links j).second.end.kept ≡ 0
    → (p : ℕ) (e : Image) (count : ℕ) → slice_get (r.run.shown.each j below).station.ends p ≡ Some e → count ≤ 1025 → lacks e count ≡ false
room_at_federate d programs inputs w r small j below none p e count found few =
    let at = r.run.shown.each j below in
    let last = last_within d programs inputs w r (Up j) below in
    let P : Image → Type 0 = λ x. lacks x count ≡ false in
    let S : List Image → Type 0 = λ x. slice_get x p ≡ Some e in
    subst P (is_own p (r.links j).second.end e (subst S at.second found)) (fits (r.links j).second.end count none (rooms_of d programs inputs w r (Up j) below) (omega arith) few)
  where
    is_own : (p : ℕ) (mine e : Image) → slice_get (mine ∷ []) p ≡ Some e → mine ≡ e
    is_own zero mine e is = some_of mine e is
    is_own (suc p) mine e is = cc

-- what it does by itself changes it
announce_changes : (f : Federate) (made : Stepped) → federate_announces f ≡ machine.Done made → made.after ≡ f → ⊥
announce_changes f made is same = by_told (is_told f.announced (next_event f)) refl is
  where
    done_is : (x y : Stepped) → machine.Done x ≡ machine.Done y → x ≡ y
    done_is x y e = cc

    by_told : (b : Bool) → is_told f.announced (next_event f) ≡ b → (if b then machine.Nothing else machine.Done (record { after = record f { announced = Some (next_event f) }; sent = Net (next_event f) ∷ [] })) ≡ machine.Done made → ⊥
    by_told true e h = cc
    by_told false e h =
        let made_is = done_is (record { after = record f { announced = Some (next_event f) }; sent = Net (next_event f) ∷ [] }) made h in
        let told : Some (next_event f) ≡ f.announced = ap (λ (x : Stepped). x.after.announced) made_is ∙ ap (λ (x : Federate). x.announced) same in
        let yes : is_told f.announced (next_event f) ≡ true = ap (λ (o : Option LogicalTime). is_told o (next_event f)) (sym told) ∙ order.same_itself (next_event f) in
        cc

advance_changes : (n : Network) (j : ℕ) (f : Federate) (made : Stepped) → federate_advances n j f ≡ machine.Done made → made.after ≡ f → ⊥
advance_changes n j f made is same = by_first (first_tag f.undone) is
  where
    done_is : (x y : Stepped) → machine.Done x ≡ machine.Done y → x ≡ y
    done_is x y e = cc

    by_grant : (tag : LogicalTime) (b : Bool) → (if b then machine.Done (turn_at n j f tag) else machine.Nothing) ≡ machine.Done made → ⊥
    by_grant tag false h = cc
    by_grant tag true h =
        let more : f.rows ++ row_of_turn n j f tag ∷ [] ≡ f.rows = ap (λ (x : Stepped). x.after.rows) (done_is (turn_at n j f tag) made h) ∙ ap (λ (x : Federate). x.rows) same in
        let size = length-append f.rows (row_of_turn n j f tag ∷ []) in
        let long : length (f.rows ++ row_of_turn n j f tag ∷ []) ≡ length f.rows = ap length more in
        omega arith

    by_first : (o : Option LogicalTime) → advance_to n j f o ≡ machine.Done made → ⊥
    by_first None h = cc
    by_first (Some tag) h = by_grant tag (is_reached f.granted tag) h

-- a federate's station after it did something by itself, where the machine made no move
stays_so : (d : Draft) (programs : List Behaviour) (inputs : List Input) (w : Federation) (r : Reached d programs inputs w) (after : Federation) (now : Reached d programs inputs after) (j : ℕ) → j < federate_count d → now.moves ≡ r.moves → (s : Station FederateNode) (made : Stepped) (o : machine.Outcome (Made FederateNode))
    → o ≡ machine.Done (of_federate.made_by (node_with d programs inputs j (members_after d programs inputs r.moves j).federate) made) → slice_get after.federates j ≡ Some (acts s (ending_of (unsent s) o)).station
    → lacks_room s.ends (of_federate.made_by (node_with d programs inputs j (members_after d programs inputs r.moves j).federate) made).sent ≡ false → made.after ≡ (members_after d programs inputs r.moves j).federate
stays_so d programs inputs w r after now j below same s made o is found room =
    let f = (members_after d programs inputs r.moves j).federate in
    let m = of_federate.made_by (node_with d programs inputs j (members_after d programs inputs r.moves j).federate) made in
    let mine = own d programs inputs after now j below (acts s (ending_of (unsent s) o)).station found in
    let node : (acts s (ending_of (unsent s) o)).station.node ≡ m.after =
    ap (λ (x : machine.Outcome (Made FederateNode)). (acts s (ending_of (unsent s) x)).station.node) is ∙
    ap (λ (b : Bool). (acts s (if b then LacksRoom else Moves m.after (all_posted (unsent s) m.sent))).station.node) room in
    let kept : (members_after d programs inputs now.moves j).federate ≡ (members_after d programs inputs r.moves j).federate = ap (λ (x : List Move). (members_after d programs inputs x j).federate) same in
    ap (λ (v : FederateNode). v.federate) (sym node ∙ mine.node) ∙ kept

-- it was asked, and did nothing
pub nothing_announced : (d : Draft) (programs : List Behaviour) (inputs : List Input) (w : Federation) (r : Reached d programs inputs w) → fuel_of (network_of d programs inputs) < 2 ^ 63 → (j : ℕ) → j < federate_count d → length (r.links j).second.end.kept ≡ 0 → (x : Next d programs inputs w r (Announce j)) → x.now.moves ≡ r.moves
    → federate_announces (members_after d programs inputs r.moves j).federate ≡ machine.Nothing
nothing_announced d programs inputs w r small j below none x same = by_outcome (federate_announces (members_after d programs inputs r.moves j).federate) refl
  where
    by_outcome : (o : machine.Outcome Stepped) → federate_announces (members_after d programs inputs r.moves j).federate ≡ o → o ≡ machine.Nothing
    by_outcome (machine.Refused refusal) e = absurd (announces_freely (members_after d programs inputs r.moves j).federate refusal e)
    by_outcome machine.Nothing e = refl
    by_outcome (machine.Done made) e =
        let at = r.run.shown.each j below in
        let size = r.run.shown.federates in
        let mine = own d programs inputs w r j below at.station at.there in
        let A : FederateNode → Type 0 = λ v. of_federate.announces v ≡ machine.Done (of_federate.made_by (node_with d programs inputs j (members_after d programs inputs r.moves j).federate) made) in
        let does = subst A (sym mine.node) (ap (machine.with_made (of_federate.made_by (node_with d programs inputs j (members_after d programs inputs r.moves j).federate))) e) in
        let room = federate_fits at.station.ends (node_with d programs inputs j (members_after d programs inputs r.moves j).federate) made 1025 (announce_few (members_after d programs inputs r.moves j).federate made e) (room_at_federate d programs inputs w r small j below none) in
        let found : slice_get (step_in w (Announce j)).world.federates j ≡ Some (step_of federate_core false at.station event.Announce).station =
        ap (λ (y : Applied CoordinatorNode FederateNode). slice_get y.world.federates j) (if_below w j (record { node = FederateAt j; event = event.Announce }) (omega arith) ∙ at_own w j at.station event.Announce at.there) ∙
        get_set_here w.federates j at.station (step_of federate_core false at.station event.Announce).station at.there in
        absurd (announce_changes (members_after d programs inputs r.moves j).federate made e
        (stays_so d programs inputs w r (step_in w (Announce j)).world x.now j below same at.station made (of_federate.announces at.station.node) does found room))

pub nothing_advanced : (d : Draft) (programs : List Behaviour) (inputs : List Input) (w : Federation) (r : Reached d programs inputs w) → IsLegal d → fuel_of (network_of d programs inputs) < 2 ^ 63 → (j : ℕ) → j < federate_count d → length (r.links j).second.end.kept ≡ 0 → (x : Next d programs inputs w r (Advance j)) → x.now.moves ≡ r.moves
    → federate_advances (network_of d programs inputs) j (members_after d programs inputs r.moves j).federate ≡ machine.Nothing
nothing_advanced d programs inputs w r legal small j below none x same = by_outcome (federate_advances (network_of d programs inputs) j (members_after d programs inputs r.moves j).federate) refl
  where
    by_outcome : (o : machine.Outcome Stepped) → federate_advances (network_of d programs inputs) j (members_after d programs inputs r.moves j).federate ≡ o → o ≡ machine.Nothing
    by_outcome (machine.Refused refusal) e = absurd (advances_freely (network_of d programs inputs) j (members_after d programs inputs r.moves j).federate (first_tag (members_after d programs inputs r.moves j).federate.undone) refusal e)
    by_outcome machine.Nothing e = refl
    by_outcome (machine.Done made) e =
        let at = r.run.shown.each j below in
        let size = r.run.shown.federates in
        let mine = own d programs inputs w r j below at.station at.there in
        let A : FederateNode → Type 0 = λ v. of_federate.advances v ≡ machine.Done (of_federate.made_by (node_with d programs inputs j (members_after d programs inputs r.moves j).federate) made) in
        let does = subst A (sym mine.node) (ap (machine.with_made (of_federate.made_by (node_with d programs inputs j (members_after d programs inputs r.moves j).federate))) e) in
        let room = federate_fits at.station.ends (node_with d programs inputs j (members_after d programs inputs r.moves j).federate) made 1025 (advance_few d programs inputs j (members_after d programs inputs r.moves j).federate made legal e) (room_at_federate d programs inputs w r small j below none) in
        let found : slice_get (step_in w (Advance j)).world.federates j ≡ Some (step_of federate_core false at.station event.Advance).station =
        ap (λ (y : Applied CoordinatorNode FederateNode). slice_get y.world.federates j) (if_below w j (record { node = FederateAt j; event = event.Advance }) (omega arith) ∙ at_own w j at.station event.Advance at.there) ∙
        get_set_here w.federates j at.station (step_of federate_core false at.station event.Advance).station at.there in
        absurd (advance_changes (network_of d programs inputs) j (members_after d programs inputs r.moves j).federate made e
        (stays_so d programs inputs w r (step_in w (Advance j)).world x.now j below same at.station made (of_federate.advances at.station.node) does found room))
