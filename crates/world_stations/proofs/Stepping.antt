-- What a step of one station makes of the world.
use Rattle.std.proofs.Common.{◌≡◌, ◌≢◌, ℕ, zero, suc, ◌+◌, ◌<◌, ◌≤◌, Bool, true, false, List, [], ◌∷◌, ◌++◌, length, map, set, get_or, take, replicate, slice_get, Option, None, Some, nat_eq, refl, sym, ap, ◌∙◌, arith}
use Rattle.std.specs.Prelude.{◌-◌}
use Rattle.std.proofs.lemmas.Bool.Decides.{nat_tests}
use Rattle.std.proofs.lemmas.List.{take_more, length-map, length-replicate}
use Rattle.std.proofs.lemmas.List.Elements.{All-get_or, All-set}
use Rattle.std.proofs.lemmas.Option.{slice_get_past, slice_get_within, get_or_from_slice_get}
use Rattle.signal.specs.declared.frame.Frame.{Frame}
use Rattle.link.specs.Image.{Image}
use Rattle.node.specs.declared.outgoing.Outgoing.{Outgoing}
use Rattle.node.specs.declared.event.Event.{Event}
use Rattle.node.specs.Core.{Core}
use Rattle.node.specs.Step.{Station, Stepped, Answer, step_of}
use Rattle.world_stations.specs.declared.step.Step.{Step}
use Rattle.world_stations.specs.declared.step.Step.TheVariants.{Deliver, Resend, Reconnect, Announce, Advance, Forget}
use Rattle.world_stations.specs.declared.outcome.Outcome.{Outcome}
use Rattle.world_stations.specs.World.{World, Applied, frames_of, outcome_of, sent_out, at_federate, at_node, listed, applied, after_steps, Occurrence, occurrence_of, happens, does}
use Rattle.node.specs.declared.node_id.NodeId.TheVariants.{Coordinator}
use Rattle.world_stations.specs.Room.{count_to, most_to, most_ever_to, SentView, spare_at, AllSpare, IsReserved, HasSpare, Fits}
use Rattle.world_stations.specs.Invariant.{IsWorld, HaveOnePeer}
use Rattle.world_stations.proofs.Bound.{within, IsBounded}
use Rattle.world_stations.proofs.Rooms.{never_more}

-- a step sends no more than any step to come may
most_is_ever : (o : Option Image) → most_to o ≤ most_ever_to o
most_is_ever None = omega arith
most_is_ever (Some e) = omega arith

-- where there is memory for the most, there is for the next step
pub has_spare : (ends : List Image) (sent ready : List SentView) (most spare count : ℕ) → IsReserved ends sent most spare → most ≤ count → AllSpare count ready →
    length ready ≡ length sent → HasSpare ends ready
has_spare ends sent ready most spare count is enough memory same j there =
    let next = most_is_ever (slice_get ends j) in
    let ever = is.bounded j (omega arith) in
    let here = memory j there in
    omega arith

-- after a step of the coordinator: as many places less as frames were sent
pub reserved_after : {View Row : Type 0} (core : Core View Row) (of_coordinator : Bool) (s after : Station View) (e : Event) (answer : Answer) (sent ready later : List SentView)
    (most spare count used : ℕ) → record { station = after; answer = answer } ≡ step_of core of_coordinator s e → IsReserved s.ends sent most spare → AllSpare count ready →
    length ready ≡ length sent → length later ≡ length ready → ((j : ℕ) → spare_at ready j ≤ spare_at later j + used) → IsReserved after.ends later most (count - used)
reserved_after core of_coordinator s after e answer sent ready later most spare count used is before memory same long few = record {
  bounded = λ j there.
      let ends : most_ever_to (slice_get after.ends j) ≡ most_ever_to (slice_get (step_of core of_coordinator s e).station.ends j) = ap (λ (r : Stepped _). most_ever_to (slice_get r.station.ends j)) is in
      let here = before.bounded j (omega arith) in
      let less = never_more core of_coordinator s e j in
      omega arith;
  memory = λ j there.
      let here = memory j (omega arith) in
      let taken = few j in
      omega arith;
}

-- what the coordinator says fits in the memory reserved
pub coordinator_fits : {View Row : Type 0} (core : Core View Row) (of_coordinator : Bool) (s after : Station View) (e : Event) (answer : Answer) (outs : List Outgoing) (sent : List SentView) →
    record { station = after; answer = answer } ≡ step_of core of_coordinator s e → outs ≡ frames_of answer → HasSpare s.ends sent → Fits outs sent
coordinator_fits core of_coordinator s after e answer outs sent is says ready j there =
    let answers : answer ≡ (step_of core of_coordinator s e).answer = ap (λ (r : Stepped _). r.answer) is in
    let count : count_to j outs ≡ count_to j (frames_of (step_of core of_coordinator s e).answer) = ap (count_to j) (says ∙ ap frames_of answers) in
    let bound = (within core of_coordinator s e).bounded j in
    let here = ready j there in
    omega arith

-- where frames go to one peer alone, there are as many as go to it
none_else : (outs : List Outgoing) (out : Outgoing) → ((p : ℕ) → p ≢ 0 → count_to p (out ∷ outs) ≡ 0) → (p : ℕ) → p ≢ 0 → count_to p outs ≡ 0
none_else outs out none p other = let here = none p other in omega arith

all_to_first : (out : Outgoing) (rest : List Outgoing) (n : ℕ) → n ≡ out.peer → ((p : ℕ) → p ≢ 0 → count_to p (out ∷ rest) ≡ 0) → nat_eq out.peer 0 ≡ true
all_to_first out rest zero is none = grind (arith, nat_tests)
all_to_first out rest (suc n) is none =
    let other : out.peer ≢ 0 = λ e. (let bad : ⊥ = omega arith in bad) in
    let here = none out.peer other in
    let itself : nat_eq out.peer out.peer ≡ true = grind (arith, nat_tests) in
    let bad : ⊥ = grind (arith, here, itself) in
    absurd bad

count_all : (outs : List Outgoing) → ((p : ℕ) → p ≢ 0 → count_to p outs ≡ 0) → length outs ≤ count_to 0 outs
count_all [] none = omega arith
count_all (out ∷ rest) none =
    let first = all_to_first out rest out.peer refl none in
    let others = count_all rest (none_else rest out none) in
    grind (arith, first, others)

-- what a federate says fits in the memory reserved
pub federate_fits : {View Row : Type 0} (core : Core View Row) (of_coordinator : Bool) (s : Station View) (e : Event) (answer : Answer) (outs : List Outgoing) (spare : ℕ) → length s.ends ≡ 1 →
    answer ≡ (step_of core of_coordinator s e).answer → outs ≡ frames_of answer → most_to (slice_get s.ends 0) ≤ spare → length outs ≤ spare
federate_fits core of_coordinator s e answer outs spare one is says few =
    let same : outs ≡ frames_of (step_of core of_coordinator s e).answer = says ∙ ap frames_of is in
    let bound : IsBounded s.ends (frames_of (step_of core of_coordinator s e).answer) = (within core of_coordinator s e).bounded in
    let none : (p : ℕ) → p ≢ 0 → count_to p outs ≡ 0 = λ p other.
    let past : slice_get s.ends p ≡ None = slice_get_past s.ends p (omega arith) in
    let count : count_to p outs ≡ count_to p (frames_of (step_of core of_coordinator s e).answer) = ap (count_to p) same in
    let most : most_to (slice_get s.ends p) ≡ 0 = ap most_to past in
    let here = bound p in
    omega arith in
    let all = count_all outs none in
    let count : count_to 0 outs ≡ count_to 0 (frames_of (step_of core of_coordinator s e).answer) = ap (count_to 0) same in
    let here = bound 0 in
    omega arith

-- a federate's one peer
pub has_one : {View : Type 0} (federates : List (Station View)) (j : ℕ) (s : Station View) → HaveOnePeer federates → slice_get federates j ≡ Some s → length s.ends ≡ 1
has_one federates j s one found =
    let there = slice_get_within federates j s found in
    let is = get_or_from_slice_get federates j s s found in
    let here = All-get_or (λ f. length f.ends ≡ 1) federates j s there one in
    rw is at here

-- after a step of a federate it still has one peer
pub still_world : {View Row : Type 0} (core : Core View Row) (of_coordinator of_federate : Bool) (federates later : List (Station View)) (j : ℕ) (s : Station View) (e : Event) →
    IsWorld of_coordinator of_federate federates → slice_get federates j ≡ Some s → later ≡ set federates j (step_of core of_federate s e).station → IsWorld of_coordinator of_federate later
still_world core of_coordinator of_federate federates later j s e is found stepped =
    let one = has_one federates j s is.one_peer found in
    let stay = (within core of_federate s e).ends_stay in
    record {
      is_coordinator = is.is_coordinator;
      is_federate = is.is_federate;
      one_peer = rw stepped (All-set (λ f. length f.ends ≡ 1) federates j (step_of core of_federate s e).station (omega arith) is.one_peer);
    }

-- the world after a step of the coordinator
pub after_coordinator_step : {OfCoordinator OfFederate CoordinatorRow Row : Type 0} (core : Core OfCoordinator CoordinatorRow) (of_federate : Core OfFederate Row) (flag : Bool) (w : World OfCoordinator OfFederate) (coordinator later : Station OfCoordinator) (federates : List (Station OfFederate))
    (up down down_ready down_then : List (List Frame)) (steps steps_ready steps_then : List Step) (e : Event) (step : Step) (answer : Answer) (outs : List Outgoing) (o : Outcome) →
    w ≡ record { coordinator = coordinator; federates = federates; up = up; down = down; steps = steps } → flag ≡ true →
    record { station = later; answer = answer } ≡ step_of core flag coordinator e → outs ≡ frames_of answer →
    down_ready ≡ down → down_then ≡ sent_out down_ready outs → steps_ready ≡ steps → steps_then ≡ steps_ready ++ step ∷ [] → o ≡ outcome_of answer →
    ◌≡◌ {A = Applied OfCoordinator OfFederate}
    (record { world = record { coordinator = later; federates = federates; up = up; down = down_then; steps = steps_then }; outcome = o })
    (listed step (at_node core of_federate w Coordinator e))
after_coordinator_step core of_federate flag w coordinator later federates up down down_ready down_then steps steps_ready steps_then e step answer outs o view of_coordinator stepped frames same put unchanged made told =
    let station : later ≡ (step_of core flag coordinator e).station = ap (λ (r : Stepped _). r.station) stepped in
    let says : answer ≡ (step_of core flag coordinator e).answer = ap (λ (r : Stepped _). r.answer) stepped in
    rw (view, told, made, unchanged, put, same, frames, station, says, of_coordinator) refl

-- another station with one peer in the place of a federate's
pub world_with : {View : Type 0} (of_coordinator of_federate : Bool) (federates later : List (Station View)) (j : ℕ) (s : Station View) →
    IsWorld of_coordinator of_federate federates → length s.ends ≡ 1 → later ≡ set federates j s → IsWorld of_coordinator of_federate later
world_with of_coordinator of_federate federates later j s is one put = record {
  is_coordinator = is.is_coordinator;
  is_federate = is.is_federate;
  one_peer = rw put (All-set (λ f. length f.ends ≡ 1) federates j s one is.one_peer);
}

-- where no frame was sent yet, none is reserved
pub none_reserved : (ends : List Image) (down : List SentView) (count most : ℕ) → map (λ s. s.frames) down ≡ replicate count [] →
    ((j : ℕ) → j < count → most_ever_to (slice_get ends j) ≤ most) → IsReserved ends down most 0
none_reserved ends down count most none bound =
    let long : length down ≡ count = sym (length-map down (λ (s : SentView). s.frames)) ∙ ap length none ∙ length-replicate count [] in
    record {
      bounded = λ j there. bound j (omega arith);
      memory = λ j there. omega arith;
    }

-- the world after a step of a federate
pub after_federate_step : {OfCoordinator OfFederate Row : Type 0} (core : Core OfFederate Row) (flag : Bool) (w : World OfCoordinator OfFederate) (coordinator : Station OfCoordinator) (federates later : List (Station OfFederate))
    (up up_ready up_then down : List (List Frame)) (steps steps_ready steps_then : List Step) (j : ℕ) (s : Station OfFederate) (e : Event) (step : Step) (answer : Answer) (outs : List Outgoing) (o : Outcome) →
    w ≡ record { coordinator = coordinator; federates = federates; up = up; down = down; steps = steps } → flag ≡ false → slice_get federates j ≡ Some s →
    answer ≡ (step_of core flag s e).answer → later ≡ set federates j (step_of core flag s e).station → outs ≡ frames_of answer →
    up_ready ≡ up → up_then ≡ set up_ready j (get_or up_ready j [] ++ map (λ out. out.frame) outs) → steps_ready ≡ steps → steps_then ≡ steps_ready ++ step ∷ [] →
    o ≡ outcome_of answer →
    ◌≡◌ {A = Applied OfCoordinator OfFederate}
    (record { world = record { coordinator = coordinator; federates = later; up = up_then; down = down; steps = steps_then }; outcome = o })
    (listed step (at_federate core w j e (slice_get w.federates j)))
after_federate_step core flag w coordinator federates later up up_ready up_then down steps steps_ready steps_then j s e step answer outs o view of_federate found says stepped frames same put
    unchanged made told =
    rw (view, found, told, made, unchanged, put, same, frames, stepped, says, of_federate) refl

-- one step more
pub one_more : {OfCoordinator OfFederate CoordinatorRow Row : Type 0} (of_coordinator : Core OfCoordinator CoordinatorRow) (of_federate : Core OfFederate Row) (w : World OfCoordinator OfFederate) (steps : List Step) (step : Step) →
    after_steps of_coordinator of_federate w (steps ++ step ∷ []) ≡ (applied of_coordinator of_federate (after_steps of_coordinator of_federate w steps) step).world
one_more of_coordinator of_federate w [] step = refl
one_more of_coordinator of_federate w (first ∷ steps) step = one_more of_coordinator of_federate (applied of_coordinator of_federate w first).world steps step

-- the next step of a list
pub step_more : {OfCoordinator OfFederate CoordinatorRow Row : Type 0} (of_coordinator : Core OfCoordinator CoordinatorRow) (of_federate : Core OfFederate Row) (w now later : World OfCoordinator OfFederate) (steps : List Step) (i : ℕ) (d : Step) (o : Outcome) →
    i < length steps → now ≡ after_steps of_coordinator of_federate w (take i steps) → record { world = later; outcome = o } ≡ applied of_coordinator of_federate now (get_or steps i d) →
    later ≡ after_steps of_coordinator of_federate w (take (i + 1) steps)
step_more of_coordinator of_federate w now later steps i d o there so_far made =
    ap (λ (a : Applied _ _). a.world) made ∙
    (ap (λ (x : World _ _). (applied of_coordinator of_federate x (get_or steps i d)).world) so_far ∙
    (sym (one_more of_coordinator of_federate w (take i steps) (get_or steps i d)) ∙ ap (λ (made_so_far : List Step). after_steps of_coordinator of_federate w made_so_far) (sym (take_more steps i d there))))

-- a step that is known to be this event at this node does what that does
pub does_known : {OfCoordinator OfFederate CoordinatorRow Row : Type 0} (of_coordinator : Core OfCoordinator CoordinatorRow) (of_federate : Core OfFederate Row) (w : World OfCoordinator OfFederate) (step : Step) (o : Occurrence) →
    occurrence_of w step ≡ Some o → does of_coordinator of_federate w step ≡ at_node of_coordinator of_federate w o.node o.event
does_known of_coordinator of_federate w (Deliver dir k) o is = ap (happens of_coordinator of_federate w) is
does_known of_coordinator of_federate w (Resend dir) o is = ap (happens of_coordinator of_federate w) is
does_known of_coordinator of_federate w (Reconnect dir) o is = ap (happens of_coordinator of_federate w) is
does_known of_coordinator of_federate w (Announce j) o is = ap (happens of_coordinator of_federate w) is
does_known of_coordinator of_federate w (Advance j) o is = ap (happens of_coordinator of_federate w) is
does_known of_coordinator of_federate w (Forget j) o is = cc
