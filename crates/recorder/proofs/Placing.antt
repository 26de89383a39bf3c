-- Which step an event at a node can be.
use Rattle.std.proofs.Common.{◌≡◌, ◌∙◌, ◌≤◌, ℕ, zero, suc, Bool, true, false, List, length, arith, refl, sym, ap, subst, Option, None, Some, if◌then◌else◌}
use Rattle.std.specs.Prelude.{nat_lt, IfSome}
use Rattle.std.proofs.lemmas.Option.{slice_get_within}
use Rattle.signal.specs.declared.frame.Frame.{Frame}
use Rattle.node.specs.declared.event.Event.{Event}
use Rattle.node.specs.declared.event.Event.TheVariants as event
use Rattle.node.specs.declared.node_id.NodeId.{NodeId}
use Rattle.node.specs.declared.node_id.NodeId.TheVariants.{Coordinator, Federate}
use Rattle.world_stations.specs.declared.dir.Dir.{Dir}
use Rattle.world_stations.specs.declared.dir.Dir.TheVariants.{Up, Down}
use Rattle.world_stations.specs.declared.step.Step.{Step}
use Rattle.world_stations.specs.declared.step.Step.TheVariants.{Deliver, Resend, Reconnect, Announce, Advance, Forget}
use Rattle.world_stations.specs.World.{Occurrence, occurrence_of, frames_in, frame_at, delivered, comes}
use Rattle.world_stations.specs.Federation.{Federation}
use Rattle.world_stations.proofs.Courses.{some_of}
use Rattle.recorder.specs.Placing.{direction_to, step_if, step_alone}

-- an event at a node
abbrev pub at : NodeId → Event → Occurrence
at node e = record { node = node; event = e }

if_some : {X : Type 0} (b : Bool) (x y : X) → (if b then Some x else None) ≡ Some y → (b ≡ true) × (x ≡ y)
if_some true x y e = (refl, some_of x y e)
if_some false x y e = cc

if_so : {X : Type 0} (b : Bool) (x : X) → b ≡ true → (if b then Some x else None) ≡ Some x
if_so true x e = refl
if_so false x e = cc

-- where no frame comes, that step is the event
pub alone_is : (w : Federation) (node : NodeId) (e : Event) (step : Step) → step_alone (length w.federates) node e ≡ Some step → occurrence_of w step ≡ Some (at node e)
alone_is w node (event.Frame peer frame) step is = cc
alone_is w Coordinator (event.Resend peer) step is =
    let both = if_some (nat_lt peer (length w.federates)) (Resend (Down peer)) step is in
    subst (λ s. occurrence_of w s ≡ Some (at Coordinator (event.Resend peer))) both.1 (if_so (nat_lt peer (length w.federates)) (at Coordinator (event.Resend peer)) both.0)
alone_is w Coordinator (event.Hello peer) step is =
    let both = if_some (nat_lt peer (length w.federates)) (Reconnect (Down peer)) step is in
    subst (λ s. occurrence_of w s ≡ Some (at Coordinator (event.Hello peer))) both.1 (if_so (nat_lt peer (length w.federates)) (at Coordinator (event.Hello peer)) both.0)
alone_is w Coordinator event.Announce step is = cc
alone_is w Coordinator event.Advance step is = cc
alone_is w (Federate j) (event.Resend zero) step is =
    let both = if_some (nat_lt j (length w.federates)) (Resend (Up j)) step is in
    subst (λ s. occurrence_of w s ≡ Some (at (Federate j) (event.Resend zero))) both.1 (if_so (nat_lt j (length w.federates)) (at (Federate j) (event.Resend zero)) both.0)
alone_is w (Federate j) (event.Resend (suc peer)) step is = cc
alone_is w (Federate j) (event.Hello zero) step is =
    let both = if_some (nat_lt j (length w.federates)) (Reconnect (Up j)) step is in
    subst (λ s. occurrence_of w s ≡ Some (at (Federate j) (event.Hello zero))) both.1 (if_so (nat_lt j (length w.federates)) (at (Federate j) (event.Hello zero)) both.0)
alone_is w (Federate j) (event.Hello (suc peer)) step is = cc
alone_is w (Federate j) event.Announce step is =
    let both = if_some (nat_lt j (length w.federates)) (Announce j) step is in
    subst (λ s. occurrence_of w s ≡ Some (at (Federate j) event.Announce)) both.1 (if_so (nat_lt j (length w.federates)) (at (Federate j) event.Announce) both.0)
alone_is w (Federate j) event.Advance step is =
    let both = if_some (nat_lt j (length w.federates)) (Advance j) step is in
    subst (λ s. occurrence_of w s ≡ Some (at (Federate j) event.Advance)) both.1 (if_so (nat_lt j (length w.federates)) (at (Federate j) event.Advance) both.0)

pub alone_found : (w : Federation) (node : NodeId) (e : Event) (found : Option Step) → found ≡ step_alone (length w.federates) node e → IfSome found (λ step. occurrence_of w step ≡ Some (at node e))
alone_found w node e None is = tt
alone_found w node e (Some step) is = alone_is w node e step (sym is)

-- a step is an event: a frame that stands in the direction to the node, or the one that is this event where no frame comes
pub data CanBe (w : Federation) (node : NodeId) (e : Event) (step : Step) : Type 0 where
  brings : (dir : Dir) (k peer : ℕ) (frame : Frame) → direction_to node peer ≡ Some dir → frame_at (frames_in w dir) k ≡ Some frame → e ≡ event.Frame peer frame → CanBe w node e step
  alone : step_alone (length w.federates) node e ≡ Some step → CanBe w node e step

can_at : (w : Federation) (step : Step) (o p : Occurrence) → CanBe w o.node o.event step → o ≡ p → CanBe w p.node p.event step
can_at w step o p can same = subst (λ q. CanBe w q.node q.event step) same can

brings_one : (w : Federation) (dir : Dir) (k : ℕ) (found : Option Frame) (o : Occurrence) → frame_at (frames_in w dir) k ≡ found → delivered dir found ≡ Some o → CanBe w o.node o.event (Deliver dir k)
brings_one w dir k None o there is = cc
brings_one w (Up j) k (Some frame) o there is = can_at w (Deliver (Up j) k) (comes (Up j) frame) o (brings (Up j) k j frame refl there refl) (some_of (comes (Up j) frame) o is)
brings_one w (Down j) k (Some frame) o there is = can_at w (Deliver (Down j) k) (comes (Down j) frame) o (brings (Down j) k 0 frame refl there refl) (some_of (comes (Down j) frame) o is)

is_alone : (w : Federation) (step : Step) (j : ℕ) (made o : Occurrence) → step_alone (length w.federates) made.node made.event ≡ step_if (length w.federates) j step →
    (if nat_lt j (length w.federates) then Some made else None) ≡ Some o → CanBe w o.node o.event step
is_alone w step j made o same is =
    let both = if_some (nat_lt j (length w.federates)) made o is in
    can_at w step made o (alone (same ∙ if_so (nat_lt j (length w.federates)) step both.0)) both.1

can_be : (w : Federation) (step : Step) (o : Occurrence) → occurrence_of w step ≡ Some o → CanBe w o.node o.event step
can_be w (Deliver dir k) o is = brings_one w dir k (frame_at (frames_in w dir) k) o refl is
can_be w (Resend (Up j)) o is = is_alone w (Resend (Up j)) j (at (Federate j) (event.Resend 0)) o refl is
can_be w (Resend (Down j)) o is = is_alone w (Resend (Down j)) j (at Coordinator (event.Resend j)) o refl is
can_be w (Reconnect (Up j)) o is = is_alone w (Reconnect (Up j)) j (at (Federate j) (event.Hello 0)) o refl is
can_be w (Reconnect (Down j)) o is = is_alone w (Reconnect (Down j)) j (at Coordinator (event.Hello j)) o refl is
can_be w (Announce j) o is = is_alone w (Announce j) j (at (Federate j) event.Announce) o refl is
can_be w (Advance j) o is = is_alone w (Advance j) j (at (Federate j) event.Advance) o refl is
can_be w (Forget j) o is = cc

-- no step is a frame that stands nowhere in the direction to the node
pub no_frame : (w : Federation) (node : NodeId) (peer : ℕ) (frame : Frame) → ((dir : Dir) → direction_to node peer ≡ Some dir → (k : ℕ) → ¬ (frame_at (frames_in w dir) k ≡ Some frame)) →
    (step : Step) → ¬ (occurrence_of w step ≡ Some (at node (event.Frame peer frame)))
no_frame w node peer frame nowhere step is = elim (can_be w step (at node (event.Frame peer frame)) is) [
  | brings dir k p f way there same ↦ nowhere dir (let eq : peer ≡ p = cc in ap (direction_to node) eq ∙ way) k (let eq : f ≡ frame = cc in there ∙ ap Some eq)
  | alone none ↦ cc
]

-- no step is another event, where there is none that is it alone
pub none_alone : (w : Federation) (node : NodeId) (e : Event) → ((peer : ℕ) (frame : Frame) → ¬ (e ≡ event.Frame peer frame)) → step_alone (length w.federates) node e ≡ None →
    (step : Step) → ¬ (occurrence_of w step ≡ Some (at node e))
none_alone w node e no_frames none step is = elim (can_be w step (at node e) is) [
  | brings dir k p f way there same ↦ no_frames p f same
  | alone some ↦ let no : Some step ≡ None = sym some ∙ none in cc
]

-- where a frame stands, its place is from 1 to their number
pub within_frames : (frames : List Frame) (k : ℕ) (frame : Frame) → frame_at frames k ≡ Some frame → (1 ≤ k) × (k ≤ length frames)
within_frames frames zero frame there = cc
within_frames frames (suc k) frame there = let less = slice_get_within frames k frame there in (omega arith, omega arith)
