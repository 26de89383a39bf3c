-- What a step of a station does at each side of its links: acts, as they may be done at the sides of a link.
use Rattle.std.proofs.Common.{◌≡◌, ◌≢◌, ℕ, ◌<◌, Bool, true, false, IsTrue, List, [], ◌∷◌, length, slice_get, Some, Ok, Err, if◌then◌else◌}
use Rattle.std.specs.Prelude.{nat_eq}
use Rattle.std.specs.List.{AllByRecursion}
use Rattle.signal.specs.declared.signal.Signal.{Signal}
use Rattle.signal.specs.declared.frame.Frame.{Frame}
use Rattle.signal.specs.declared.frame.Frame.TheVariants.{Data}
use Rattle.link.specs.declared.arrival.Arrival.TheVariants as arrival
use Rattle.link.specs.declared.fault.LinkFault.{LinkFault}
use Rattle.link.specs.Image.{Image, answer_of}
use Rattle.protocol.specs.declared.refusal.Refusal.{Refusal}
use Rattle.protocol.specs.Outcome as outcome
use Rattle.protocol.specs.Machine.{sent_to}
use Rattle.node.specs.declared.event.Event.{Event}
use Rattle.node.specs.declared.event.Event.TheVariants as event
use Rattle.node.specs.Core.{Core, Made}
use Rattle.node.specs.Step.{Station, Answer, Silent, Says, Declines, Stepped}
use Rattle.link_laws.specs.Link.{Side, side_after, Act, Gets, Offers, Resends, Greets, Closes, TurnsAway}
use Rattle.world_stations.specs.World.{frames_of}
use Rattle.world_stations.specs.Federation.{is_harmless}
use Rattle.world_stations.proofs.Posting.{IsSeen}

-- a side after acts, oldest first
abbrev pub acted : Side → List Frame → List Act → Side
acted s coming [] = s
acted s coming (act ∷ rest) = acted (side_after s coming act) coming rest

-- an act by which nothing is taken, offered or closed; strangers are turned away at the coordinator alone
abbrev pub IsQuiet : (is_coordinator : Bool) → (incarnation : ℕ) → Act → Type 0
IsQuiet is_coordinator i (Gets place is_taken) = is_taken ≡ false
IsQuiet is_coordinator i (Offers signals) = ⊥
IsQuiet is_coordinator i Resends = Unit {0}
IsQuiet is_coordinator i Greets = Unit {0}
IsQuiet is_coordinator i (Closes number) = ⊥
IsQuiet is_coordinator i (TurnsAway k number) = (is_coordinator ≡ true) × (k ≢ i)

-- an answer with no refusal but those that may come
abbrev pub IsHarmlessAnswer : Answer → Type 0
IsHarmlessAnswer Silent = Unit {0}
IsHarmlessAnswer (Says frames) = Unit {0}
IsHarmlessAnswer (Declines number frames) = IsTrue (is_harmless number)

-- an act by which no signal is taken
abbrev pub TakesNone : Act → Type 0
TakesNone (Gets place is_taken) = is_taken ≡ false
TakesNone (Offers signals) = Unit {0}
TakesNone Resends = Unit {0}
TakesNone Greets = Unit {0}
TakesNone (Closes number) = Unit {0}
TakesNone (TurnsAway k number) = Unit {0}

-- acts at one peer alone
abbrev pub only : ℕ → List Act → ℕ → List Act
only q acts p = if nat_eq p q then acts else []

-- the frame at this place is taken from peer q, and these signals are offered to peer p
abbrev pub taking : ℕ → (place : ℕ) → ℕ → List Signal → List Act
taking q place p signals = if nat_eq p q then Gets place true ∷ Offers signals ∷ [] else Offers signals ∷ []

-- a frame that comes is the one at this place of what its peer sent, and tells of nothing that was never sent
abbrev pub Comes : {View : Type 0} → Station View → (ℕ → List Frame) → ℕ → Event → Type 0
Comes s came place (event.Frame q frame) =
    (slice_get (came q) place ≡ Some frame) × ((e : Image) → slice_get s.ends q ≡ Some e → answer_of e frame ≢ Err LinkFault.AckOfUnsent)
Comes s came place (event.Resend q) = Unit {0}
Comes s came place (event.Hello q) = Unit {0}
Comes s came place event.Announce = Unit {0}
Comes s came place event.Advance = Unit {0}

-- what the node does by itself at an event
pub data Speaks {View Row : Type 0} (core : Core View Row) (v : View) (e : Event) (o : outcome.Outcome (Made View)) : Type 0 where
  announces : e ≡ event.Announce → core.announce v ≡ o → Speaks core v e o
  advances : e ≡ event.Advance → core.advance v ≡ o → Speaks core v e o

-- a signal in its turn comes from peer q, and the node does this with it
pub record IsHandedOn {View Row : Type 0} (core : Core View Row) (s : Station View) (e : Event) (q : ℕ) (o : outcome.Outcome (Made View)) : Type 0 where
  pub image : Image
  pub incarnation : ℕ
  pub number : ℕ
  pub signal : Signal
  pub is_event : e ≡ event.Frame q (Data incarnation number signal)
  pub found : slice_get s.ends q ≡ Some image
  pub in_turn : answer_of image (Data incarnation number signal) ≡ Ok arrival.Signal
  pub node : core.accept s.node q signal ≡ o

-- what kind of step it is: the node is left as it was; it takes a signal; it says or runs something by itself; or it refuses
pub data Kind {View Row : Type 0} (core : Core View Row) (is_coordinator : Bool) (s : Station View) (e : Event) (place : ℕ) (made : Stepped View) (acts : ℕ → List Act) : Type 0 where
  quiet : made.station.node ≡ s.node → IsHarmlessAnswer made.answer → ((p : ℕ) (i : Image) → slice_get s.ends p ≡ Some i → AllByRecursion (IsQuiet is_coordinator i.incarnation) (acts p)) → Kind core is_coordinator s e place made acts
  takes : (q : ℕ) (m : Made View) → IsHandedOn core s e q (outcome.Done m) → made.station.node ≡ m.after → IsHarmlessAnswer made.answer → ((p : ℕ) → acts p ≡ taking q place p (sent_to p m.sent)) → Kind core is_coordinator s e place made acts
  notes : (q : ℕ) → IsHandedOn core s e q outcome.Nothing → ((p : ℕ) → acts p ≡ taking q place p []) → Kind core is_coordinator s e place made acts
  says : (m : Made View) → Speaks core s.node e (outcome.Done m) → made.station.node ≡ m.after → IsHarmlessAnswer made.answer → ((p : ℕ) → acts p ≡ Offers (sent_to p m.sent) ∷ []) → Kind core is_coordinator s e place made acts
  declines : (q : ℕ) (refusal : Refusal) → IsHandedOn core s e q (outcome.Refused refusal) → ((p : ℕ) → AllByRecursion TakesNone (acts p)) → Kind core is_coordinator s e place made acts
  cannot : (refusal : Refusal) → Speaks core s.node e (outcome.Refused refusal) → ((p : ℕ) → AllByRecursion TakesNone (acts p)) → Kind core is_coordinator s e place made acts

-- a step of a station, as acts at each side
pub record IsCourse {View Row : Type 0} (core : Core View Row) (is_coordinator : Bool) (s : Station View) (e : Event) (came : ℕ → List Frame) (place : ℕ) (made : Stepped View) : Type 0 where
  pub acts : ℕ → List Act
  pub seen : (p : ℕ) (side : Side) → slice_get s.ends p ≡ Some side.end → IsSeen side.sent made.station.ends (frames_of made.answer) p (acted side (came p) (acts p))
  pub within : AllByRecursion (λ o. o.peer < length s.ends) (frames_of made.answer)
  pub size : length made.station.ends ≡ length s.ends
  pub kind : Kind core is_coordinator s e place made acts
