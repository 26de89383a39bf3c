-- A world as links: each federate's link, with all frames ever sent over it. What a step of the world makes of them.
use Rattle.std.proofs.Common.{◌≡◌, ◌≢◌, ℕ, zero, suc, ◌<◌, ◌≤◌, ◌⊎◌, inl, inr, Bool, true, false, List, [], ◌∷◌, ◌++◌, length, map, set, get_or, slice_get, refl, sym, ap, subst, ◌∙◌, arith, Option, None, Some, Err, if◌then◌else◌}
use Rattle.std.specs.Prelude.{nat_eq, nat_lt}
use Rattle.std.specs.List.{AllByRecursion, range_with_len}
use Rattle.std.proofs.lemmas.List.FromFn.{length-map-range_with_len, get_or-map-range_with_len}
use Rattle.std.proofs.lemmas.Option.{slice_get-get_or}
use Rattle.std.proofs.lemmas.Bool.{cases_lt, ne_eqb, eqb-true, eqb-false, eq-eqb}
use Rattle.std.proofs.lemmas.Bool.Decides.{nat_tests}
use Rattle.std.proofs.lemmas.List.{append-nil, append_assoc, length-set}
use Rattle.signal.specs.declared.frame.Frame.{Frame}
use Rattle.link.specs.declared.fault.LinkFault.{LinkFault}
use Rattle.link.specs.Image.{Image, answer_of, blank}
use Rattle.link.specs.Taken.{carried_by}
use Rattle.network.specs.Network.{with_one}
use Rattle.node.specs.declared.outgoing.Outgoing.{Outgoing}
use Rattle.node.specs.declared.event.Event.{Event}
use Rattle.node.specs.declared.event.Event.TheVariants as event
use Rattle.node.specs.Core.{Core}
use Rattle.node.specs.Step.{Station, Stepped, step_of}
use Rattle.network.proofs.Items.{get_set_here, get_set_other}
use Rattle.link_laws.specs.Link.{Side, Link, replaced, initial_link}
use Rattle.link_laws.proofs.Acts.{IsHeld, first_told, second_told}
use Rattle.world_stations.specs.declared.dir.Dir.{Dir}
use Rattle.world_stations.specs.declared.dir.Dir.TheVariants.{Up, Down}
use Rattle.world_stations.specs.declared.step.Step.{Step}
use Rattle.world_stations.specs.declared.step.Step.TheVariants.{Deliver, Resend, Reconnect, Announce, Advance, Forget}
use Rattle.world_stations.specs.declared.outcome.Outcome.TheVariants as outcome
use Rattle.node.specs.declared.node_id.NodeId.TheVariants.{Federate}
use Rattle.world_stations.specs.World.{World, frames_in, frame_at, sends_again, greets, Occurrence, delivered, if_there, sent_out, frames_of, Applied, unchanged, after_coordinator, after_federate, at_federate, happens, blank_next, forgotten, has_next, forgets, does, opened}
use Rattle.world_stations.specs.Taken.{signal_in, brought_by}
use Rattle.world_stations.proofs.Posting.{frame_if, frames_to}
use Rattle.world_stations.proofs.Course.{acted, Comes, IsCourse}
use Rattle.world_stations.proofs.Courses.{step_course, some_of}

-- federate j's link, as it stands in a world
pub record IsAt {OfCoordinator OfFederate : Type 0} (w : World OfCoordinator OfFederate) (j : ℕ) (l : Link) : Type 0 where
  pub first : slice_get w.coordinator.ends j ≡ Some l.first.end
  pub station : Station OfFederate
  pub there : slice_get w.federates j ≡ Some station
  pub second : station.ends ≡ l.second.end ∷ []
  pub up : slice_get w.up j ≡ Some l.second.sent
  pub down : slice_get w.down j ≡ Some l.first.sent

-- this many links, as they stand in a world
pub record IsShown {OfCoordinator OfFederate : Type 0} (w : World OfCoordinator OfFederate) (count : ℕ) (links : ℕ → Link) : Type 0 where
  pub ends : length w.coordinator.ends ≡ count
  pub federates : length w.federates ≡ count
  pub ups : length w.up ≡ count
  pub downs : length w.down ≡ count
  pub each : (j : ℕ) → j < count → IsAt w j (links j)

-- what came to the coordinator from each federate
abbrev pub ups_of : (ℕ → Link) → ℕ → List Frame
ups_of links p = (links p).second.sent

-- the links after acts of the coordinator
abbrev pub with_firsts : (ℕ → Link) → (ℕ → Side) → ℕ → Link
with_firsts links sides p = record { first = sides p; second = (links p).second }

-- the links after acts of federate j
abbrev pub with_second : (ℕ → Link) → ℕ → Side → ℕ → Link
with_second links j side = with_one links j (record { first = (links j).first; second = side })

-- the frame of an event is the one that the step delivers
abbrev pub Brings : {OfCoordinator OfFederate : Type 0} → World OfCoordinator OfFederate → Step → Event → Type 0
Brings w step (event.Frame q frame) = brought_by w step ≡ carried_by frame
Brings w step (event.Resend q) = Unit {0}
Brings w step (event.Hello q) = Unit {0}
Brings w step event.Announce = Unit {0}
Brings w step event.Advance = Unit {0}

-- what a step comes to
pub data Happened {OfCoordinator OfFederate CoordinatorRow Row : Type 0} (of_coordinator : Core OfCoordinator CoordinatorRow) (of_federate : Core OfFederate Row) (w : World OfCoordinator OfFederate) (count : ℕ) (links : ℕ → Link) (step : Step) (made : Applied OfCoordinator OfFederate) : Type 0 where
  nowhere : made ≡ unchanged w → Happened of_coordinator of_federate w count links step made
  happened_at_coordinator : (e : Event) (place : ℕ) → Comes w.coordinator (ups_of links) place e → IsCourse of_coordinator true w.coordinator e (ups_of links) place (step_of of_coordinator true w.coordinator e) → Brings w step e → made ≡ after_coordinator w (step_of of_coordinator true w.coordinator e) → Happened of_coordinator of_federate w count links step made
  happened_at_federate : (j : ℕ) (s : Station OfFederate) (e : Event) (place : ℕ) → j < count → slice_get w.federates j ≡ Some s → Comes s (λ p. (links j).first.sent) place e → IsCourse of_federate false s e (λ p. (links j).first.sent) place (step_of of_federate false s e) → Brings w step e → made ≡ after_federate w j (step_of of_federate false s e) → Happened of_coordinator of_federate w count links step made
  lost : (j : ℕ) (s : Station OfFederate) → j < count → slice_get w.federates j ≡ Some s → step ≡ Forget j → made ≡ record { world = record w { federates = set w.federates j (forgotten of_federate s) }; outcome = outcome.Done } → Happened of_coordinator of_federate w count links step made

pub got : {X : Type 0} (xs : List X) (k : ℕ) (x d : X) → slice_get xs k ≡ Some x → get_or xs k d ≡ x
got [] k x d e = cc
got (y ∷ xs) zero x d e = some_of y x e
got (y ∷ xs) (suc k) x d e = got xs k x d e

pub none_beyond : {X : Type 0} (xs : List X) (k : ℕ) (d : X) → length xs ≤ k → get_or xs k d ≡ d
none_beyond [] k d l = refl
none_beyond (x ∷ xs) zero d l = absurd (omega arith)
none_beyond (x ∷ xs) (suc k) d l = none_beyond xs k d (omega arith)

pub nothing_beyond : {X : Type 0} (xs : List X) (k : ℕ) → length xs ≤ k → slice_get xs k ≡ None
nothing_beyond [] k l = refl
nothing_beyond (x ∷ xs) zero l = absurd (omega arith)
nothing_beyond (x ∷ xs) (suc k) l = nothing_beyond xs k (omega arith)

-- what is sent to a peer is appended to what was sent to it
pub sent_out_at : (lists : List (List Frame)) (outs : List Outgoing) (p : ℕ) (xs : List Frame) → slice_get lists p ≡ Some xs → slice_get (sent_out lists outs) p ≡ Some (xs ++ frames_to p outs)
sent_out_at lists [] p xs found = found ∙ ap (λ (x : List Frame). Some x) (sym (append-nil xs))
sent_out_at lists (o ∷ outs) p xs found =
    sent_out_at (set lists o.peer (get_or lists o.peer [] ++ o.frame ∷ [])) outs p (xs ++ frame_if (nat_eq p o.peer) o.frame) (by_number (nat_eq p o.peer) refl) ∙
    ap (λ (x : List Frame). Some x) (append_assoc xs (frame_if (nat_eq p o.peer) o.frame) (frames_to p outs))
  where
    by_number : (b : Bool) → nat_eq p o.peer ≡ b → slice_get (set lists o.peer (get_or lists o.peer [] ++ o.frame ∷ [])) p ≡ Some (xs ++ frame_if b o.frame)
    by_number true e =
        let same : o.peer ≡ p = sym (eqb-true p o.peer e) in
        let P : ℕ → Type 0 = λ x. slice_get (set lists x (get_or lists x [] ++ o.frame ∷ [])) p ≡ Some (xs ++ o.frame ∷ []) in
        subst P (sym same)
        (get_set_here lists p xs (get_or lists p [] ++ o.frame ∷ []) found ∙ ap (λ (x : List Frame). Some (x ++ o.frame ∷ [])) (got lists p xs [] found))
    by_number false e =
        get_set_other lists o.peer p (get_or lists o.peer [] ++ o.frame ∷ []) (eqb-false p o.peer e) ∙ found ∙ ap (λ (x : List Frame). Some x) (sym (append-nil xs))

sent_out_length : (lists : List (List Frame)) (outs : List Outgoing) → length (sent_out lists outs) ≡ length lists
sent_out_length lists [] = refl
sent_out_length lists (o ∷ outs) =
    sent_out_length (set lists o.peer (get_or lists o.peer [] ++ o.frame ∷ [])) outs ∙ length-set lists o.peer (get_or lists o.peer [] ++ o.frame ∷ [])

-- all frames of a station with one peer go to it
to_the_one : (count : ℕ) (outs : List Outgoing) → count ≤ 1 → AllByRecursion (λ (o : Outgoing). o.peer < count) outs → map (λ o. o.frame) outs ≡ frames_to 0 outs
to_the_one count [] l w = refl
to_the_one count (o ∷ outs) l w =
    let below : o.peer < count = w.0 in
    let first : nat_eq 0 o.peer ≡ true = is_zero o.peer (omega arith) in
    ap (λ (x : List Frame). o.frame ∷ x) (to_the_one count outs l w.1) ∙ ap (λ (b : Bool). frame_if b o.frame ++ frames_to 0 outs) (sym first)
  where
    is_zero : (p : ℕ) → p < 1 → nat_eq 0 p ≡ true
    is_zero p h = grind (arith, nat_tests)

one_end : (ends : List Image) (e : Image) → length ends ≡ 1 → slice_get ends 0 ≡ Some e → ends ≡ e ∷ []
one_end [] e size found = cc
one_end (x ∷ []) e size found = ap (λ (y : Image). y ∷ []) (some_of x e found)
one_end (x ∷ y ∷ rest) e size found = absurd (omega arith)

-- the coordinator's station did something
pub shown_at_coordinator : {OfCoordinator OfFederate CoordinatorRow : Type 0} (of_coordinator : Core OfCoordinator CoordinatorRow) (w : World OfCoordinator OfFederate) (count : ℕ) (links : ℕ → Link) (e : Event) (place : ℕ) (made : Stepped OfCoordinator) (c : IsCourse of_coordinator true w.coordinator e (ups_of links) place made) → IsShown w count links → IsShown (after_coordinator w made).world count (with_firsts links (λ p. acted (links p).first (ups_of links p) (c.acts p)))
shown_at_coordinator of_coordinator w count links e place made c shown =
    record {
      ends = c.size ∙ shown.ends;
      federates = shown.federates;
      ups = shown.ups;
      downs = sent_out_length w.down (frames_of made.answer) ∙ shown.downs;
      each = λ j l. (
          let at = shown.each j l in
          let seen = c.seen j (links j).first at.first in
          record {
            first = seen.end;
            station = at.station;
            there = at.there;
            second = at.second;
            up = at.up;
            down = sent_out_at w.down (frames_of made.answer) j (links j).first.sent at.down ∙ ap (λ (x : List Frame). Some x) (sym seen.frames);
          });
    }

-- the link of a federate, and the others
pub at_own : {X : Type 0} (links : ℕ → X) (j : ℕ) (l : X) → with_one links j l j ≡ l
at_own links j l = ap (λ (b : Bool). if b then l else links j) (eq-eqb j j refl)

pub at_other : {X : Type 0} (links : ℕ → X) (j k : ℕ) (l : X) → k ≢ j → with_one links j l k ≡ links k
at_other links j k l o = ap (λ (b : Bool). if b then l else links k) (ne_eqb k j o)

pub same_or_not : (j k : ℕ) → (k ≡ j) ⊎ (k ≢ j)
same_or_not j k = by_number (nat_eq k j) refl
  where
    by_number : (b : Bool) → nat_eq k j ≡ b → (k ≡ j) ⊎ (k ≢ j)
    by_number true e = inl (eqb-true k j e)
    by_number false e = inr (eqb-false k j e)

-- a federate's station did something
pub shown_at_federate : {OfCoordinator OfFederate Row : Type 0} (of_federate : Core OfFederate Row) (w : World OfCoordinator OfFederate) (count : ℕ) (links : ℕ → Link) (j : ℕ) (s : Station OfFederate) (e : Event) (place : ℕ) (made : Stepped OfFederate) (c : IsCourse of_federate false s e (λ p. (links j).first.sent) place made) → slice_get w.federates j ≡ Some s → j < count → IsShown w count links → IsShown (after_federate w j made).world count (with_second links j (acted (links j).second (links j).first.sent (c.acts 0)))
shown_at_federate {OfFederate = OfFederate} of_federate w count links j s e place made c is below shown =
    let at = shown.each j below in
    let same : at.station ≡ s = some_of at.station s (sym at.there ∙ is) in
    let E : Station OfFederate → Type 0 = λ x. x.ends ≡ (links j).second.end ∷ [] in
    let ends : s.ends ≡ (links j).second.end ∷ [] = subst E same at.second in
    let size : length s.ends ≡ 1 = ap length ends in
    let found : slice_get s.ends 0 ≡ Some (links j).second.end = ap (λ (x : List Image). slice_get x 0) ends in
    let seen = c.seen 0 (links j).second found in
    let all = to_the_one (length s.ends) (frames_of made.answer) (omega arith) c.within in
    let mine : Link = record { first = (links j).first; second = acted (links j).second (links j).first.sent (c.acts 0) } in
    record {
      ends = shown.ends;
      federates = length-set w.federates j made.station ∙ shown.federates;
      ups = length-set w.up j (get_or w.up j [] ++ map (λ o. o.frame) (frames_of made.answer)) ∙ shown.ups;
      downs = shown.downs;
      each = λ k l. (
          let P : Link → Type 0 = λ x. IsAt (after_federate w j made).world k x in
          let other = shown.each k l in
          elim (same_or_not j k) [
            | inl here ↦
                let Q : ℕ → Type 0 = λ x. IsAt (after_federate w j made).world x (with_one links j mine x) in
                let R : Link → Type 0 = λ x. IsAt (after_federate w j made).world j x in
                subst Q (sym here)
                (subst R (sym (at_own links j mine))
                (record {
                  first = at.first;
                  station = made.station;
                  there = get_set_here w.federates j s made.station is;
                  second = one_end made.station.ends mine.second.end (c.size ∙ size) seen.end;
                  up =
                      get_set_here w.up j (links j).second.sent (get_or w.up j [] ++ map (λ o. o.frame) (frames_of made.answer)) at.up ∙
                      ap (λ (x : List Frame). Some x) (ap (λ (x : List Frame). x ++ map (λ o. o.frame) (frames_of made.answer)) (got w.up j (links j).second.sent [] at.up) ∙ ap (λ (x : List Frame). (links j).second.sent ++ x) all ∙ sym seen.frames);
                  down = at.down;
                }))
            | inr apart ↦
                subst P (sym (at_other links j k mine apart))
                (record {
                  first = other.first;
                  station = other.station;
                  there = get_set_other w.federates j k made.station apart ∙ other.there;
                  second = other.second;
                  up = get_set_other w.up j k (get_or w.up j [] ++ map (λ o. o.frame) (frames_of made.answer)) apart ∙ other.up;
                  down = other.down;
                })
          ]);
    }

-- a federate forgot all
pub shown_lost : {OfCoordinator OfFederate Row : Type 0} (of_federate : Core OfFederate Row) (w : World OfCoordinator OfFederate) (count : ℕ) (links : ℕ → Link) (j : ℕ) (s : Station OfFederate) → slice_get w.federates j ≡ Some s → j < count → IsShown w count links → IsShown (record w { federates = set w.federates j (forgotten of_federate s) }) count (with_second links j (replaced (links j).second))
shown_lost of_federate w count links j s is below shown =
    let at = shown.each j below in
    let same : at.station ≡ s = some_of at.station s (sym at.there ∙ is) in
    let E : Station _ → Type 0 = λ x. x.ends ≡ (links j).second.end ∷ [] in
    let ends : s.ends ≡ (links j).second.end ∷ [] = subst E same at.second in
    let mine : Link = record { first = (links j).first; second = replaced (links j).second } in
    record {
      ends = shown.ends;
      federates = length-set w.federates j (forgotten of_federate s) ∙ shown.federates;
      ups = shown.ups;
      downs = shown.downs;
      each = λ k l. (
          let P : Link → Type 0 = λ x. IsAt (record w { federates = set w.federates j (forgotten of_federate s) }) k x in
          let other = shown.each k l in
          elim (same_or_not j k) [
            | inl here ↦
                let Q : ℕ → Type 0 = λ x. IsAt (record w { federates = set w.federates j (forgotten of_federate s) }) x (with_one links j mine x) in
                let R : Link → Type 0 = λ x. IsAt (record w { federates = set w.federates j (forgotten of_federate s) }) j x in
                subst Q (sym here)
                (subst R (sym (at_own links j mine))
                (record {
                  first = at.first;
                  station = forgotten of_federate s;
                  there = get_set_here w.federates j s (forgotten of_federate s) is;
                  second = ap (λ (x : List Image). map blank_next x) ends;
                  up = at.up;
                  down = at.down;
                }))
            | inr apart ↦
                subst P (sym (at_other links j k mine apart))
                (record {
                  first = other.first;
                  station = other.station;
                  there = get_set_other w.federates j k (forgotten of_federate s) apart ∙ other.there;
                  second = other.second;
                  up = other.up;
                  down = other.down;
                })
          ]);
    }

-- a frame of a direction at its place, if there is one
there_or_not : (b : Bool) → (b ≡ true) ⊎ (b ≡ false)
there_or_not true = inl refl
there_or_not false = inr refl

below_is : (j k : ℕ) → nat_lt j k ≡ true → j < k
below_is j k e = grind (arith, nat_tests)

abbrev Holds : (ℕ → Link) → ℕ → Type 0
Holds links count = (j : ℕ) → j < count → IsHeld 1 (links j)

-- a step that is no event
no_event : {OfCoordinator OfFederate CoordinatorRow Row : Type 0} (of_coordinator : Core OfCoordinator CoordinatorRow) (of_federate : Core OfFederate Row) (w : World OfCoordinator OfFederate) (count : ℕ) (links : ℕ → Link) (step : Step) (o : Option Occurrence) → o ≡ None → Happened of_coordinator of_federate w count links step (happens of_coordinator of_federate w o)
no_event {OfCoordinator = OfCoordinator} {OfFederate = OfFederate} of_coordinator of_federate w count links step o e =
    let P : Option Occurrence → Type 0 = λ x. Happened of_coordinator of_federate w count links step (happens of_coordinator of_federate w x) in
    subst P (sym e) (nowhere refl)

-- an event at the coordinator
coordinator_event : {OfCoordinator OfFederate CoordinatorRow Row : Type 0} (of_coordinator : Core OfCoordinator CoordinatorRow) (of_federate : Core OfFederate Row) (w : World OfCoordinator OfFederate) (count : ℕ) (links : ℕ → Link) (step : Step) (e : Event) (place : ℕ) → Comes w.coordinator (ups_of links) place e → Brings w step e → Happened of_coordinator of_federate w count links step (after_coordinator w (step_of of_coordinator true w.coordinator e))
coordinator_event of_coordinator of_federate w count links step e place comes brings = happened_at_coordinator e place comes (step_course of_coordinator true w.coordinator e (ups_of links) place comes) brings refl

-- an event at a federate that is there
federate_event : {OfCoordinator OfFederate CoordinatorRow Row : Type 0} (of_coordinator : Core OfCoordinator CoordinatorRow) (of_federate : Core OfFederate Row) (w : World OfCoordinator OfFederate) (count : ℕ) (links : ℕ → Link) (step : Step) (j : ℕ) (s : Station OfFederate) (e : Event) (place : ℕ) (o : Option (Station OfFederate)) → slice_get w.federates j ≡ o → o ≡ Some s → j < count → Comes s (λ p. (links j).first.sent) place e → Brings w step e → Happened of_coordinator of_federate w count links step (at_federate of_federate w j e o)
federate_event {OfFederate = OfFederate} of_coordinator of_federate w count links step j s e place o is found below comes brings =
    let P : Option (Station OfFederate) → Type 0 = λ x. Happened of_coordinator of_federate w count links step (at_federate of_federate w j e x) in
    subst P (sym found) (happened_at_federate j s e place below (is ∙ found) comes (step_course of_federate false s e (λ p. (links j).first.sent) place comes) brings refl)

-- a frame comes to the coordinator
up_comes : {OfCoordinator OfFederate CoordinatorRow Row : Type 0} (of_coordinator : Core OfCoordinator CoordinatorRow) (of_federate : Core OfFederate Row) (w : World OfCoordinator OfFederate) (count : ℕ) (links : ℕ → Link) (j k : ℕ) (o : Option Frame) → IsShown w count links → Holds links count → j < count → slice_get (links j).second.sent k ≡ o → slice_get (frames_in w (Up j)) k ≡ o → Happened of_coordinator of_federate w count links (Deliver (Up j) (suc k)) (happens of_coordinator of_federate w (delivered (Up j) o))
up_comes of_coordinator of_federate w count links j k None shown held below is same = nowhere refl
up_comes of_coordinator of_federate w count links j k (Some frame) shown held below is same =
    let at = shown.each j below in
    coordinator_event of_coordinator of_federate w count links (Deliver (Up j) (suc k)) (event.Frame j frame) k (
      is,
      λ e found. (
          let P : Image → Type 0 = λ x. answer_of x frame ≢ Err LinkFault.AckOfUnsent in
          subst P (some_of (links j).first.end e (sym at.first ∙ found)) (first_told 1 (links j) (held j below) k frame is)),
    )
    (ap signal_in same)

-- a frame comes to a federate
down_comes : {OfCoordinator OfFederate CoordinatorRow Row : Type 0} (of_coordinator : Core OfCoordinator CoordinatorRow) (of_federate : Core OfFederate Row) (w : World OfCoordinator OfFederate) (count : ℕ) (links : ℕ → Link) (j k : ℕ) (o : Option Frame) → IsShown w count links → Holds links count → j < count → slice_get (links j).first.sent k ≡ o → slice_get (frames_in w (Down j)) k ≡ o → Happened of_coordinator of_federate w count links (Deliver (Down j) (suc k)) (happens of_coordinator of_federate w (delivered (Down j) o))
down_comes of_coordinator of_federate w count links j k None shown held below is same = nowhere refl
down_comes of_coordinator of_federate w count links j k (Some frame) shown held below is same =
    let at = shown.each j below in
    federate_event of_coordinator of_federate w count links (Deliver (Down j) (suc k)) j at.station (event.Frame 0 frame) k (slice_get w.federates j) refl at.there below (
      is,
      λ e found. (
          let P : Image → Type 0 = λ x. answer_of x frame ≢ Err LinkFault.AckOfUnsent in
          subst P (some_of (links j).second.end e (sym (ap (λ (x : List Image). slice_get x 0) at.second) ∙ found)) (second_told 1 (links j) (held j below) k frame is)),
    )
    (ap signal_in same)

-- a frame of a direction that isn't there doesn't come
absent : {OfCoordinator OfFederate CoordinatorRow Row : Type 0} (of_coordinator : Core OfCoordinator CoordinatorRow) (of_federate : Core OfFederate Row) (w : World OfCoordinator OfFederate) (count : ℕ) (links : ℕ → Link) (dir : Dir) (k : ℕ) → frames_in w dir ≡ [] → Happened of_coordinator of_federate w count links (Deliver dir k) (happens of_coordinator of_federate w (delivered dir (frame_at (frames_in w dir) k)))
absent of_coordinator of_federate w count links dir k none = no_event of_coordinator of_federate w count links (Deliver dir k) (delivered dir (frame_at (frames_in w dir) k)) (ap (λ (x : List Frame). delivered dir (frame_at x k)) none ∙ none_at k)
  where
    none_at : (k : ℕ) → delivered dir (frame_at [] k) ≡ None
    none_at zero = refl
    none_at (suc k) = refl

delivers : {OfCoordinator OfFederate CoordinatorRow Row : Type 0} (of_coordinator : Core OfCoordinator CoordinatorRow) (of_federate : Core OfFederate Row) (w : World OfCoordinator OfFederate) (count : ℕ) (links : ℕ → Link) (dir : Dir) (k : ℕ) → IsShown w count links → Holds links count → Happened of_coordinator of_federate w count links (Deliver dir k) (happens of_coordinator of_federate w (delivered dir (frame_at (frames_in w dir) k)))
delivers of_coordinator of_federate w count links dir zero shown held = nowhere refl
delivers of_coordinator of_federate w count links (Up j) (suc k) shown held =
    elim (cases_lt j count) [
      | inl below ↦
          let frames : frames_in w (Up j) ≡ (links j).second.sent = got w.up j (links j).second.sent [] (shown.each j below).up in
          up_comes of_coordinator of_federate w count links j k (slice_get (frames_in w (Up j)) k) shown held below (ap (λ (x : List Frame). slice_get x k) (sym frames)) refl
      | inr beyond ↦ absent of_coordinator of_federate w count links (Up j) (suc k) (none_beyond w.up j [] (let size = shown.ups in omega arith))
    ]
delivers of_coordinator of_federate w count links (Down j) (suc k) shown held =
    elim (cases_lt j count) [
      | inl below ↦
          let frames : frames_in w (Down j) ≡ (links j).first.sent = got w.down j (links j).first.sent [] (shown.each j below).down in
          down_comes of_coordinator of_federate w count links j k (slice_get (frames_in w (Down j)) k) shown held below (ap (λ (x : List Frame). slice_get x k) (sym frames)) refl
      | inr beyond ↦ absent of_coordinator of_federate w count links (Down j) (suc k) (none_beyond w.down j [] (let size = shown.downs in omega arith))
    ]

-- what happens where there is such a federate
if_below : {OfCoordinator OfFederate CoordinatorRow Row : Type 0} (of_coordinator : Core OfCoordinator CoordinatorRow) (of_federate : Core OfFederate Row) (w : World OfCoordinator OfFederate) (count : ℕ) (links : ℕ → Link) (step : Step) (j : ℕ) (o : Occurrence) → IsShown w count links → (j < count → Happened of_coordinator of_federate w count links step (happens of_coordinator of_federate w (Some o))) → Happened of_coordinator of_federate w count links step (happens of_coordinator of_federate w (if_there w j o))
if_below of_coordinator of_federate w count links step j o shown then_so = by_number (nat_lt j (length w.federates)) refl
  where
    by_number : (b : Bool) → nat_lt j (length w.federates) ≡ b → Happened of_coordinator of_federate w count links step (happens of_coordinator of_federate w (if b then Some o else None))
    by_number true e = then_so (let below = below_is j (length w.federates) e in let size = shown.federates in omega arith)
    by_number false e = nowhere refl

-- an event at a federate that its station is asked for
asked : {OfCoordinator OfFederate CoordinatorRow Row : Type 0} (of_coordinator : Core OfCoordinator CoordinatorRow) (of_federate : Core OfFederate Row) (w : World OfCoordinator OfFederate) (count : ℕ) (links : ℕ → Link) (step : Step) (j : ℕ) (e : Event) → IsShown w count links → ((s : Station OfFederate) → Comes s (λ p. (links j).first.sent) 0 e) → Brings w step e → j < count → Happened of_coordinator of_federate w count links step (at_federate of_federate w j e (slice_get w.federates j))
asked of_coordinator of_federate w count links step j e shown comes brings below =
    let at = shown.each j below in
    federate_event of_coordinator of_federate w count links step j at.station e 0 (slice_get w.federates j) refl at.there below (comes at.station) brings

loses : {OfCoordinator OfFederate CoordinatorRow Row : Type 0} (of_coordinator : Core OfCoordinator CoordinatorRow) (of_federate : Core OfFederate Row) (w : World OfCoordinator OfFederate) (count : ℕ) (links : ℕ → Link) (j : ℕ) (o : Option (Station OfFederate)) → slice_get w.federates j ≡ o → IsShown w count links → Happened of_coordinator of_federate w count links (Forget j) (forgets of_federate w j o)
loses of_coordinator of_federate w count links j None is shown = nowhere refl
loses of_coordinator of_federate w count links j (Some s) is shown = by_next (has_next s.ends)
  where
    there : (j < count) ⊎ (count ≤ j) → j < count
    there (inl below) = below
    there (inr beyond) = let none = nothing_beyond w.federates j (let size = shown.federates in omega arith) in cc

    by_next : (b : Bool) → Happened of_coordinator of_federate w count links (Forget j) (if b then record { world = record w { federates = set w.federates j (forgotten of_federate s) }; outcome = outcome.Done } else unchanged w)
    by_next true = lost j s (there (cases_lt j count)) is refl refl
    by_next false = nowhere refl

-- what a step comes to
pub happened : {OfCoordinator OfFederate CoordinatorRow Row : Type 0} (of_coordinator : Core OfCoordinator CoordinatorRow) (of_federate : Core OfFederate Row) (w : World OfCoordinator OfFederate) (count : ℕ) (links : ℕ → Link) (step : Step) → IsShown w count links → ((j : ℕ) → j < count → IsHeld 1 (links j)) → Happened of_coordinator of_federate w count links step (does of_coordinator of_federate w step)
happened of_coordinator of_federate w count links (Deliver dir k) shown held = delivers of_coordinator of_federate w count links dir k shown held
happened of_coordinator of_federate w count links (Resend (Up j)) shown held =
    if_below of_coordinator of_federate w count links (Resend (Up j)) j (sends_again (Up j)) shown (λ below. asked of_coordinator of_federate w count links (Resend (Up j)) j (event.Resend 0) shown (λ s. tt) tt below)
happened of_coordinator of_federate w count links (Resend (Down j)) shown held =
    if_below of_coordinator of_federate w count links (Resend (Down j)) j (sends_again (Down j)) shown (λ below. coordinator_event of_coordinator of_federate w count links (Resend (Down j)) (event.Resend j) 0 tt tt)
happened of_coordinator of_federate w count links (Reconnect (Up j)) shown held =
    if_below of_coordinator of_federate w count links (Reconnect (Up j)) j (greets (Up j)) shown (λ below. asked of_coordinator of_federate w count links (Reconnect (Up j)) j (event.Hello 0) shown (λ s. tt) tt below)
happened of_coordinator of_federate w count links (Reconnect (Down j)) shown held =
    if_below of_coordinator of_federate w count links (Reconnect (Down j)) j (greets (Down j)) shown (λ below. coordinator_event of_coordinator of_federate w count links (Reconnect (Down j)) (event.Hello j) 0 tt tt)
happened of_coordinator of_federate w count links (Announce j) shown held =
    if_below of_coordinator of_federate w count links (Announce j) j (record { node = Federate j; event = event.Announce }) shown (λ below. asked of_coordinator of_federate w count links (Announce j) j event.Announce shown (λ s. tt) tt below)
happened of_coordinator of_federate w count links (Advance j) shown held =
    if_below of_coordinator of_federate w count links (Advance j) j (record { node = Federate j; event = event.Advance }) shown (λ below. asked of_coordinator of_federate w count links (Advance j) j event.Advance shown (λ s. tt) tt below)
happened of_coordinator of_federate w count links (Forget j) shown held = loses of_coordinator of_federate w count links j (slice_get w.federates j) refl shown

-- the steps that are listed change nothing of this
pub shown_listed : {OfCoordinator Node : Type 0} (w : World OfCoordinator Node) (count : ℕ) (links : ℕ → Link) (steps : List Step) → IsShown w count links → IsShown (record w { steps = steps }) count links
shown_listed w count links steps s =
    record {
      ends = s.ends;
      federates = s.federates;
      ups = s.ups;
      downs = s.downs;
      each = λ j l. (let at = s.each j l in record { first = at.first; station = at.station; there = at.there; second = at.second; up = at.up; down = at.down });
    }

-- what stands at a place of a list that is made by number
pub made_at : {X : Type 0} (f : ℕ → X) (count j : ℕ) → j < count → slice_get (map f (range_with_len 0 count)) j ≡ Some (f j)
made_at f count j l =
    let size = length-map-range_with_len f 0 count in
    let got = get_or-map-range_with_len f 0 count j j (f j) l (omega arith) in
    slice_get-get_or (map f (range_with_len 0 count)) j (f j) (omega arith) ∙ ap (λ x. Some x) got

-- a world of which nothing was asked yet
pub opened_shown : {OfCoordinator OfFederate : Type 0} (of_coordinator : OfCoordinator) (count : ℕ) (federate_at : ℕ → OfFederate) (room : ℕ) → IsShown (opened of_coordinator count federate_at room) count (λ j. initial_link j 1 room)
opened_shown {OfFederate = OfFederate} of_coordinator count federate_at room =
    let end : ℕ → Image = λ j. blank j 1 room in
    let station : ℕ → Station OfFederate = λ j. record { node = federate_at j; ends = blank j 1 room ∷ [] } in
    let none : ℕ → List Frame = λ j. [] in
    record {
      ends = length-map-range_with_len end 0 count;
      federates = length-map-range_with_len station 0 count;
      ups = length-map-range_with_len none 0 count;
      downs = length-map-range_with_len none 0 count;
      each = λ j l. record {
        first = made_at end count j l;
        station = station j;
        there = made_at station count j l;
        second = refl;
        up = made_at none count j l;
        down = made_at none count j l;
      };
    }
