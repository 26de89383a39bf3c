-- What is taken of each direction of a world, in each incarnation, is a prefix of what was offered in it: whatever nodes there are.
use Rattle.std.proofs.Common.{◌≡◌, ◌≢◌, ℕ, ◌+◌, ◌<◌, ◌≤◌, ◌⊎◌, inl, inr, Bool, true, false, List, [], ◌∷◌, ◌++◌, length, take, drop, set, slice_get, refl, sym, ap, subst, ◌∙◌, arith, Option, None, Some, if◌then◌else◌}
use Rattle.std.specs.Prelude.{nat_eq, nat_lt, ◌&&◌}
use Rattle.std.proofs.lemmas.Bool.{cases_lt, ne_eqb, eq-eqb, eqb-true, eqb-false}
use Rattle.std.proofs.lemmas.Bool.Decides.{nat_tests}
use Rattle.std.proofs.lemmas.List.{append-nil, append_assoc, take-append-drop}
use Rattle.network.specs.Network.{with_one}
use Rattle.signal.specs.declared.signal.Signal.{Signal}
use Rattle.signal.specs.declared.frame.Frame.{Frame}
use Rattle.signal.specs.declared.frame.Frame.TheVariants.{Hello, Data, Ack, Refuse}
use Rattle.link.specs.Image.{Image}
use Rattle.link.specs.Taken.{carried_by}
use Rattle.node.specs.declared.event.Event.{Event}
use Rattle.node.specs.declared.event.Event.TheVariants as event
use Rattle.node.specs.Core.{Core}
use Rattle.node.specs.Step.{Station, Stepped, step_of}
use Rattle.link_laws.specs.Direction.{with_offered, offered_with, offered_in}
use Rattle.link_laws.specs.Link.{Side, Link, replaced, initial_link}
use Rattle.link_laws.proofs.Ways.{offered-append}
use Rattle.link_laws.proofs.Acts.{IsHeld, forgets, held, first_in_order, second_in_order}
use Rattle.world_stations.specs.declared.dir.Dir.{Dir}
use Rattle.world_stations.specs.declared.dir.Dir.TheVariants.{Up, Down}
use Rattle.world_stations.specs.declared.step.Step.{Step}
use Rattle.world_stations.specs.World.{World, frames_in, frames_of, Applied, after_coordinator, after_federate, forgotten, does, applied, after_steps, opened}
use Rattle.network_laws.specs.Settled.{BeginsWith}
use Rattle.world_stations.specs.Taken.{own_end, receiver, number_taken, brought_by, newly_taken, taken_in}
use Rattle.world_stations.proofs.Posting.{frames_to}
use Rattle.world_stations.proofs.Course.{acted, Comes, IsCourse}
use Rattle.world_stations.proofs.Shown.{IsShown, ups_of, with_firsts, Brings, nowhere, happened_at_coordinator, happened_at_federate, lost, happened, shown_at_coordinator, shown_at_federate, shown_lost, shown_listed, opened_shown, at_own, at_other, same_or_not, got, none_beyond, nothing_beyond}
use Rattle.world_stations.proofs.Courses.{some_of}
use Rattle.world_stations.proofs.Site.{firsts_held, seconds_held}
use Rattle.world_stations.proofs.Taking.{Took, nothing_took, course_took, not_below}
use Rattle.world_stations.proofs.Quiet.{as_it_was}

-- a federate's side after a step: it took what is new of what the step brings, or it is replaced by a blank one
pub data Turned (s after : Side) (brought : List Signal) : Type 0 where
  takes : Took s after brought → Turned s after brought
  replaces : after ≡ replaced s → Turned s after brought

-- frames that go on from these
abbrev Extends : List Frame → List Frame → Type 0
Extends before after = (more : List Frame) × (after ≡ before ++ more)

-- a link after a step
record IsTurned (l after : Link) (brought : List Signal) : Type 0 where
  held : IsHeld 1 after
  first : Took l.first after.first brought
  second : Turned l.second after.second brought
  up : Extends l.second.sent after.second.sent
  down : Extends l.first.sent after.first.sent

stays : (l : Link) (brought : List Signal) → IsHeld 1 l → IsTurned l l brought
stays l brought h =
    record {
      held = h;
      first = nothing_took l.first l.first brought (as_it_was l.first);
      second = takes (nothing_took l.second l.second brought (as_it_was l.second));
      up = ([], sym (append-nil l.second.sent));
      down = ([], sym (append-nil l.first.sent));
    }

-- a world after a step
record IsChanged {OfCoordinator OfFederate : Type 0} (w : World OfCoordinator OfFederate) (count : ℕ) (links : ℕ → Link) (brought : List Signal) : Type 0 where
  after : ℕ → Link
  shown : IsShown w count after
  each : (j : ℕ) → j < count → IsTurned (links j) (after j) brought

pub brings_as : {OfCoordinator OfFederate : Type 0} (w : World OfCoordinator OfFederate) (step : Step) (e : Event) → Brings w step e → (q : ℕ) (frame : Frame) → e ≡ event.Frame q frame → brought_by w step ≡ carried_by frame
brings_as w step e brings q frame is = let P : Event → Type 0 = λ x. Brings w step x in subst P is brings

changed_at_coordinator : {OfCoordinator OfFederate CoordinatorRow : Type 0} (of_coordinator : Core OfCoordinator CoordinatorRow) (w : World OfCoordinator OfFederate) (count : ℕ) (links : ℕ → Link) (step : Step) (e : Event) (place : ℕ) (made : Stepped OfCoordinator) (c : IsCourse of_coordinator true w.coordinator e (ups_of links) place made) → Comes w.coordinator (ups_of links) place e → Brings w step e → IsShown w count links → ((j : ℕ) → j < count → IsHeld 1 (links j)) → IsChanged (after_coordinator w made).world count links (brought_by w step)
changed_at_coordinator of_coordinator w count links step e place made c comes brings shown held =
    record {
      after = with_firsts links (λ p. acted (links p).first (ups_of links p) (c.acts p));
      shown = shown_at_coordinator of_coordinator w count links e place made c shown;
      each = λ j l. (
          let at = shown.each j l in
          let seen = c.seen j (links j).first at.first in
          record {
            held = firsts_held (links j) (c.acts j) (held j l);
            first = course_took of_coordinator true w.coordinator e (ups_of links) place made c (brought_by w step) comes (brings_as w step e brings) j (links j).first at.first;
            second = takes (nothing_took (links j).second (links j).second (brought_by w step) (as_it_was (links j).second));
            up = ([], sym (append-nil (links j).second.sent));
            down = (frames_to j (frames_of made.answer), seen.frames);
          });
    }

-- a link of a federate, where only one changed
one_turned : (count : ℕ) (links : ℕ → Link) (j : ℕ) (mine : Link) (brought : List Signal) → ((k : ℕ) → k < count → IsHeld 1 (links k)) → IsTurned (links j) mine brought → (k : ℕ) → k < count → IsTurned (links k) (with_one links j mine k) brought
one_turned count links j mine brought held turned k l =
    elim (same_or_not j k) [
      | inl here ↦
          let Q : ℕ → Type 0 = λ x. IsTurned (links x) (with_one links j mine x) brought in
          let R : Link → Type 0 = λ x. IsTurned (links j) x brought in
          subst Q (sym here) (subst R (sym (at_own links j mine)) turned)
      | inr apart ↦ (let R : Link → Type 0 = λ x. IsTurned (links k) x brought in subst R (sym (at_other links j k mine apart)) (stays (links k) brought (held k l)))
    ]

changed_at_federate : {OfCoordinator OfFederate Row : Type 0} (of_federate : Core OfFederate Row) (w : World OfCoordinator OfFederate) (count : ℕ) (links : ℕ → Link) (step : Step) (j : ℕ) (s : Station OfFederate) (e : Event) (place : ℕ) (made : Stepped OfFederate) (c : IsCourse of_federate false s e (λ p. (links j).first.sent) place made) → slice_get w.federates j ≡ Some s → j < count → Comes s (λ p. (links j).first.sent) place e → Brings w step e → IsShown w count links → ((k : ℕ) → k < count → IsHeld 1 (links k)) → IsChanged (after_federate w j made).world count links (brought_by w step)
changed_at_federate {OfFederate = OfFederate} of_federate w count links step j s e place made c is below comes brings shown held =
    let at = shown.each j below in
    let E : Station OfFederate → Type 0 = λ x. x.ends ≡ (links j).second.end ∷ [] in
    let ends : s.ends ≡ (links j).second.end ∷ [] = subst E (some_of at.station s (sym at.there ∙ is)) at.second in
    let found : slice_get s.ends 0 ≡ Some (links j).second.end = ap (λ (x : List Image). slice_get x 0) ends in
    let seen = c.seen 0 (links j).second found in
    let mine : Link = record { first = (links j).first; second = acted (links j).second (links j).first.sent (c.acts 0) } in
    record {
      after = with_one links j mine;
      shown = shown_at_federate of_federate w count links j s e place made c is below shown;
      each = one_turned count links j mine (brought_by w step) held
          (record {
            held = seconds_held (links j) (c.acts 0) (held j below);
            first = nothing_took (links j).first (links j).first (brought_by w step) (as_it_was (links j).first);
            second = takes (course_took of_federate false s e (λ p. (links j).first.sent) place made c (brought_by w step) comes (brings_as w step e brings) 0 (links j).second found);
            up = (frames_to 0 (frames_of made.answer), seen.frames);
            down = ([], sym (append-nil (links j).first.sent));
          });
    }

changed_lost : {OfCoordinator OfFederate Row : Type 0} (of_federate : Core OfFederate Row) (w : World OfCoordinator OfFederate) (count : ℕ) (links : ℕ → Link) (brought : List Signal) (j : ℕ) (s : Station OfFederate) → slice_get w.federates j ≡ Some s → j < count → IsShown w count links → ((k : ℕ) → k < count → IsHeld 1 (links k)) → IsChanged (record w { federates = set w.federates j (forgotten of_federate s) }) count links brought
changed_lost of_federate w count links brought j s is below shown held =
    let mine : Link = record { first = (links j).first; second = replaced (links j).second } in
    record {
      after = with_one links j mine;
      shown = shown_lost of_federate w count links j s is below shown;
      each = one_turned count links j mine brought held
          (record {
            held = forgets 1 (links j) (held j below);
            first = nothing_took (links j).first (links j).first brought (as_it_was (links j).first);
            second = replaces refl;
            up = ([], sym (append-nil (links j).second.sent));
            down = ([], sym (append-nil (links j).first.sent));
          });
    }

-- each step turns each link
changed : {OfCoordinator OfFederate CoordinatorRow Row : Type 0} (of_coordinator : Core OfCoordinator CoordinatorRow) (of_federate : Core OfFederate Row) (w : World OfCoordinator OfFederate) (count : ℕ) (links : ℕ → Link) (step : Step) → IsShown w count links → ((j : ℕ) → j < count → IsHeld 1 (links j)) → IsChanged (does of_coordinator of_federate w step).world count links (brought_by w step)
changed {OfCoordinator = OfCoordinator} {OfFederate = OfFederate} of_coordinator of_federate w count links step shown held =
    let C : Applied OfCoordinator OfFederate → Type 0 = λ x. IsChanged x.world count links (brought_by w step) in
    elim (happened of_coordinator of_federate w count links step shown held) [
      | nowhere is ↦ subst C (sym is) (record { after = links; shown = shown; each = λ j l. stays (links j) (brought_by w step) (held j l) })
      | happened_at_coordinator e place comes c brings is ↦ subst C (sym is) (changed_at_coordinator of_coordinator w count links step e place (step_of of_coordinator true w.coordinator e) c comes brings shown held)
      | happened_at_federate j s e place below there comes c brings is ↦ subst C (sym is) (changed_at_federate of_federate w count links step j s e place (step_of of_federate false s e) c there below comes brings shown held)
      | lost j s below there is_step is ↦ subst C (sym is) (changed_lost of_federate w count links (brought_by w step) j s there below shown held)
    ]

-- what is new at an end, in an incarnation
abbrev pub New : (incarnation : ℕ) → Option Image → Option Image → List Signal → List Signal
New i before after brought = if nat_lt (number_taken i before) (number_taken i after) then brought else []

number_own : (i : ℕ) (e : Image) → e.incarnation ≡ i → number_taken i (Some e) ≡ e.taken
number_own i e is = ap (λ (b : Bool). if b then e.taken else 0) (eq-eqb e.incarnation i is)

number_other : (i : ℕ) (e : Image) → e.incarnation ≢ i → number_taken i (Some e) ≡ 0
number_other i e is = ap (λ (b : Bool). if b then e.taken else 0) (ne_eqb e.incarnation i is)

new_own : (i : ℕ) (s after : Side) (brought : List Signal) → s.end.incarnation ≡ i → Took s after brought → after.took ≡ s.took ++ New i (Some s.end) (Some after.end) brought
new_own i s after brought is t =
    let before = number_own i s.end is in
    let then_so = number_own i after.end (t.incarnation ∙ is) in
    t.took ∙ ap (λ (a : ℕ). s.took ++ (if nat_lt a after.end.taken then brought else [])) (sym before) ∙
    ap (λ (a : ℕ). s.took ++ (if nat_lt (number_taken i (Some s.end)) a then brought else [])) (sym then_so)

new_other : (i : ℕ) (s after : Side) (brought : List Signal) → s.end.incarnation ≢ i → Took s after brought → New i (Some s.end) (Some after.end) brought ≡ []
new_other i s after brought is t =
    let before = number_other i s.end is in
    let then_so = number_other i after.end (λ e. is (sym t.incarnation ∙ e)) in
    ap (λ (b : Bool). if b then brought else []) (not_below (number_taken i (Some s.end)) (number_taken i (Some after.end)) (then_so ∙ sym before))

pub new_replaced : (i : ℕ) (s : Side) (brought : List Signal) → New i (Some s.end) (Some (replaced s).end) brought ≡ []
new_replaced i s brought =
    ap (λ (b : Bool). if b then brought else []) (never (number_taken i (Some s.end)) (number_taken i (Some (replaced s).end)) (none (nat_eq (s.end.incarnation + 1) i) 0 refl))
  where
    never : (a b : ℕ) → b ≡ 0 → nat_lt a b ≡ false
    never a b e = grind (arith, nat_tests)

    none : (b : Bool) (z : ℕ) → z ≡ 0 → (if b then z else 0) ≡ 0
    none true z e = e
    none false z e = refl

-- more frames offer more
more_offered : (i : ℕ) (offered : List Signal) (frames : List Frame) → BeginsWith (offered_with i offered frames) offered
more_offered i offered [] = ([], sym (append-nil offered))
more_offered i offered (frame ∷ rest) =
    let next = one_more frame in
    let then_more = more_offered i (with_offered i offered frame) rest in
    (next.0 ++ then_more.0, then_more.1 ∙ ap (λ (x : List Signal). x ++ then_more.0) next.1 ∙ append_assoc offered next.0 then_more.0)
  where
    if_next : (b : Bool) (signal : Signal) → BeginsWith (if b then offered ++ signal ∷ [] else offered) offered
    if_next true signal = (signal ∷ [], refl)
    if_next false signal = ([], sym (append-nil offered))

    one_more : (frame : Frame) → BeginsWith (with_offered i offered frame) offered
    one_more (Hello hello) = ([], sym (append-nil offered))
    one_more (Data k n signal) = if_next (nat_eq k i && nat_eq n (length offered + 1)) signal
    one_more (Ack k n) = ([], sym (append-nil offered))
    one_more (Refuse k n) = ([], sym (append-nil offered))

begins_on : (i : ℕ) (before after : List Frame) (taken : List Signal) → Extends before after → BeginsWith (offered_in i before) taken → BeginsWith (offered_in i after) taken
begins_on i before after taken more begins =
    let grows = more_offered i (offered_in i before) more.0 in
    (begins.0 ++ grows.0, ap (offered_in i) more.1 ∙ offered-append i [] before more.0 ∙ grows.1 ∙ ap (λ (x : List Signal). x ++ grows.0) begins.1 ∙ append_assoc taken begins.0 grows.0)

-- what was taken so far, as far as it is known of links
record IsOrdered {OfCoordinator OfFederate : Type 0} (w : World OfCoordinator OfFederate) (count : ℕ) (links : ℕ → Link) (taken : Dir → ℕ → List Signal) : Type 0 where
  shown : IsShown w count links
  held : (j : ℕ) → j < count → IsHeld 1 (links j)
  begins : (dir : Dir) (i : ℕ) → BeginsWith (offered_in i (frames_in w dir)) (taken dir i)
  up : (j : ℕ) → j < count → taken (Up j) 1 ≡ (links j).first.took
  ups : (j i : ℕ) → j < count → i ≢ 1 → taken (Up j) i ≡ []
  down : (j i : ℕ) → j < count → (links j).second.end.incarnation ≡ i → taken (Down j) i ≡ (links j).second.took
  downs : (j i : ℕ) → j < count → (links j).second.end.incarnation < i → taken (Down j) i ≡ []

-- what is taken next
abbrev next_taken : {OfCoordinator OfFederate : Type 0} → World OfCoordinator OfFederate → World OfCoordinator OfFederate → Step → (Dir → ℕ → List Signal) → Dir → ℕ → List Signal
next_taken w after step taken dir i = taken dir i ++ newly_taken w after dir i step

frames_up : {OfCoordinator OfFederate : Type 0} (w : World OfCoordinator OfFederate) (count : ℕ) (links : ℕ → Link) (j : ℕ) → IsShown w count links → j < count → frames_in w (Up j) ≡ (links j).second.sent
frames_up w count links j shown l = got w.up j (links j).second.sent [] (shown.each j l).up

frames_down : {OfCoordinator OfFederate : Type 0} (w : World OfCoordinator OfFederate) (count : ℕ) (links : ℕ → Link) (j : ℕ) → IsShown w count links → j < count → frames_in w (Down j) ≡ (links j).first.sent
frames_down w count links j shown l = got w.down j (links j).first.sent [] (shown.each j l).down

pub own_is : {OfCoordinator OfFederate : Type 0} (w : World OfCoordinator OfFederate) (count : ℕ) (links : ℕ → Link) (j : ℕ) → IsShown w count links → j < count → receiver w (Down j) ≡ Some (links j).second.end
own_is w count links j shown l = let at = shown.each j l in ap own_end at.there ∙ ap (λ (x : List Image). slice_get x 0) at.second

-- what is new, at the ends that stand there
new_up : {OfCoordinator OfFederate : Type 0} (w after : World OfCoordinator OfFederate) (count : ℕ) (links others : ℕ → Link) (j i : ℕ) (step : Step) → IsShown w count links → IsShown after count others → j < count → newly_taken w after (Up j) i step ≡ New i (Some (links j).first.end) (Some (others j).first.end) (brought_by w step)
new_up w after count links others j i step shown then_shown l =
    ap (λ (o : Option Image). New i o (receiver after (Up j)) (brought_by w step)) (shown.each j l).first ∙ ap (λ (o : Option Image). New i (Some (links j).first.end) o (brought_by w step)) (then_shown.each j l).first

new_down : {OfCoordinator OfFederate : Type 0} (w after : World OfCoordinator OfFederate) (count : ℕ) (links others : ℕ → Link) (j i : ℕ) (step : Step) → IsShown w count links → IsShown after count others → j < count → newly_taken w after (Down j) i step ≡ New i (Some (links j).second.end) (Some (others j).second.end) (brought_by w step)
new_down w after count links others j i step shown then_shown l =
    ap (λ (o : Option Image). New i o (receiver after (Down j)) (brought_by w step)) (own_is w count links j shown l) ∙ ap (λ (o : Option Image). New i (Some (links j).second.end) o (brought_by w step)) (own_is after count others j then_shown l)

-- one incarnation or another
or_not : (a b : ℕ) → (a ≡ b) ⊎ (a ≢ b)
or_not a b = by_number (nat_eq a b) refl
  where
    by_number : (c : Bool) → nat_eq a b ≡ c → (a ≡ b) ⊎ (a ≢ b)
    by_number true e = inl (eqb-true a b e)
    by_number false e = inr (eqb-false a b e)

begins_as : (offered taken : List Signal) (k : ℕ) → taken ≡ take k offered → BeginsWith offered taken
begins_as offered taken k is = (drop k offered, sym (take-append-drop k offered) ∙ ap (λ (x : List Signal). x ++ drop k offered) (sym is))

-- a direction up, after a step
up_begins : (l after : Link) (brought taken : List Signal) (i : ℕ) → IsHeld 1 l → IsTurned l after brought → BeginsWith (offered_in i l.second.sent) taken → (1 ≡ i → taken ≡ l.first.took) → BeginsWith (offered_in i after.second.sent) (taken ++ New i (Some l.first.end) (Some after.first.end) brought)
up_begins l after brought taken i h t begins up =
    elim (or_not 1 i) [
      | inl is ↦
          let now : after.first.took ≡ taken ++ New i (Some l.first.end) (Some after.first.end) brought = new_own i l.first after.first brought (h.linked.here ∙ is) t.first ∙ ap (λ (x : List Signal). x ++ New i (Some l.first.end) (Some after.first.end) brought) (sym (up is)) in
          let P : ℕ → Type 0 = λ x. after.first.took ≡ take after.first.end.taken (offered_in x after.second.sent) in
          begins_as (offered_in i after.second.sent) _ after.first.end.taken (sym now ∙ subst P is (first_in_order 1 after t.held).in_order)
      | inr other ↦
          let none = new_other i l.first after.first brought (λ e. other (sym h.linked.here ∙ e)) t.first in
          let P : List Signal → Type 0 = λ x. BeginsWith (offered_in i after.second.sent) x in
          subst P (sym (ap (λ (x : List Signal). taken ++ x) none ∙ append-nil taken)) (begins_on i l.second.sent after.second.sent taken t.up begins)
    ]

-- a direction down
down_begins : (l after : Link) (brought taken : List Signal) (i : ℕ) → IsHeld 1 l → IsTurned l after brought → BeginsWith (offered_in i l.first.sent) taken → (l.second.end.incarnation ≡ i → taken ≡ l.second.took) → BeginsWith (offered_in i after.first.sent) (taken ++ New i (Some l.second.end) (Some after.second.end) brought)
down_begins l after brought taken i h t begins down =
    elim t.second [
      | takes took ↦
          elim (or_not l.second.end.incarnation i) [
            | inl is ↦
                let now : after.second.took ≡ taken ++ New i (Some l.second.end) (Some after.second.end) brought = new_own i l.second after.second brought is took ∙ ap (λ (x : List Signal). x ++ New i (Some l.second.end) (Some after.second.end) brought) (sym (down is)) in
                let P : ℕ → Type 0 = λ x. after.second.took ≡ take after.second.end.taken (offered_in x after.first.sent) in
                begins_as (offered_in i after.first.sent) _ after.second.end.taken (sym now ∙ subst P (took.incarnation ∙ is) (second_in_order 1 after t.held).in_order)
            | inr other ↦
                let none = new_other i l.second after.second brought other took in
                let P : List Signal → Type 0 = λ x. BeginsWith (offered_in i after.first.sent) x in
                subst P (sym (ap (λ (x : List Signal). taken ++ x) none ∙ append-nil taken)) (begins_on i l.first.sent after.first.sent taken t.down begins)
          ]
      | replaces is ↦
          let none : New i (Some l.second.end) (Some after.second.end) brought ≡ [] = ap (λ (x : Side). New i (Some l.second.end) (Some x.end) brought) is ∙ new_replaced i l.second brought in
          let P : List Signal → Type 0 = λ x. BeginsWith (offered_in i after.first.sent) x in
          subst P (sym (ap (λ (x : List Signal). taken ++ x) none ∙ append-nil taken)) (begins_on i l.first.sent after.first.sent taken t.down begins)
    ]

-- nothing is taken where there is no such federate
none_beyond_up : {OfCoordinator OfFederate : Type 0} (w after : World OfCoordinator OfFederate) (count : ℕ) (links others : ℕ → Link) (j i : ℕ) (step : Step) → IsShown w count links → IsShown after count others → count ≤ j → newly_taken w after (Up j) i step ≡ []
none_beyond_up w after count links others j i step shown then_shown l =
    let before : slice_get w.coordinator.ends j ≡ None = nothing_beyond w.coordinator.ends j (let size = shown.ends in omega arith) in
    let then_so : slice_get after.coordinator.ends j ≡ None = nothing_beyond after.coordinator.ends j (let size = then_shown.ends in omega arith) in
    ap (λ (o : Option Image). New i o (receiver after (Up j)) (brought_by w step)) before ∙ ap (λ (o : Option Image). New i None o (brought_by w step)) then_so

pub none_beyond_down : {OfCoordinator OfFederate : Type 0} (w after : World OfCoordinator OfFederate) (count : ℕ) (links others : ℕ → Link) (j i : ℕ) (step : Step) → IsShown w count links → IsShown after count others → count ≤ j → newly_taken w after (Down j) i step ≡ []
none_beyond_down w after count links others j i step shown then_shown l =
    let before : slice_get w.federates j ≡ None = nothing_beyond w.federates j (let size = shown.federates in omega arith) in
    let then_so : slice_get after.federates j ≡ None = nothing_beyond after.federates j (let size = then_shown.federates in omega arith) in
    ap (λ (o : Option (Station _)). New i (own_end o) (receiver after (Down j)) (brought_by w step)) before ∙ ap (λ (o : Option (Station _)). New i None (own_end o) (brought_by w step)) then_so

beyond_begins : (before after : List Frame) (i : ℕ) (taken more : List Signal) → before ≡ [] → after ≡ [] → more ≡ [] → BeginsWith (offered_in i before) taken → BeginsWith (offered_in i after) (taken ++ more)
beyond_begins before after i taken more e f g begins =
    let P : List Signal → Type 0 = λ x. BeginsWith (offered_in i after) x in
    let Q : List Frame → Type 0 = λ x. BeginsWith (offered_in i x) taken in
    subst P (sym (ap (λ (x : List Signal). taken ++ x) g ∙ append-nil taken)) (subst Q (e ∙ sym f) begins)

-- what was taken stays in order through a step
ordered_step : {OfCoordinator OfFederate : Type 0} (w after : World OfCoordinator OfFederate) (count : ℕ) (links : ℕ → Link) (taken : Dir → ℕ → List Signal) (step : Step) → IsOrdered w count links taken → (c : IsChanged after count links (brought_by w step)) → IsOrdered after count c.after (next_taken w after step taken)
ordered_step w after count links taken step o c =
    record {
      shown = c.shown;
      held = λ j l. (c.each j l).held;
      begins = begins_after;
      up = λ j l. (
          let n = new_up w after count links c.after j 1 step o.shown c.shown l in
          let t = c.each j l in
          ap (λ (x : List Signal). taken (Up j) 1 ++ x) n ∙ ap (λ (x : List Signal). x ++ New 1 (Some (links j).first.end) (Some (c.after j).first.end) (brought_by w step)) (o.up j l) ∙
          sym (new_own 1 (links j).first (c.after j).first (brought_by w step) (o.held j l).linked.here t.first));
      ups = λ j i l other. (
          let n = new_up w after count links c.after j i step o.shown c.shown l in
          let t = c.each j l in
          ap (λ (x : List Signal). x ++ newly_taken w after (Up j) i step) (o.ups j i l other) ∙ n ∙
          new_other i (links j).first (c.after j).first (brought_by w step) (λ e. other (sym e ∙ (o.held j l).linked.here)) t.first);
      down = λ j i l is. (
          let n = new_down w after count links c.after j i step o.shown c.shown l in
          ap (λ (x : List Signal). taken (Down j) i ++ x) n ∙ down_after j i l is (c.each j l).second);
      downs = λ j i l later. (
          let n = new_down w after count links c.after j i step o.shown c.shown l in
          ap (λ (x : List Signal). taken (Down j) i ++ x) n ∙ downs_after j i l later (c.each j l).second);
    }
  where
    begins_after : (dir : Dir) (i : ℕ) → BeginsWith (offered_in i (frames_in after dir)) (next_taken w after step taken dir i)
    begins_after (Up j) i =
        elim (cases_lt j count) [
          | inl l ↦
              let n = new_up w after count links c.after j i step o.shown c.shown l in
              let F : List Frame → Type 0 = λ x. BeginsWith (offered_in i x) (taken (Up j) i ++ newly_taken w after (Up j) i step) in
              let G : List Frame → Type 0 = λ x. BeginsWith (offered_in i x) (taken (Up j) i) in
              let N : List Signal → Type 0 = λ x. BeginsWith (offered_in i (c.after j).second.sent) (taken (Up j) i ++ x) in
              let U : ℕ → Type 0 = λ x. taken (Up j) x ≡ (links j).first.took in
              subst F (sym (frames_up after count c.after j c.shown l))
              (subst N (sym n)
              (up_begins (links j) (c.after j) (brought_by w step) (taken (Up j) i) i (o.held j l) (c.each j l)
              (subst G (frames_up w count links j o.shown l) (o.begins (Up j) i)) (λ is. subst U is (o.up j l))))
          | inr beyond ↦
              beyond_begins (frames_in w (Up j)) (frames_in after (Up j)) i (taken (Up j) i) (newly_taken w after (Up j) i step)
              (none_beyond w.up j [] (let size = o.shown.ups in omega arith)) (none_beyond after.up j [] (let size = c.shown.ups in omega arith))
              (none_beyond_up w after count links c.after j i step o.shown c.shown beyond) (o.begins (Up j) i)
        ]
    begins_after (Down j) i =
        elim (cases_lt j count) [
          | inl l ↦
              let n = new_down w after count links c.after j i step o.shown c.shown l in
              let F : List Frame → Type 0 = λ x. BeginsWith (offered_in i x) (taken (Down j) i ++ newly_taken w after (Down j) i step) in
              let G : List Frame → Type 0 = λ x. BeginsWith (offered_in i x) (taken (Down j) i) in
              let N : List Signal → Type 0 = λ x. BeginsWith (offered_in i (c.after j).first.sent) (taken (Down j) i ++ x) in
              subst F (sym (frames_down after count c.after j c.shown l))
              (subst N (sym n)
              (down_begins (links j) (c.after j) (brought_by w step) (taken (Down j) i) i (o.held j l) (c.each j l)
              (subst G (frames_down w count links j o.shown l) (o.begins (Down j) i)) (o.down j i l)))
          | inr beyond ↦
              beyond_begins (frames_in w (Down j)) (frames_in after (Down j)) i (taken (Down j) i) (newly_taken w after (Down j) i step)
              (none_beyond w.down j [] (let size = o.shown.downs in omega arith)) (none_beyond after.down j [] (let size = c.shown.downs in omega arith))
              (none_beyond_down w after count links c.after j i step o.shown c.shown beyond) (o.begins (Down j) i)
        ]

    down_after : (j i : ℕ) → j < count → (c.after j).second.end.incarnation ≡ i → Turned (links j).second (c.after j).second (brought_by w step) → taken (Down j) i ++ New i (Some (links j).second.end) (Some (c.after j).second.end) (brought_by w step) ≡ (c.after j).second.took
    down_after j i l is (takes took) =
        let here = sym took.incarnation ∙ is in
        ap (λ (x : List Signal). x ++ New i (Some (links j).second.end) (Some (c.after j).second.end) (brought_by w step)) (o.down j i l here) ∙
        sym (new_own i (links j).second (c.after j).second (brought_by w step) here took)
    down_after j i l is (replaces e) =
        let next : (links j).second.end.incarnation + 1 ≡ i = sym (ap (λ (x : Side). x.end.incarnation) e) ∙ is in
        let none : New i (Some (links j).second.end) (Some (c.after j).second.end) (brought_by w step) ≡ [] = ap (λ (x : Side). New i (Some (links j).second.end) (Some x.end) (brought_by w step)) e ∙ new_replaced i (links j).second (brought_by w step) in
        ap (λ (x : List Signal). x ++ New i (Some (links j).second.end) (Some (c.after j).second.end) (brought_by w step)) (o.downs j i l (omega arith)) ∙ none ∙ sym (ap (λ (x : Side). x.took) e)

    downs_after : (j i : ℕ) → j < count → (c.after j).second.end.incarnation < i → Turned (links j).second (c.after j).second (brought_by w step) → taken (Down j) i ++ New i (Some (links j).second.end) (Some (c.after j).second.end) (brought_by w step) ≡ []
    downs_after j i l later (takes took) =
        let same = took.incarnation in
        let past : (links j).second.end.incarnation < i = omega arith in
        ap (λ (x : List Signal). x ++ New i (Some (links j).second.end) (Some (c.after j).second.end) (brought_by w step)) (o.downs j i l past) ∙
        new_other i (links j).second (c.after j).second (brought_by w step) (λ e. omega arith) took
    downs_after j i l later (replaces e) =
        let next : (c.after j).second.end.incarnation ≡ (links j).second.end.incarnation + 1 = ap (λ (x : Side). x.end.incarnation) e in
        let none : New i (Some (links j).second.end) (Some (c.after j).second.end) (brought_by w step) ≡ [] = ap (λ (x : Side). New i (Some (links j).second.end) (Some x.end) (brought_by w step)) e ∙ new_replaced i (links j).second (brought_by w step) in
        ap (λ (x : List Signal). x ++ New i (Some (links j).second.end) (Some (c.after j).second.end) (brought_by w step)) (o.downs j i l (omega arith)) ∙ none

-- the list of steps changes nothing of this
changed_listed : {OfCoordinator OfFederate : Type 0} (w : World OfCoordinator OfFederate) (count : ℕ) (links : ℕ → Link) (brought : List Signal) (steps : List Step) → IsChanged w count links brought → IsChanged (record w { steps = steps }) count links brought
changed_listed w count links brought steps c = record { after = c.after; shown = shown_listed w count c.after steps c.shown; each = c.each }

all_ordered : {OfCoordinator OfFederate CoordinatorRow Row : Type 0} (of_coordinator : Core OfCoordinator CoordinatorRow) (of_federate : Core OfFederate Row) (w : World OfCoordinator OfFederate) (count : ℕ) (links : ℕ → Link) (taken : Dir → ℕ → List Signal) (steps : List Step) → IsOrdered w count links taken → (dir : Dir) (i : ℕ) → BeginsWith (offered_in i (frames_in (after_steps of_coordinator of_federate w steps) dir)) (taken dir i ++ taken_in of_coordinator of_federate w dir i steps)
all_ordered of_coordinator of_federate w count links taken [] o dir i =
    let P : List Signal → Type 0 = λ x. BeginsWith (offered_in i (frames_in w dir)) x in
    subst P (sym (append-nil (taken dir i))) (o.begins dir i)
all_ordered of_coordinator of_federate w count links taken (step ∷ rest) o dir i =
    let made = does of_coordinator of_federate w step in
    let c = changed_listed made.world count links (brought_by w step) (made.world.steps ++ step ∷ []) (changed of_coordinator of_federate w count links step o.shown o.held) in
    let next = (applied of_coordinator of_federate w step).world in
    let more = all_ordered of_coordinator of_federate (applied of_coordinator of_federate w step).world count c.after (next_taken w (applied of_coordinator of_federate w step).world step taken) rest (ordered_step w (applied of_coordinator of_federate w step).world count links taken step o c) dir i in
    let P : List Signal → Type 0 = λ x. BeginsWith (offered_in i (frames_in (after_steps of_coordinator of_federate (applied of_coordinator of_federate w step).world rest) dir)) x in
    subst P (append_assoc (taken dir i) (newly_taken w (applied of_coordinator of_federate w step).world dir i step) (taken_in of_coordinator of_federate (applied of_coordinator of_federate w step).world dir i rest)) more

pub taken_in_order : {OfCoordinator OfFederate CoordinatorRow Row : Type 0} (of_coordinator : Core OfCoordinator CoordinatorRow) (of_federate : Core OfFederate Row) (node : OfCoordinator) (count : ℕ) (federate_at : ℕ → OfFederate) (room : ℕ) (steps : List Step) (dir : Dir) (i : ℕ) → BeginsWith (offered_in i (frames_in (after_steps of_coordinator of_federate (opened node count federate_at room) steps) dir)) (taken_in of_coordinator of_federate (opened node count federate_at room) dir i steps)
taken_in_order of_coordinator of_federate node count federate_at room steps dir i =
    all_ordered of_coordinator of_federate (opened node count federate_at room) count (λ j. initial_link j 1 room) (λ d k. []) steps
    (record {
      shown = opened_shown node count federate_at room;
      held = λ j l. held j 1 room [];
      begins = λ d k. (offered_in k (frames_in (opened node count federate_at room) d), refl);
      up = λ j l. refl;
      ups = λ j k l other. refl;
      down = λ j k l is. refl;
      downs = λ j k l later. refl;
    }) dir i
