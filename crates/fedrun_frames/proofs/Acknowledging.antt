-- The number that an end acknowledged last is the number that it took last: whatever was done at both ends of its link.
use Rattle.std.proofs.Common.{◌≡◌, ◌≢◌, ℕ, ◌+◌, ◌<◌, ◌≤◌, inl, inr, max, Bool, true, false, List, [], ◌∷◌, ◌++◌, slice_get, refl, sym, ap, subst, ◌∙◌, arith, Option, None, Some, Ok, Err, if◌then◌else◌}
use Rattle.std.specs.Prelude.{nat_eq, nat_le, nat_lt, ◌&&◌, unwrap_or}
use Rattle.std.proofs.lemmas.Bool.{cases_lt, ne_eqb, eq-eqb, leb-true}
use Rattle.network.specs.Network.{with_one}
use Rattle.signal.specs.Batch.{numbered}
use Rattle.signal.specs.declared.signal.Signal.{Signal}
use Rattle.signal.specs.declared.frame.Frame.{Frame}
use Rattle.signal.specs.declared.frame.Hello as declared
use Rattle.signal.specs.declared.frame.Frame.TheVariants.{Hello, Data, Ack, Refuse}
use Rattle.link.specs.declared.arrival.Arrival.TheVariants as arrival
use Rattle.link.specs.declared.fault.LinkFault.{LinkFault}
use Rattle.link.specs.Image.{Image, last_number, after_frame, after_close, hello_by, hello_of, resent_by}
use Rattle.link_laws.specs.Link.{Side, Link, says, hears, gets, greeting, replaced, initial_link, Act, Gets, Offers, Resends, Greets, Closes, TurnsAway, side_after}
use Rattle.link_laws.proofs.Acts.{IsHeld, forgets, held}
use Rattle.node.specs.Core.{Core}
use Rattle.node.specs.Step.{step_of}
use Rattle.world_stations.specs.declared.dir.Dir.TheVariants.{Up, Down}
use Rattle.world_stations.specs.declared.step.Step.{Step}
use Rattle.world_stations.specs.Taken.{own_end}
use Rattle.world_stations.specs.World.{World, Applied, frames_in, does, applied, after_steps, opened}
use Rattle.world_stations.proofs.Course.{acted}
use Rattle.world_stations.proofs.Courses.{some_of}
use Rattle.world_stations.proofs.Shown.{IsShown, ups_of, with_firsts, nowhere, happened_at_coordinator, happened_at_federate, lost, happened, shown_at_coordinator, shown_at_federate, shown_lost, shown_listed, opened_shown, at_own, at_other, same_or_not, got, nothing_beyond}
use Rattle.world_stations.proofs.Site.{firsts_held, seconds_held}
use Rattle.fedrun_frames.specs.Brought.{acknowledged_by, acknowledged_last}
use Rattle.fedrun_frames.specs.Acknowledged.{AcknowledgesTaken}

-- frames, and then further ones
last_on : (i last : ℕ) (first more : List Frame) → acknowledged_last i last (first ++ more) ≡ acknowledged_last i (acknowledged_last i last first) more
last_on i last [] more = refl
last_on i last (frame ∷ rest) more = last_on i (unwrap_or (acknowledged_by i (Some frame)) last) rest more

-- frames that acknowledge nothing
abbrev AreMute : List Frame → Type 0
AreMute frames = (i last : ℕ) → acknowledged_last i last frames ≡ last

numbered_mute : (k first : ℕ) (signals : List Signal) → AreMute (numbered k first signals)
numbered_mute k first [] i last = refl
numbered_mute k first (signal ∷ rest) i last = numbered_mute k (first + 1) rest i last

resent_mute : (e : Image) → AreMute (resent_by e)
resent_mute e i last = by_closed e.closed
  where
    by_closed : (b : Bool) → acknowledged_last i last (if b then [] else numbered e.incarnation (e.acknowledged + 1) e.kept) ≡ last
    by_closed true = refl
    by_closed false = numbered_mute e.incarnation (e.acknowledged + 1) e.kept i last

greeting_mute : (e : Image) → AreMute (greeting (hello_of e))
greeting_mute e i last = by_closed e.closed
  where
    by_closed : (b : Bool) → acknowledged_last i last (greeting (if b then None else Some (hello_by e))) ≡ last
    by_closed true = refl
    by_closed false = refl

-- what a side acknowledged last in its incarnation is what it took last, and in a later one it acknowledged nothing
record IsTold (s : Side) : Type 0 where
  own : acknowledged_last s.end.incarnation 0 s.sent ≡ s.end.taken
  later : (i : ℕ) → s.end.incarnation < i → acknowledged_last i 0 s.sent ≡ 0

-- it sends what acknowledges nothing
says_told : (s : Side) (frames : List Frame) → AreMute frames → IsTold s → IsTold (says s frames)
says_told s frames mute t = record {
  own = last_on s.end.incarnation 0 s.sent frames ∙ mute s.end.incarnation (acknowledged_last s.end.incarnation 0 s.sent) ∙ t.own;
  later = λ i after. (last_on i 0 s.sent frames ∙ mute i (acknowledged_last i 0 s.sent) ∙ t.later i after);
}

-- it acknowledges what it took
ack_told : (s : Side) (end : Image) (took : List Signal) (k : ℕ) → end.incarnation ≡ s.end.incarnation → k ≡ end.taken → IsTold s
    → IsTold (record { end = end; sent = s.sent ++ Ack s.end.incarnation k ∷ []; took = took })
ack_told s end took k same is t = record {
  own =
      ap (λ (i : ℕ). acknowledged_last i 0 (s.sent ++ Ack s.end.incarnation k ∷ [])) same
      ∙ last_on s.end.incarnation 0 s.sent (Ack s.end.incarnation k ∷ [])
      ∙ ap (λ (b : Bool). unwrap_or (if b then Some k else None) (acknowledged_last s.end.incarnation 0 s.sent)) (eq-eqb s.end.incarnation s.end.incarnation refl)
      ∙ is;
  later = λ i after. (
      let past : s.end.incarnation < i = subst (λ (n : ℕ). n < i) same after in
      let other : s.end.incarnation ≢ i = λ e. absurd (omega arith) in
      last_on i 0 s.sent (Ack s.end.incarnation k ∷ [])
      ∙ ap (λ (b : Bool). unwrap_or (if b then Some k else None) (acknowledged_last i 0 s.sent)) (ne_eqb s.end.incarnation i other)
      ∙ t.later i past
      );
}

greatest_is : (taken n : ℕ) → n ≤ taken → taken ≡ max taken n
greatest_is taken n old = omega arith

repeats_told : (s : Side) (k n : ℕ) (signal : Signal) → n ≤ s.end.taken → IsTold s
    → IsTold (record { end = after_frame s.end (Data k n signal); sent = s.sent ++ Ack s.end.incarnation s.end.taken ∷ []; took = s.took })
repeats_told s k n signal old t = ack_told s (after_frame s.end (Data k n signal)) s.took s.end.taken refl (greatest_is s.end.taken n old) t

-- a signal comes
data_told : (s : Side) (k n : ℕ) (signal : Signal) (is_taken own closed le eq : Bool) → (le ≡ true → n ≤ s.end.taken) → IsTold s
    → IsTold (hears is_taken s (Data k n signal) (if own then (if closed then Err LinkFault.Closed else if le then Ok arrival.Repeated else if eq then Ok arrival.Signal else Err LinkFault.Gap) else Err LinkFault.Stranger))
data_told s k n signal is_taken false closed le eq is_old t = t
data_told s k n signal is_taken true true le eq is_old t = t
data_told s k n signal true true false true eq is_old t = repeats_told s k n signal (is_old refl) t
data_told s k n signal false true false true eq is_old t = repeats_told s k n signal (is_old refl) t
data_told s k n signal false true false false true is_old t = t
data_told s k n signal true true false false true is_old t =
    ack_told s (after_frame s.end (Data k n signal)) (s.took ++ signal ∷ []) (max s.end.taken n) refl refl t
data_told s k n signal is_taken true false false false is_old t = t

-- what else comes
ack_heard : (s : Side) (k n : ℕ) (is_taken own closed unsent : Bool) → IsTold s
    → IsTold (hears is_taken s (Ack k n) (if own then (if closed then Err LinkFault.Closed else if unsent then Err LinkFault.AckOfUnsent else Ok arrival.Acked) else Err LinkFault.Stranger))
ack_heard s k n is_taken false closed unsent t = t
ack_heard s k n is_taken true true unsent t = t
ack_heard s k n is_taken true false true t = t
ack_heard s k n is_taken true false false t = record { own = t.own; later = t.later }

hello_heard : (s : Side) (hello : declared.Hello) (is_taken own closed unsent : Bool) → IsTold s
    → IsTold (hears is_taken s (Hello hello) (if own then (if closed then Err LinkFault.Closed else if unsent then Err LinkFault.AckOfUnsent else Ok arrival.Resume) else Err LinkFault.Stranger))
hello_heard s hello is_taken false closed unsent t = t
hello_heard s hello is_taken true true unsent t = t
hello_heard s hello is_taken true false true t = t
hello_heard s hello is_taken true false false t =
    let after : Image = after_frame s.end (Hello hello) in
    says_told (record s { end = after }) (resent_by after) (resent_mute after) (record { own = t.own; later = t.later })

refuse_heard : (s : Side) (k n : ℕ) (is_taken own closed : Bool) → IsTold s
    → IsTold (hears is_taken s (Refuse k n) (if own then (if closed then Err LinkFault.Closed else Ok arrival.Closed) else Err LinkFault.Stranger))
refuse_heard s k n is_taken false closed t = t
refuse_heard s k n is_taken true true t = t
refuse_heard s k n is_taken true false t = record { own = t.own; later = t.later }

gets_told : (s : Side) (frame : Option Frame) (is_taken : Bool) → IsTold s → IsTold (gets is_taken s frame)
gets_told s None is_taken t = t
gets_told s (Some (Hello hello)) is_taken t =
    hello_heard s hello is_taken (nat_eq hello.incarnation s.end.incarnation && nat_eq hello.federate s.end.federate) s.end.closed (nat_lt (last_number s.end) hello.last_taken) t
gets_told s (Some (Data k n signal)) is_taken t =
    data_told s k n signal is_taken (nat_eq k s.end.incarnation) s.end.closed (nat_le n s.end.taken) (nat_eq n (s.end.taken + 1)) (leb-true n s.end.taken) t
gets_told s (Some (Ack k n)) is_taken t = ack_heard s k n is_taken (nat_eq k s.end.incarnation) s.end.closed (nat_lt (last_number s.end) n) t
gets_told s (Some (Refuse k n)) is_taken t = refuse_heard s k n is_taken (nat_eq k s.end.incarnation) s.end.closed t

offers_told : (s : Side) (signals : List Signal) (b : Bool) → IsTold s
    → IsTold (if b then s else record { end = record s.end { kept = s.end.kept ++ signals }; sent = s.sent ++ numbered s.end.incarnation (last_number s.end + 1) signals; took = s.took })
offers_told s signals true t = t
offers_told s signals false t =
    says_told (record s { end = record s.end { kept = s.end.kept ++ signals } }) (numbered s.end.incarnation (last_number s.end + 1) signals)
    (numbered_mute s.end.incarnation (last_number s.end + 1) signals) (record { own = t.own; later = t.later })

act_told : (s : Side) (coming : List Frame) (act : Act) → IsTold s → IsTold (side_after s coming act)
act_told s coming (Gets place is_taken) t = gets_told s (slice_get coming place) is_taken t
act_told s coming (Offers signals) t = offers_told s signals s.end.closed t
act_told s coming Resends t = says_told s (resent_by s.end) (resent_mute s.end) t
act_told s coming Greets t = says_told s (greeting (hello_of s.end)) (greeting_mute s.end) t
act_told s coming (Closes number) t =
    says_told (record s { end = after_close s.end }) (Refuse s.end.incarnation number ∷ []) (λ i last. refl) (record { own = t.own; later = t.later })
act_told s coming (TurnsAway k number) t = says_told s (Refuse k number ∷ []) (λ i last. refl) t

acts_told : (s : Side) (coming : List Frame) (acts : List Act) → IsTold s → IsTold (acted s coming acts)
acts_told s coming [] t = t
acts_told s coming (act ∷ rest) t = acts_told (side_after s coming act) coming rest (act_told s coming act t)

-- a blank side in its place took nothing, and acknowledged nothing in its incarnation
replaced_told : (s : Side) → IsTold s → IsTold (replaced s)
replaced_told s t = record { own = t.later (s.end.incarnation + 1) (omega arith); later = λ i after. t.later i (omega arith) }

-- a link, both of whose sides acknowledge so
record IsToldLink (l : Link) : Type 0 where
  holds : IsHeld 1 l
  first : IsTold l.first
  second : IsTold l.second

-- a link of a federate, where only one changed
one_changed : (count : ℕ) (links : ℕ → Link) (j : ℕ) (mine : Link) → ((k : ℕ) → k < count → IsToldLink (links k)) → IsToldLink mine
    → (k : ℕ) → k < count → IsToldLink (with_one links j mine k)
one_changed count links j mine each changed k below =
    elim (same_or_not j k) [
      | inl here ↦
          let Q : ℕ → Type 0 = λ x. IsToldLink (with_one links j mine x) in
          subst Q (sym here) (subst IsToldLink (sym (at_own links j mine)) changed)
      | inr apart ↦ subst IsToldLink (sym (at_other links j k mine apart)) (each k below)
    ]

-- the links of a world
record AreTold {OfCoordinator OfFederate : Type 0} (w : World OfCoordinator OfFederate) (count : ℕ) : Type 0 where
  links : ℕ → Link
  shown : IsShown w count links
  each : (j : ℕ) → j < count → IsToldLink (links j)

-- through a step
step_told : {OfCoordinator OfFederate CoordinatorRow Row : Type 0} (of_coordinator : Core OfCoordinator CoordinatorRow) (of_federate : Core OfFederate Row)
    (w : World OfCoordinator OfFederate) (count : ℕ) (step : Step) → AreTold w count → AreTold (does of_coordinator of_federate w step).world count
step_told {OfCoordinator = OfCoordinator} {OfFederate = OfFederate} of_coordinator of_federate w count step t =
    let links : ℕ → Link = t.links in
    let P : Applied OfCoordinator OfFederate → Type 0 = λ x. AreTold x.world count in
    elim (happened of_coordinator of_federate w count links step t.shown (λ j below. (t.each j below).holds)) [
      | nowhere is ↦ subst P (sym is) (record { links = links; shown = t.shown; each = t.each })
      | happened_at_coordinator e place comes c brings is ↦
          subst P (sym is)
          (record {
            links = with_firsts links (λ p. acted (links p).first (ups_of links p) (c.acts p));
            shown = shown_at_coordinator of_coordinator w count links e place (step_of of_coordinator true w.coordinator e) c t.shown;
            each = λ j below. record {
              holds = firsts_held (links j) (c.acts j) (t.each j below).holds;
              first = acts_told (links j).first (ups_of links j) (c.acts j) (t.each j below).first;
              second = (t.each j below).second;
            };
          })
      | happened_at_federate j s e place below there comes c brings is ↦
          let mine : Link = record { first = (links j).first; second = acted (links j).second (links j).first.sent (c.acts 0) } in
          subst P (sym is)
          (record {
            links = with_one links j mine;
            shown = shown_at_federate of_federate w count links j s e place (step_of of_federate false s e) c there below t.shown;
            each = one_changed count links j mine t.each
                (record {
                  holds = seconds_held (links j) (c.acts 0) (t.each j below).holds;
                  first = (t.each j below).first;
                  second = acts_told (links j).second (links j).first.sent (c.acts 0) (t.each j below).second;
                });
          })
      | lost j s below there is_step is ↦
          let mine : Link = record { first = (links j).first; second = replaced (links j).second } in
          subst P (sym is)
          (record {
            links = with_one links j mine;
            shown = shown_lost of_federate w count links j s there below t.shown;
            each = one_changed count links j mine t.each
                (record {
                  holds = forgets 1 (links j) (t.each j below).holds;
                  first = (t.each j below).first;
                  second = replaced_told (links j).second (t.each j below).second;
                });
          })
    ]

steps_told : {OfCoordinator OfFederate CoordinatorRow Row : Type 0} (of_coordinator : Core OfCoordinator CoordinatorRow) (of_federate : Core OfFederate Row)
    (w : World OfCoordinator OfFederate) (count : ℕ) (steps : List Step) → AreTold w count → AreTold (after_steps of_coordinator of_federate w steps) count
steps_told of_coordinator of_federate w count [] t = t
steps_told of_coordinator of_federate w count (step ∷ rest) t =
    let made = does of_coordinator of_federate w step in
    let next = step_told of_coordinator of_federate w count step t in
    steps_told of_coordinator of_federate (applied of_coordinator of_federate w step).world count rest
    (record { links = next.links; shown = shown_listed made.world count next.links (made.world.steps ++ step ∷ []) next.shown; each = next.each })

opened_told : {OfCoordinator OfFederate : Type 0} (node : OfCoordinator) (count : ℕ) (federate_at : ℕ → OfFederate) (room : ℕ) → AreTold (opened node count federate_at room) count
opened_told node count federate_at room = record {
  links = λ j. initial_link j 1 room;
  shown = opened_shown node count federate_at room;
  each = λ j below. record {
    holds = held j 1 room [];
    first = record { own = refl; later = λ i after. refl };
    second = record { own = refl; later = λ i after. refl };
  };
}

-- the end of a side, and what it sent, as they stand in a world
told_end : (s : Side) (e : Image) (frames : List Frame) → IsTold s → Some s.end ≡ Some e → frames ≡ s.sent → acknowledged_last e.incarnation 0 frames ≡ e.taken
told_end s e frames t is are =
    ap (λ (f : List Frame). acknowledged_last e.incarnation 0 f) are
    ∙ (let P : Image → Type 0 = λ x. acknowledged_last x.incarnation 0 s.sent ≡ x.taken in subst P (some_of s.end e is) t.own)

acknowledges : {OfCoordinator OfFederate : Type 0} (w : World OfCoordinator OfFederate) (count : ℕ) → AreTold w count → AcknowledgesTaken w
acknowledges w count t (Up j) e is =
    elim (cases_lt j count) [
      | inl below ↦
          let at = t.shown.each j below in
          told_end (t.links j).first e (frames_in w (Down j)) (t.each j below).first (sym at.first ∙ is) (got w.down j (t.links j).first.sent [] at.down)
      | inr beyond ↦ (let none = nothing_beyond w.coordinator.ends j (let size = t.shown.ends in omega arith) in cc)
    ]
acknowledges w count t (Down j) e is =
    elim (cases_lt j count) [
      | inl below ↦
          let at = t.shown.each j below in
          let end : own_end (slice_get w.federates j) ≡ Some (t.links j).second.end = ap own_end at.there ∙ ap (λ (ends : List Image). slice_get ends 0) at.second in
          told_end (t.links j).second e (frames_in w (Up j)) (t.each j below).second (sym end ∙ is) (got w.up j (t.links j).second.sent [] at.up)
      | inr beyond ↦
          let none : own_end (slice_get w.federates j) ≡ None = ap own_end (nothing_beyond w.federates j (let size = t.shown.federates in omega arith)) in
          cc
    ]

-- after any steps
pub acknowledged_after : {OfCoordinator OfFederate CoordinatorRow Row : Type 0} (of_coordinator : Core OfCoordinator CoordinatorRow) (of_federate : Core OfFederate Row)
    (node : OfCoordinator) (count : ℕ) (federate_at : ℕ → OfFederate) (room : ℕ) (steps : List Step)
    → AcknowledgesTaken (after_steps of_coordinator of_federate (opened node count federate_at room) steps)
acknowledged_after of_coordinator of_federate node count federate_at room steps =
    acknowledges (after_steps of_coordinator of_federate (opened node count federate_at room) steps) count
    (steps_told of_coordinator of_federate (opened node count federate_at room) count steps (opened_told node count federate_at room))
