-- What is kept of each federate, whatever happens: of its record, of itself, and of the queues between them. And that each step keeps it.
use Rattle.std.proofs.Common.{◌≡◌, ℕ, ◌+◌, ◌≤◌, IsTrue, inl, inr, List, [], ◌∷◌, ◌++◌, refl, ap, subst, ◌∙◌, arith, min, max, Some, ℤ}
use Rattle.std.specs.Prelude.{slice_get, filter, map, unwrap_or, nat_eq, ◌||◌}
use Rattle.std.proofs.lemmas.Bool.Decides.{nat_tests}
use Rattle.tag.specs.LogicalTime.{LogicalTime, IsLogicalTime, is_before, is_at_most, is_same, forever, place, is_reached}
use Rattle.tag.proofs.Order.{at_most_from_places, at_most_places, finite_is_logical, forever_is_logical, origin_is_logical, place_bound, place_of_finite, place_of_forever, place_of_origin, same_itself, top}
use Rattle.network.specs.Network.{Network}
use Rattle.network.specs.Lawful.{IsLawful}
use Rattle.signal.specs.declared.signal.Signal.{Signal}
use Rattle.signal.specs.declared.signal.Signal.TheVariants.{Net, Ltc, Tag, Msg}
use Rattle.network.specs.Undone.{PendingEvent, put, put_all, look, first_tag, drop_up_to, pending_event_of}
use Rattle.protocol.specs.Federate.{Federate, next_event, turn_at, effect_of, scheduled_by, messages_from, initial_federate}
use Rattle.protocol.specs.FederateRecord.{FederateRecord, initial_federate_record, with_tag, after_message, after_net, after_ltc, after_grant}
use Rattle.protocol_laws.proofs.Tags.{IsOptional, above, reached_true}
use Rattle.protocol_laws.proofs.Transit.{least_above, AreTags, above_rises, above_one_more, tags_one_more, above_later, tags_later, lesser_is_tag, place_of_lesser, least_is_tag, place_of_least, covers_one_more, covers_it, covers_later}
use Rattle.protocol_laws.proofs.Upward.{last_ltc, IsUp, least_key, AreNets, last_is_later, last-append, up-append, key-append, nets-append, nets_in_transit, nets_one_more}
use Rattle.protocol_laws.proofs.Downward.{EndsAt, IsDown, last_tag, last_tag_is_later, AreCovered, down-append, last_tag-append, covered-append, covered_in_transit}
use Rattle.protocol_laws.proofs.StillUndone.{IsUndone, first_place, first_at_least, put_is_undone, first_after_put, put_all_is_undone, drop_is_undone}
use Rattle.protocol_laws.proofs.Told.{undone_from, message_from, IsTold, ends_with, told_after_net, told_after_ltc, told_after_message, told_after_route, message-append, undone_after_put, undone_after_all, undone_after_drop, above_at_least, message_within}
use Rattle.protocol_laws.proofs.Turns.{messages_of_turn, turn_is_up, last_of_turn, key_of_turn, nets_of_turn, scheduled_are_held, external_are_held}
use Rattle.protocol_laws.proofs.Tests.{either_of}

pub record IsKept (n : Network) (j : ℕ) (s : FederateRecord) (f : Federate) (up down : List Signal) : Type 0 where
  pub next_tag : IsLogicalTime s.next
  pub completed_tag : IsOptional s.completed
  pub granted_tag : IsOptional s.granted
  pub own_completed_tag : IsOptional f.completed
  pub own_granted_tag : IsOptional f.granted
  pub own_within : above f.completed ≤ top
  pub transit_tags : AreTags s.transit
  pub chain : last_ltc (above s.completed) up ≡ above f.completed
  pub upward : IsUp n j (above s.completed) up
  pub nets : AreNets (above s.completed) s.transit (first_place f.undone) up
  pub next_undone : place s.next ≤ first_place f.undone
  pub next_key : place s.next ≤ least_key up
  pub next_transit : place s.next ≤ least_above 0 s.transit
  pub downward : IsDown n j (above f.granted) down
  pub last : last_tag (above f.granted) down ≡ above s.granted
  pub covered : AreCovered s.transit down
  pub completed_granted : above f.completed ≤ above f.granted
  pub undone : IsUndone n.stop (above f.completed) f.undone
  pub told : IsTold s f.announced up
  pub passed : above s.completed ≤ least_above 0 s.transit
  pub found : (low : ℕ) → above f.completed ≤ low → min (undone_from low f.undone) (message_from low down) ≤ least_above low s.transit

-- after the coordinator took its NET
pub net_keeps : (n : Network) (j : ℕ) (s : FederateRecord) (f : Federate) (rest down : List Signal) (g : LogicalTime) → IsKept n j s f (Net g ∷ rest) down → IsKept n j (after_net s g) f rest down
net_keeps n j s f rest down g k =
    let e = place_of_least g s.transit k.upward.0 k.transit_tags in
    let m = above_rises 0 (above s.completed) s.transit (omega arith) in
    let a = k.nets.0 in
    let b = k.nets.1 in
    record {
      next_tag = least_is_tag g s.transit k.upward.0 k.transit_tags;
      completed_tag = k.completed_tag;
      granted_tag = k.granted_tag;
      own_completed_tag = k.own_completed_tag;
      own_granted_tag = k.own_granted_tag;
      own_within = k.own_within;
      transit_tags = k.transit_tags;
      chain = k.chain;
      upward = k.upward.3;
      nets = k.nets.2;
      next_undone = omega arith;
      next_key = omega arith;
      next_transit = omega arith;
      downward = k.downward;
      last = k.last;
      covered = k.covered;
      completed_granted = k.completed_granted;
      undone = k.undone;
      told = told_after_net s (after_net s g) f.announced g rest refl e k.told;
      passed = k.passed;
      found = k.found;
    }

-- a NET never lowers the next tag
pub net_raises : (n : Network) (j : ℕ) (s : FederateRecord) (f : Federate) (rest down : List Signal) (g : LogicalTime) → IsKept n j s f (Net g ∷ rest) down → place s.next ≤ place (after_net s g).next
net_raises n j s f rest down g k =
    let e = place_of_least g s.transit k.upward.0 k.transit_tags in
    let a = k.next_key in
    let b = k.next_transit in
    omega arith

-- after the coordinator took its LTC
pub ltc_keeps : (n : Network) (j : ℕ) (s : FederateRecord) (f : Federate) (rest down : List Signal) (c : LogicalTime) → IsKept n j s f (Ltc c ∷ rest) down → IsKept n j (after_ltc s c) f rest down
ltc_keeps n j s f rest down c k =
    let later = last_is_later n j (place c + 1) rest k.upward.3 in
    let chain = k.chain in
    let granted = k.completed_granted in
    let low : place c + 1 ≤ above f.granted = omega arith in
    let within = k.own_within in
    let a = k.next_key in
    let b = k.next_transit in
    let e = above_later 0 c s.transit k.upward.0 k.transit_tags in
    let m = above_rises 0 (max 0 (place c + 1)) s.transit (omega arith) in
    record {
      next_tag = k.next_tag;
      completed_tag = k.upward.0;
      granted_tag = k.granted_tag;
      own_completed_tag = k.own_completed_tag;
      own_granted_tag = k.own_granted_tag;
      own_within = k.own_within;
      transit_tags = tags_later c s.transit k.transit_tags;
      chain = k.chain;
      upward = k.upward.3;
      nets =
          nets_in_transit n j (place c + 1) (first_place f.undone) s.transit (filter (λ t. is_before c t) s.transit) rest
          (λ x l. (let d = above_later x c s.transit k.upward.0 k.transit_tags in let r = above_rises (max x (place c + 1)) x s.transit (omega arith) in omega arith))
          k.upward.3 k.nets;
      next_undone = k.next_undone;
      next_key = omega arith;
      next_transit = omega arith;
      downward = k.downward;
      last = k.last;
      covered =
          covered_in_transit n j (above f.granted) s.transit (filter (λ t. is_before c t) s.transit) down
          (λ g l h. covers_later c s.transit g k.upward.0 k.transit_tags (omega arith) h)
          k.downward k.covered;
      completed_granted = k.completed_granted;
      undone = k.undone;
      told = told_after_ltc s (after_ltc s c) f.announced c rest k.told;
      passed = (let w = above_at_least (place c + 1) s.transit (omega arith) in let q = above_rises (place c + 1) (max 0 (place c + 1)) s.transit (omega arith) in omega arith);
      found = λ x l. (let d = above_later x c s.transit k.upward.0 k.transit_tags in let q = above_rises x (max x (place c + 1)) s.transit (omega arith) in let h = k.found x l in omega arith);
    }

-- after the coordinator took its message, before it goes on
pub message_keeps : (n : Network) (j : ℕ) (s : FederateRecord) (f : Federate) (rest down : List Signal) (c : ℕ) (g : LogicalTime) (v : ℤ) → IsKept n j s f (Msg c g v ∷ rest) down → IsKept n j s f rest down
message_keeps n j s f rest down c g v k =
    record {
      next_tag = k.next_tag;
      completed_tag = k.completed_tag;
      granted_tag = k.granted_tag;
      own_completed_tag = k.own_completed_tag;
      own_granted_tag = k.own_granted_tag;
      own_within = k.own_within;
      transit_tags = k.transit_tags;
      chain = k.chain;
      upward = k.upward.3;
      nets = k.nets;
      next_undone = k.next_undone;
      next_key = k.next_key;
      next_transit = k.next_transit;
      downward = k.downward;
      last = k.last;
      covered = k.covered;
      completed_granted = k.completed_granted;
      undone = k.undone;
      told = told_after_message s f.announced c g v rest k.told;
      passed = k.passed;
      found = k.found;
    }

fewer_with : (g : LogicalTime) (x : ℕ) (tags : List LogicalTime) → least_above x (with_tag g tags) ≤ least_above x tags
fewer_with g x tags = let m = above_one_more x g tags in grind (arith, nat_tests)

-- its granted tag, and so each message for it, is past its last LTC
passes_completed : (n : Network) (j : ℕ) (s : FederateRecord) (f : Federate) (up down : List Signal) → IsKept n j s f up down → above s.completed ≤ above s.granted
passes_completed n j s f up down k =
    let a = last_is_later n j (above s.completed) up k.upward in
    let b = last_tag_is_later n j (above f.granted) down k.downward in
    let c = k.chain in
    let d = k.last in
    let e = k.completed_granted in
    omega arith

zero_more_with : (g : LogicalTime) (tags : List LogicalTime) → least_above 0 (with_tag g tags) ≡ min (place g) (least_above 0 tags)
zero_more_with g tags = let m = above_one_more 0 g tags in grind (arith, nat_tests)

-- after a message for it went on
pub route_keeps : (n : Network) (j : ℕ) (s : FederateRecord) (f : Federate) (up down : List Signal) (c : ℕ) (g : LogicalTime) (v : ℤ) → EndsAt j (slice_get n.connections c) → IsLogicalTime g → above s.granted ≤ place g → IsTrue (is_at_most g n.stop) → IsKept n j s f up down → IsKept n j (after_message s g) f up (down ++ Msg c g v ∷ [])
route_keeps n j s f up down c g v ends p l stop k =
    let e = place_of_lesser s.next g k.next_tag p in
    let a = k.next_undone in
    let b = k.next_key in
    let t = k.next_transit in
    let last = k.last in
    let more = above_one_more 0 g s.transit in
    let zero_more = zero_more_with g s.transit in
    let was = k.passed in
    let fewer : (x : ℕ) → least_above x (with_tag g s.transit) ≤ least_above x s.transit = λ x. fewer_with g x s.transit in
    record {
      next_tag = lesser_is_tag s.next g k.next_tag p;
      completed_tag = k.completed_tag;
      granted_tag = k.granted_tag;
      own_completed_tag = k.own_completed_tag;
      own_granted_tag = k.own_granted_tag;
      own_within = k.own_within;
      transit_tags = tags_one_more g s.transit p k.transit_tags;
      chain = k.chain;
      upward = k.upward;
      nets = nets_in_transit n j (above s.completed) (first_place f.undone) s.transit (with_tag g s.transit) up (λ x m. fewer x) k.upward k.nets;
      next_undone = omega arith;
      next_key = omega arith;
      next_transit = grind (arith, nat_tests);
      downward = down-append n j (above f.granted) down (Msg c g v ∷ []) k.downward (ends, p, omega arith, stop, tt);
      last = last_tag-append (above f.granted) down (Msg c g v ∷ []) ∙ k.last;
      covered =
          covered-append (with_tag g s.transit) down (Msg c g v ∷ [])
          (covered_in_transit n j (above f.granted) s.transit (with_tag g s.transit) down (λ x m h. covers_one_more g s.transit x h) k.downward k.covered)
          (covers_it g s.transit, tt);
      completed_granted = k.completed_granted;
      undone = k.undone;
      told = told_after_route s (after_message s g) f.announced g up refl e zero_more k.told;
      passed = (let q = passes_completed n j s f up down k in omega arith);
      found = λ x m. (let q = above_one_more x g s.transit in let r = message-append x down (Msg c g v ∷ []) in let h = k.found x m in let w = place_bound g p in grind (arith, nat_tests));
    }

-- after a TAG to it went out
pub grant_keeps : (n : Network) (j : ℕ) (s : FederateRecord) (f : Federate) (up down : List Signal) (g : LogicalTime) → IsLogicalTime g → above s.granted ≤ place g → IsTrue (is_at_most g n.stop) → IsKept n j s f up down → IsKept n j (after_grant s (Some g)) f up (down ++ Tag g ∷ [])
grant_keeps n j s f up down g p l stop k =
    let last = k.last in
    record {
      next_tag = k.next_tag;
      completed_tag = k.completed_tag;
      granted_tag = p;
      own_completed_tag = k.own_completed_tag;
      own_granted_tag = k.own_granted_tag;
      own_within = k.own_within;
      transit_tags = k.transit_tags;
      chain = k.chain;
      upward = k.upward;
      nets = k.nets;
      next_undone = k.next_undone;
      next_key = k.next_key;
      next_transit = k.next_transit;
      downward = down-append n j (above f.granted) down (Tag g ∷ []) k.downward (p, omega arith, stop, tt);
      last = last_tag-append (above f.granted) down (Tag g ∷ []);
      covered = covered-append s.transit down (Tag g ∷ []) k.covered tt;
      completed_granted = k.completed_granted;
      undone = k.undone;
      told = k.told;
      passed = k.passed;
      found = λ x m. (let r = message-append x down (Tag g ∷ []) in let h = k.found x m in let w = message_within x down in omega arith);
    }

-- after it took a TAG
pub tag_keeps : (n : Network) (j : ℕ) (s : FederateRecord) (f : Federate) (up rest : List Signal) (g : LogicalTime) → IsKept n j s f up (Tag g ∷ rest) → IsKept n j s (record f { granted = Some g }) up rest
tag_keeps n j s f up rest g k =
    let a = k.completed_granted in
    let b = k.downward.1 in
    record {
      next_tag = k.next_tag;
      completed_tag = k.completed_tag;
      granted_tag = k.granted_tag;
      own_completed_tag = k.own_completed_tag;
      own_granted_tag = k.downward.0;
      own_within = k.own_within;
      transit_tags = k.transit_tags;
      chain = k.chain;
      upward = k.upward;
      nets = k.nets;
      next_undone = k.next_undone;
      next_key = k.next_key;
      next_transit = k.next_transit;
      downward = k.downward.3;
      last = k.last;
      covered = k.covered;
      completed_granted = omega arith;
      undone = k.undone;
      told = k.told;
      passed = k.passed;
      found = k.found;
    }

-- after it took a message
pub taken_keeps : (n : Network) (j : ℕ) (s : FederateRecord) (f : Federate) (up rest : List Signal) (c : ℕ) (g : LogicalTime) (v : ℤ) (slot : ℕ) → IsLogicalTime n.stop → IsKept n j s f up (Msg c g v ∷ rest) → IsKept n j s (record f { undone = put (record { tag = g; slot = slot; value = v }) f.undone }) up rest
taken_keeps n j s f up rest c g v slot stop k =
    let low = k.downward.2 in
    let chain = k.chain in
    let granted = k.completed_granted in
    let t = k.next_transit in
    let u = k.next_undone in
    let e : PendingEvent = record { tag = g; slot = slot; value = v } in
    let first = first_after_put (record { tag = g; slot = slot; value = v }) f.undone in
    let here = k.covered.0 0 (omega arith) in
    record {
      next_tag = k.next_tag;
      completed_tag = k.completed_tag;
      granted_tag = k.granted_tag;
      own_completed_tag = k.own_completed_tag;
      own_granted_tag = k.own_granted_tag;
      own_within = k.own_within;
      transit_tags = k.transit_tags;
      chain = k.chain;
      upward = k.upward;
      nets =
          nets_one_more n j (above s.completed) (first_place f.undone) (first_place (put (record { tag = g; slot = slot; value = v }) f.undone)) s.transit up g
          k.covered.0 (omega arith) first k.upward k.nets;
      next_undone = omega arith;
      next_key = k.next_key;
      next_transit = k.next_transit;
      downward = k.downward.4;
      last = k.last;
      covered = k.covered.1;
      completed_granted = k.completed_granted;
      undone =
          put_is_undone n.stop (above f.completed) (record { tag = g; slot = slot; value = v }) f.undone k.downward.1 (omega arith)
          (at_most_places g n.stop k.downward.1 stop k.downward.3) k.undone;
      told = k.told;
      passed = k.passed;
      found = λ x m. (let a = undone_after_put x (record { tag = g; slot = slot; value = v }) f.undone in let h = k.found x m in grind (arith, nat_tests));
    }

pub next_place : (u : List PendingEvent) → place (unwrap_or (first_tag u) forever) ≡ first_place u
next_place [] = place_of_forever
next_place (x ∷ rest) = refl

next_is_tag : (stop : LogicalTime) (low : ℕ) (u : List PendingEvent) → IsUndone stop low u → IsLogicalTime (unwrap_or (first_tag u) forever)
next_is_tag stop low [] h = forever_is_logical
next_is_tag stop low (x ∷ rest) h = h.0

next_in_time : (stop : LogicalTime) (low : ℕ) (u : List PendingEvent) → IsLogicalTime stop → IsUndone stop low u → IsTrue (is_at_most (unwrap_or (first_tag u) forever) stop || is_same (unwrap_or (first_tag u) forever) forever)
next_in_time stop low [] p h = either_of (is_at_most forever stop) (is_same forever forever) (inr (same_itself forever))
next_in_time stop low (x ∷ rest) p h = either_of (is_at_most x.tag stop) (is_same x.tag forever) (inl (at_most_from_places x.tag stop h.0 p h.2))

pub first_within : (stop : LogicalTime) (low : ℕ) (u : List PendingEvent) → IsUndone stop low u → first_place u ≤ top
first_within stop low [] h = omega arith
first_within stop low (x ∷ rest) h = place_bound x.tag h.0

-- after it announced
pub announce_keeps : (n : Network) (j : ℕ) (s : FederateRecord) (f : Federate) (up down : List Signal) → IsLogicalTime n.stop → IsKept n j s f up down → IsKept n j s (record f { announced = Some (next_event f) }) (up ++ Net (next_event f) ∷ []) down
announce_keeps n j s f up down stop k =
    let small = k.own_within in
    let e = next_place f.undone in
    let p = next_is_tag n.stop (above f.completed) f.undone k.undone in
    let w = first_within n.stop (above f.completed) f.undone k.undone in
    let l = first_at_least n.stop (above f.completed) f.undone small k.undone in
    let chain = k.chain in
    let a = k.next_key in
    let b = k.next_undone in
    let keys = key-append up (Net (next_event f) ∷ []) in
    record {
      next_tag = k.next_tag;
      completed_tag = k.completed_tag;
      granted_tag = k.granted_tag;
      own_completed_tag = k.own_completed_tag;
      own_granted_tag = k.own_granted_tag;
      own_within = k.own_within;
      transit_tags = k.transit_tags;
      chain = last-append (above s.completed) up (Net (next_event f) ∷ []) ∙ k.chain;
      upward = up-append n j (above s.completed) up (Net (next_event f) ∷ []) k.upward (p, omega arith, next_in_time n.stop (above f.completed) f.undone stop k.undone, tt);
      nets =
          nets-append (above s.completed) (first_place f.undone) (first_place f.undone) s.transit up (Net (next_event f) ∷ []) k.nets (omega arith) (omega arith)
          (omega arith, omega arith, tt);
      next_undone = k.next_undone;
      next_key = omega arith;
      next_transit = k.next_transit;
      downward = k.downward;
      last = k.last;
      covered = k.covered;
      completed_granted = k.completed_granted;
      undone = k.undone;
      told = inl (ends_with (next_event f) up);
      passed = k.passed;
      found = k.found;
    }

pub first_is : (stop : LogicalTime) (low : ℕ) (u : List PendingEvent) (g : LogicalTime) → IsUndone stop low u → first_tag u ≡ Some g → IsLogicalTime g × (low ≤ place g) × (place g ≤ place stop) × (first_place u ≡ place g)
first_is stop low [] g h e = cc
first_is stop low (x ∷ rest) g h e =
    let same : x.tag ≡ g = cc in
    let P : LogicalTime → Type 0 = λ t. IsLogicalTime t × (low ≤ place t) × (place t ≤ place stop) × (place x.tag ≡ place t) in
    subst P same (h.0, h.1, h.2, refl)

-- after it ran a tag
pub turn_keeps : (n : Network) (j : ℕ) (s : FederateRecord) (f : Federate) (up down : List Signal) (g : LogicalTime) → IsLawful n → first_tag f.undone ≡ Some g → IsTrue (is_reached f.granted g) → IsKept n j s f up down → IsKept n j s (turn_at n j f g).after (up ++ (turn_at n j f g).sent) down
turn_keeps n j s f up down g lawful first reached k =
    let stop = finite_is_logical n.stop lawful.stop in
    let end = place_of_finite n.stop lawful.stop in
    let is = first_is n.stop (above f.completed) f.undone g k.undone first in
    let low = is.1 in
    let high = is.2 in
    let least = is.3 in
    let effect = effect_of n j f g in
    let messages = messages_of_turn n j g (effect_of n j f g).outputs 0 n.connections (λ m. (let e : m ≡ 0 + m = omega arith in ap (slice_get n.connections) e)) in
    let sent = messages_from n j g (effect_of n j f g).outputs 0 n.connections in
    let kept = drop_is_undone n.stop (above f.completed) (place g + 1) g f.undone is.0 k.undone (omega arith) in
    let own = scheduled_are_held n j g (effect_of n j f g).schedulings is.0 stop (omega arith) (lawful.schedulings j f.states (look f.undone g)) in
    let undone = put_all_is_undone n.stop (place g + 1) (scheduled_by n g (effect_of n j f g)) (drop_up_to g f.undone) own kept in
    let later = first_at_least n.stop (place g + 1) (put_all (scheduled_by n g (effect_of n j f g)) (drop_up_to g f.undone)) (omega arith) undone in
    let chain = k.chain in
    let a = k.next_key in
    let b = k.next_undone in
    let granted = reached_true f.granted g k.own_granted_tag is.0 reached in
    let key = key_of_turn n j g (messages_from n j g (effect_of n j f g).outputs 0 n.connections) messages in
    let keys = key-append up (turn_at n j f g).sent in
    let was = last-append (above s.completed) up (turn_at n j f g).sent in
    let is_last = last_of_turn n j (last_ltc (above s.completed) up) g (messages_from n j g (effect_of n j f g).outputs 0 n.connections) messages in
    record {
      next_tag = k.next_tag;
      completed_tag = k.completed_tag;
      granted_tag = k.granted_tag;
      own_completed_tag = is.0;
      own_granted_tag = k.own_granted_tag;
      own_within = omega arith;
      transit_tags = k.transit_tags;
      chain = was ∙ is_last;
      upward =
          up-append n j (above s.completed) up (turn_at n j f g).sent k.upward
          (turn_is_up n j (last_ltc (above s.completed) up) g (messages_from n j g (effect_of n j f g).outputs 0 n.connections) is.0 (omega arith) (at_most_from_places g n.stop is.0 stop high) messages);
      nets =
          nets-append (above s.completed) (first_place f.undone) (first_place (turn_at n j f g).after.undone) s.transit up (turn_at n j f g).sent k.nets (omega arith) (omega arith)
          (nets_of_turn n j (last_ltc (above s.completed) up) (first_place (turn_at n j f g).after.undone) s.transit g (messages_from n j g (effect_of n j f g).outputs 0 n.connections) messages);
      next_undone = omega arith;
      next_key = omega arith;
      next_transit = k.next_transit;
      downward = k.downward;
      last = k.last;
      covered = k.covered;
      completed_granted = omega arith;
      undone = undone;
      told = tt;
      passed = k.passed;
      found = λ x m. (
          let a = undone_after_drop n.stop (above f.completed) x g f.undone is.0 m k.undone in
          let b = undone_after_all x (scheduled_by n g (effect_of n j f g)) (drop_up_to g f.undone) in
          let h = k.found x (omega arith) in
          omega arith);
    }

-- at first
pub initial_is_kept : (n : Network) (j : ℕ) → IsLawful n → IsKept n j initial_federate_record (initial_federate n j) [] []
initial_is_kept n j lawful =
    let stop = finite_is_logical n.stop lawful.stop in
    let held = external_are_held n j n.external stop lawful.external in
    let zeroth = place_of_origin in
    record {
      next_tag = origin_is_logical;
      completed_tag = tt;
      granted_tag = tt;
      own_completed_tag = tt;
      own_granted_tag = tt;
      own_within = omega arith;
      transit_tags = tt;
      chain = refl;
      upward = tt;
      nets = tt;
      next_undone = omega arith;
      next_key = omega arith;
      next_transit = omega arith;
      downward = tt;
      last = refl;
      covered = tt;
      completed_granted = omega arith;
      undone = put_all_is_undone n.stop 0 (map pending_event_of (filter (λ e. nat_eq e.reactor j) n.external)) [] held tt;
      told = tt;
      passed = omega arith;
      found = λ x m. omega arith;
    }
