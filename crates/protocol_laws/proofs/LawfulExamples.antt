-- The examples are lawful, and their tables are those of their least delays.
use Rattle.std.proofs.Common.{◌≡◌, ◌≢◌, ℕ, zero, suc, ◌<◌, [], ◌∷◌, refl, ap, arith}
use Rattle.std.specs.Prelude.{pos, All, Contains, IfSome}
use Rattle.std.proofs.lemmas.List.Elements.{All-nil, All-cons}
use Rattle.std.proofs.lemmas.List.Kept.{AllPairs-cons}
use Rattle.tag.specs.LogicalTime.{LogicalTime, origin, sum_of}
use Rattle.network.specs.Connection.{Connection}
use Rattle.network.specs.Event.{Event, outside}
use Rattle.network.specs.Examples.{at}
use Rattle.network.specs.Lawful.{IsLawful, IsConnected, HaveDifferentEnds, IsExternal, AreForDifferentSlots, IsOwn}
use Rattle.tag.specs.Total.{no_delay, some_delay}
use Rattle.network.specs.Tables.{IsLeastTable, IsAtMostEveryPath, IsWithin, IsTotalOfPath}
use Rattle.network.proofs.Items.{no_pairs}
use Rattle.protocol_laws.specs.Ring.{ring, ring_table}
use Rattle.protocol_laws.specs.WeakerRules.{two_microsteps, one_tag, both_ends, line_table}
use Rattle.protocol_laws.proofs.FixedPoints.{fixed_point_is_least}

abbrev ring_0 : Connection
ring_0 = record { source = 0; port = 0; target = 1; slot = 0; delay = at 0 0 }

abbrev ring_1 : Connection
ring_1 = record { source = 1; port = 0; target = 2; slot = 0; delay = at 0 0 }

abbrev ring_2 : Connection
ring_2 = record { source = 2; port = 0; target = 0; slot = 0; delay = at 5 0 }

abbrev ring_event_0 : Event
ring_event_0 = outside (at 0 0) 0 1 (pos 0)

abbrev ring_event_1 : Event
ring_event_1 = outside (at 5 0) 0 1 (pos 0)

pub ring_is_lawful : IsLawful ring
ring_is_lawful = record {
  some_reactor = omega arith;
  few_reactors = omega arith;
  stop = record { time = omega arith; microstep = omega arith };
  connected = All-cons (IsConnected ring) ring_0 (ring_1 ∷ ring_2 ∷ []) (record { source = omega arith; port = omega arith; target = omega arith; slot = omega arith; delay = no_delay }) (All-cons (IsConnected ring) ring_1 (ring_2 ∷ []) (record { source = omega arith; port = omega arith; target = omega arith; slot = omega arith; delay = no_delay }) (All-cons (IsConnected ring) ring_2 ([]) (record { source = omega arith; port = omega arith; target = omega arith; slot = omega arith; delay = (some_delay (5, omega arith, refl)) }) (All-nil (IsConnected ring))));
  one_source = AllPairs-cons HaveDifferentEnds ring_0 (ring_1 ∷ ring_2 ∷ []) (All-cons (HaveDifferentEnds ring_0) ring_1 (ring_2 ∷ []) (λ e f. absurd (omega arith)) (All-cons (HaveDifferentEnds ring_0) ring_2 ([]) (λ e f. absurd (omega arith)) (All-nil (HaveDifferentEnds ring_0)))) (AllPairs-cons HaveDifferentEnds ring_1 (ring_2 ∷ []) (All-cons (HaveDifferentEnds ring_1) ring_2 ([]) (λ e f. absurd (omega arith)) (All-nil (HaveDifferentEnds ring_1))) (AllPairs-cons HaveDifferentEnds ring_2 ([]) (All-nil (HaveDifferentEnds ring_2)) (no_pairs HaveDifferentEnds)));
  ports_apart = All-cons (λ c. All (λ e. e.reactor ≡ c.target → e.slot ≢ c.slot) ring.external) ring_0 (ring_1 ∷ ring_2 ∷ []) (All-cons (λ e. e.reactor ≡ ring_0.target → e.slot ≢ ring_0.slot) ring_event_0 (ring_event_1 ∷ []) (λ a b. absurd (omega arith)) (All-cons (λ e. e.reactor ≡ ring_0.target → e.slot ≢ ring_0.slot) ring_event_1 ([]) (λ a b. absurd (omega arith)) (All-nil (λ e. e.reactor ≡ ring_0.target → e.slot ≢ ring_0.slot)))) (All-cons (λ c. All (λ e. e.reactor ≡ c.target → e.slot ≢ c.slot) ring.external) ring_1 (ring_2 ∷ []) (All-cons (λ e. e.reactor ≡ ring_1.target → e.slot ≢ ring_1.slot) ring_event_0 (ring_event_1 ∷ []) (λ a b. absurd (omega arith)) (All-cons (λ e. e.reactor ≡ ring_1.target → e.slot ≢ ring_1.slot) ring_event_1 ([]) (λ a b. absurd (omega arith)) (All-nil (λ e. e.reactor ≡ ring_1.target → e.slot ≢ ring_1.slot)))) (All-cons (λ c. All (λ e. e.reactor ≡ c.target → e.slot ≢ c.slot) ring.external) ring_2 ([]) (All-cons (λ e. e.reactor ≡ ring_2.target → e.slot ≢ ring_2.slot) ring_event_0 (ring_event_1 ∷ []) (λ a b. absurd (omega arith)) (All-cons (λ e. e.reactor ≡ ring_2.target → e.slot ≢ ring_2.slot) ring_event_1 ([]) (λ a b. absurd (omega arith)) (All-nil (λ e. e.reactor ≡ ring_2.target → e.slot ≢ ring_2.slot)))) (All-nil (λ c. All (λ e. e.reactor ≡ c.target → e.slot ≢ c.slot) ring.external))));
  external = All-cons (IsExternal ring) ring_event_0 (ring_event_1 ∷ []) (record { reactor = omega arith; slot = omega arith; tag = record { time = omega arith; microstep = omega arith }; in_time = refl }) (All-cons (IsExternal ring) ring_event_1 ([]) (record { reactor = omega arith; slot = omega arith; tag = record { time = omega arith; microstep = omega arith }; in_time = refl }) (All-nil (IsExternal ring)));
  external_apart = AllPairs-cons AreForDifferentSlots ring_event_0 (ring_event_1 ∷ []) (All-cons (AreForDifferentSlots ring_event_0) ring_event_1 ([]) (λ a b c. let t : 0 ≡ 5 = ap (λ (g : LogicalTime). g.time) a in absurd (omega arith)) (All-nil (AreForDifferentSlots ring_event_0))) (AllPairs-cons AreForDifferentSlots ring_event_1 ([]) (All-nil (AreForDifferentSlots ring_event_1)) (no_pairs AreForDifferentSlots));
  ranks = λ i l. l;
  ranks_apart = λ i j a b e. e;
  ranks_rise = All-cons (λ c. c.delay ≡ origin → ring.rank c.source < ring.rank c.target) ring_0 (ring_1 ∷ ring_2 ∷ []) (λ e. omega arith) (All-cons (λ c. c.delay ≡ origin → ring.rank c.source < ring.rank c.target) ring_1 (ring_2 ∷ []) (λ e. omega arith) (All-cons (λ c. c.delay ≡ origin → ring.rank c.source < ring.rank c.target) ring_2 ([]) (λ e. let t : 5 ≡ 0 = ap (λ (g : LogicalTime). g.time) e in absurd (omega arith)) (All-nil (λ c. c.delay ≡ origin → ring.rank c.source < ring.rank c.target))));
  schedulings = λ reactor states present. All-nil (IsOwn ring reactor);
}

abbrev two_microsteps_0 : Connection
two_microsteps_0 = record { source = 0; port = 0; target = 1; slot = 0; delay = at 10 0 }

abbrev two_microsteps_1 : Connection
two_microsteps_1 = record { source = 1; port = 0; target = 2; slot = 0; delay = at 0 0 }

abbrev two_microsteps_event_0 : Event
two_microsteps_event_0 = outside (at 0 0) 0 1 (pos 0)

abbrev two_microsteps_event_1 : Event
two_microsteps_event_1 = outside (at 0 1) 0 1 (pos 0)

pub two_microsteps_is_lawful : IsLawful two_microsteps
two_microsteps_is_lawful = record {
  some_reactor = omega arith;
  few_reactors = omega arith;
  stop = record { time = omega arith; microstep = omega arith };
  connected = All-cons (IsConnected two_microsteps) two_microsteps_0 (two_microsteps_1 ∷ []) (record { source = omega arith; port = omega arith; target = omega arith; slot = omega arith; delay = (some_delay (10, omega arith, refl)) }) (All-cons (IsConnected two_microsteps) two_microsteps_1 ([]) (record { source = omega arith; port = omega arith; target = omega arith; slot = omega arith; delay = no_delay }) (All-nil (IsConnected two_microsteps)));
  one_source = AllPairs-cons HaveDifferentEnds two_microsteps_0 (two_microsteps_1 ∷ []) (All-cons (HaveDifferentEnds two_microsteps_0) two_microsteps_1 ([]) (λ e f. absurd (omega arith)) (All-nil (HaveDifferentEnds two_microsteps_0))) (AllPairs-cons HaveDifferentEnds two_microsteps_1 ([]) (All-nil (HaveDifferentEnds two_microsteps_1)) (no_pairs HaveDifferentEnds));
  ports_apart = All-cons (λ c. All (λ e. e.reactor ≡ c.target → e.slot ≢ c.slot) two_microsteps.external) two_microsteps_0 (two_microsteps_1 ∷ []) (All-cons (λ e. e.reactor ≡ two_microsteps_0.target → e.slot ≢ two_microsteps_0.slot) two_microsteps_event_0 (two_microsteps_event_1 ∷ []) (λ a b. absurd (omega arith)) (All-cons (λ e. e.reactor ≡ two_microsteps_0.target → e.slot ≢ two_microsteps_0.slot) two_microsteps_event_1 ([]) (λ a b. absurd (omega arith)) (All-nil (λ e. e.reactor ≡ two_microsteps_0.target → e.slot ≢ two_microsteps_0.slot)))) (All-cons (λ c. All (λ e. e.reactor ≡ c.target → e.slot ≢ c.slot) two_microsteps.external) two_microsteps_1 ([]) (All-cons (λ e. e.reactor ≡ two_microsteps_1.target → e.slot ≢ two_microsteps_1.slot) two_microsteps_event_0 (two_microsteps_event_1 ∷ []) (λ a b. absurd (omega arith)) (All-cons (λ e. e.reactor ≡ two_microsteps_1.target → e.slot ≢ two_microsteps_1.slot) two_microsteps_event_1 ([]) (λ a b. absurd (omega arith)) (All-nil (λ e. e.reactor ≡ two_microsteps_1.target → e.slot ≢ two_microsteps_1.slot)))) (All-nil (λ c. All (λ e. e.reactor ≡ c.target → e.slot ≢ c.slot) two_microsteps.external)));
  external = All-cons (IsExternal two_microsteps) two_microsteps_event_0 (two_microsteps_event_1 ∷ []) (record { reactor = omega arith; slot = omega arith; tag = record { time = omega arith; microstep = omega arith }; in_time = refl }) (All-cons (IsExternal two_microsteps) two_microsteps_event_1 ([]) (record { reactor = omega arith; slot = omega arith; tag = record { time = omega arith; microstep = omega arith }; in_time = refl }) (All-nil (IsExternal two_microsteps)));
  external_apart = AllPairs-cons AreForDifferentSlots two_microsteps_event_0 (two_microsteps_event_1 ∷ []) (All-cons (AreForDifferentSlots two_microsteps_event_0) two_microsteps_event_1 ([]) (λ a b c. let t : 0 ≡ 1 = ap (λ (g : LogicalTime). g.microstep) a in absurd (omega arith)) (All-nil (AreForDifferentSlots two_microsteps_event_0))) (AllPairs-cons AreForDifferentSlots two_microsteps_event_1 ([]) (All-nil (AreForDifferentSlots two_microsteps_event_1)) (no_pairs AreForDifferentSlots));
  ranks = λ i l. l;
  ranks_apart = λ i j a b e. e;
  ranks_rise = All-cons (λ c. c.delay ≡ origin → two_microsteps.rank c.source < two_microsteps.rank c.target) two_microsteps_0 (two_microsteps_1 ∷ []) (λ e. let t : 10 ≡ 0 = ap (λ (g : LogicalTime). g.time) e in absurd (omega arith)) (All-cons (λ c. c.delay ≡ origin → two_microsteps.rank c.source < two_microsteps.rank c.target) two_microsteps_1 ([]) (λ e. omega arith) (All-nil (λ c. c.delay ≡ origin → two_microsteps.rank c.source < two_microsteps.rank c.target)));
  schedulings = λ reactor states present. All-nil (IsOwn two_microsteps reactor);
}

abbrev one_tag_0 : Connection
one_tag_0 = record { source = 0; port = 0; target = 1; slot = 0; delay = at 0 0 }

abbrev one_tag_1 : Connection
one_tag_1 = record { source = 1; port = 0; target = 2; slot = 0; delay = at 0 0 }

abbrev one_tag_event_0 : Event
one_tag_event_0 = outside (at 0 0) 0 1 (pos 0)

abbrev one_tag_event_1 : Event
one_tag_event_1 = outside (at 0 0) 1 1 (pos 0)

pub one_tag_is_lawful : IsLawful one_tag
one_tag_is_lawful = record {
  some_reactor = omega arith;
  few_reactors = omega arith;
  stop = record { time = omega arith; microstep = omega arith };
  connected = All-cons (IsConnected one_tag) one_tag_0 (one_tag_1 ∷ []) (record { source = omega arith; port = omega arith; target = omega arith; slot = omega arith; delay = no_delay }) (All-cons (IsConnected one_tag) one_tag_1 ([]) (record { source = omega arith; port = omega arith; target = omega arith; slot = omega arith; delay = no_delay }) (All-nil (IsConnected one_tag)));
  one_source = AllPairs-cons HaveDifferentEnds one_tag_0 (one_tag_1 ∷ []) (All-cons (HaveDifferentEnds one_tag_0) one_tag_1 ([]) (λ e f. absurd (omega arith)) (All-nil (HaveDifferentEnds one_tag_0))) (AllPairs-cons HaveDifferentEnds one_tag_1 ([]) (All-nil (HaveDifferentEnds one_tag_1)) (no_pairs HaveDifferentEnds));
  ports_apart = All-cons (λ c. All (λ e. e.reactor ≡ c.target → e.slot ≢ c.slot) one_tag.external) one_tag_0 (one_tag_1 ∷ []) (All-cons (λ e. e.reactor ≡ one_tag_0.target → e.slot ≢ one_tag_0.slot) one_tag_event_0 (one_tag_event_1 ∷ []) (λ a b. absurd (omega arith)) (All-cons (λ e. e.reactor ≡ one_tag_0.target → e.slot ≢ one_tag_0.slot) one_tag_event_1 ([]) (λ a b. absurd (omega arith)) (All-nil (λ e. e.reactor ≡ one_tag_0.target → e.slot ≢ one_tag_0.slot)))) (All-cons (λ c. All (λ e. e.reactor ≡ c.target → e.slot ≢ c.slot) one_tag.external) one_tag_1 ([]) (All-cons (λ e. e.reactor ≡ one_tag_1.target → e.slot ≢ one_tag_1.slot) one_tag_event_0 (one_tag_event_1 ∷ []) (λ a b. absurd (omega arith)) (All-cons (λ e. e.reactor ≡ one_tag_1.target → e.slot ≢ one_tag_1.slot) one_tag_event_1 ([]) (λ a b. absurd (omega arith)) (All-nil (λ e. e.reactor ≡ one_tag_1.target → e.slot ≢ one_tag_1.slot)))) (All-nil (λ c. All (λ e. e.reactor ≡ c.target → e.slot ≢ c.slot) one_tag.external)));
  external = All-cons (IsExternal one_tag) one_tag_event_0 (one_tag_event_1 ∷ []) (record { reactor = omega arith; slot = omega arith; tag = record { time = omega arith; microstep = omega arith }; in_time = refl }) (All-cons (IsExternal one_tag) one_tag_event_1 ([]) (record { reactor = omega arith; slot = omega arith; tag = record { time = omega arith; microstep = omega arith }; in_time = refl }) (All-nil (IsExternal one_tag)));
  external_apart = AllPairs-cons AreForDifferentSlots one_tag_event_0 (one_tag_event_1 ∷ []) (All-cons (AreForDifferentSlots one_tag_event_0) one_tag_event_1 ([]) (λ a b c. absurd (omega arith)) (All-nil (AreForDifferentSlots one_tag_event_0))) (AllPairs-cons AreForDifferentSlots one_tag_event_1 ([]) (All-nil (AreForDifferentSlots one_tag_event_1)) (no_pairs AreForDifferentSlots));
  ranks = λ i l. l;
  ranks_apart = λ i j a b e. e;
  ranks_rise = All-cons (λ c. c.delay ≡ origin → one_tag.rank c.source < one_tag.rank c.target) one_tag_0 (one_tag_1 ∷ []) (λ e. omega arith) (All-cons (λ c. c.delay ≡ origin → one_tag.rank c.source < one_tag.rank c.target) one_tag_1 ([]) (λ e. omega arith) (All-nil (λ c. c.delay ≡ origin → one_tag.rank c.source < one_tag.rank c.target)));
  schedulings = λ reactor states present. All-nil (IsOwn one_tag reactor);
}

abbrev both_ends_0 : Connection
both_ends_0 = record { source = 0; port = 0; target = 1; slot = 0; delay = at 0 0 }

abbrev both_ends_1 : Connection
both_ends_1 = record { source = 1; port = 0; target = 2; slot = 0; delay = at 0 0 }

abbrev both_ends_event_0 : Event
both_ends_event_0 = outside (at 10 0) 0 1 (pos 0)

abbrev both_ends_event_1 : Event
both_ends_event_1 = outside (at 10 0) 2 1 (pos 0)

pub both_ends_is_lawful : IsLawful both_ends
both_ends_is_lawful = record {
  some_reactor = omega arith;
  few_reactors = omega arith;
  stop = record { time = omega arith; microstep = omega arith };
  connected = All-cons (IsConnected both_ends) both_ends_0 (both_ends_1 ∷ []) (record { source = omega arith; port = omega arith; target = omega arith; slot = omega arith; delay = no_delay }) (All-cons (IsConnected both_ends) both_ends_1 ([]) (record { source = omega arith; port = omega arith; target = omega arith; slot = omega arith; delay = no_delay }) (All-nil (IsConnected both_ends)));
  one_source = AllPairs-cons HaveDifferentEnds both_ends_0 (both_ends_1 ∷ []) (All-cons (HaveDifferentEnds both_ends_0) both_ends_1 ([]) (λ e f. absurd (omega arith)) (All-nil (HaveDifferentEnds both_ends_0))) (AllPairs-cons HaveDifferentEnds both_ends_1 ([]) (All-nil (HaveDifferentEnds both_ends_1)) (no_pairs HaveDifferentEnds));
  ports_apart = All-cons (λ c. All (λ e. e.reactor ≡ c.target → e.slot ≢ c.slot) both_ends.external) both_ends_0 (both_ends_1 ∷ []) (All-cons (λ e. e.reactor ≡ both_ends_0.target → e.slot ≢ both_ends_0.slot) both_ends_event_0 (both_ends_event_1 ∷ []) (λ a b. absurd (omega arith)) (All-cons (λ e. e.reactor ≡ both_ends_0.target → e.slot ≢ both_ends_0.slot) both_ends_event_1 ([]) (λ a b. absurd (omega arith)) (All-nil (λ e. e.reactor ≡ both_ends_0.target → e.slot ≢ both_ends_0.slot)))) (All-cons (λ c. All (λ e. e.reactor ≡ c.target → e.slot ≢ c.slot) both_ends.external) both_ends_1 ([]) (All-cons (λ e. e.reactor ≡ both_ends_1.target → e.slot ≢ both_ends_1.slot) both_ends_event_0 (both_ends_event_1 ∷ []) (λ a b. absurd (omega arith)) (All-cons (λ e. e.reactor ≡ both_ends_1.target → e.slot ≢ both_ends_1.slot) both_ends_event_1 ([]) (λ a b. absurd (omega arith)) (All-nil (λ e. e.reactor ≡ both_ends_1.target → e.slot ≢ both_ends_1.slot)))) (All-nil (λ c. All (λ e. e.reactor ≡ c.target → e.slot ≢ c.slot) both_ends.external)));
  external = All-cons (IsExternal both_ends) both_ends_event_0 (both_ends_event_1 ∷ []) (record { reactor = omega arith; slot = omega arith; tag = record { time = omega arith; microstep = omega arith }; in_time = refl }) (All-cons (IsExternal both_ends) both_ends_event_1 ([]) (record { reactor = omega arith; slot = omega arith; tag = record { time = omega arith; microstep = omega arith }; in_time = refl }) (All-nil (IsExternal both_ends)));
  external_apart = AllPairs-cons AreForDifferentSlots both_ends_event_0 (both_ends_event_1 ∷ []) (All-cons (AreForDifferentSlots both_ends_event_0) both_ends_event_1 ([]) (λ a b c. absurd (omega arith)) (All-nil (AreForDifferentSlots both_ends_event_0))) (AllPairs-cons AreForDifferentSlots both_ends_event_1 ([]) (All-nil (AreForDifferentSlots both_ends_event_1)) (no_pairs AreForDifferentSlots));
  ranks = λ i l. l;
  ranks_apart = λ i j a b e. e;
  ranks_rise = All-cons (λ c. c.delay ≡ origin → both_ends.rank c.source < both_ends.rank c.target) both_ends_0 (both_ends_1 ∷ []) (λ e. omega arith) (All-cons (λ c. c.delay ≡ origin → both_ends.rank c.source < both_ends.rank c.target) both_ends_1 ([]) (λ e. omega arith) (All-nil (λ c. c.delay ≡ origin → both_ends.rank c.source < both_ends.rank c.target)));
  schedulings = λ reactor states present. All-nil (IsOwn both_ends reactor);
}

ring_onward : (j : ℕ) → All (λ c. IfSome (ring_table c.target j) (λ rest. IsWithin (ring_table c.source j) (sum_of c.delay rest))) ring.connections
ring_onward zero = All-cons (λ c. IfSome (ring_table c.target zero) (λ rest. IsWithin (ring_table c.source zero) (sum_of c.delay rest))) ring_0 (ring_1 ∷ ring_2 ∷ []) refl (All-cons (λ c. IfSome (ring_table c.target zero) (λ rest. IsWithin (ring_table c.source zero) (sum_of c.delay rest))) ring_1 (ring_2 ∷ []) refl (All-cons (λ c. IfSome (ring_table c.target zero) (λ rest. IsWithin (ring_table c.source zero) (sum_of c.delay rest))) ring_2 ([]) refl (All-nil (λ c. IfSome (ring_table c.target zero) (λ rest. IsWithin (ring_table c.source zero) (sum_of c.delay rest))))))
ring_onward (suc zero) = All-cons (λ c. IfSome (ring_table c.target (suc zero)) (λ rest. IsWithin (ring_table c.source (suc zero)) (sum_of c.delay rest))) ring_0 (ring_1 ∷ ring_2 ∷ []) refl (All-cons (λ c. IfSome (ring_table c.target (suc zero)) (λ rest. IsWithin (ring_table c.source (suc zero)) (sum_of c.delay rest))) ring_1 (ring_2 ∷ []) refl (All-cons (λ c. IfSome (ring_table c.target (suc zero)) (λ rest. IsWithin (ring_table c.source (suc zero)) (sum_of c.delay rest))) ring_2 ([]) refl (All-nil (λ c. IfSome (ring_table c.target (suc zero)) (λ rest. IsWithin (ring_table c.source (suc zero)) (sum_of c.delay rest))))))
ring_onward (suc (suc zero)) = All-cons (λ c. IfSome (ring_table c.target (suc (suc zero))) (λ rest. IsWithin (ring_table c.source (suc (suc zero))) (sum_of c.delay rest))) ring_0 (ring_1 ∷ ring_2 ∷ []) refl (All-cons (λ c. IfSome (ring_table c.target (suc (suc zero))) (λ rest. IsWithin (ring_table c.source (suc (suc zero))) (sum_of c.delay rest))) ring_1 (ring_2 ∷ []) refl (All-cons (λ c. IfSome (ring_table c.target (suc (suc zero))) (λ rest. IsWithin (ring_table c.source (suc (suc zero))) (sum_of c.delay rest))) ring_2 ([]) refl (All-nil (λ c. IfSome (ring_table c.target (suc (suc zero))) (λ rest. IsWithin (ring_table c.source (suc (suc zero))) (sum_of c.delay rest))))))
ring_onward (suc (suc (suc j))) = All-cons (λ c. IfSome (ring_table c.target (suc (suc (suc j)))) (λ rest. IsWithin (ring_table c.source (suc (suc (suc j)))) (sum_of c.delay rest))) ring_0 (ring_1 ∷ ring_2 ∷ []) tt (All-cons (λ c. IfSome (ring_table c.target (suc (suc (suc j)))) (λ rest. IsWithin (ring_table c.source (suc (suc (suc j)))) (sum_of c.delay rest))) ring_1 (ring_2 ∷ []) tt (All-cons (λ c. IfSome (ring_table c.target (suc (suc (suc j)))) (λ rest. IsWithin (ring_table c.source (suc (suc (suc j)))) (sum_of c.delay rest))) ring_2 ([]) tt (All-nil (λ c. IfSome (ring_table c.target (suc (suc (suc j)))) (λ rest. IsWithin (ring_table c.source (suc (suc (suc j)))) (sum_of c.delay rest))))))

ring_is_table : IsAtMostEveryPath ring ring_table
ring_is_table = record { direct = All-cons (λ c. IsWithin (ring_table c.source c.target) c.delay) ring_0 (ring_1 ∷ ring_2 ∷ []) refl (All-cons (λ c. IsWithin (ring_table c.source c.target) c.delay) ring_1 (ring_2 ∷ []) refl (All-cons (λ c. IsWithin (ring_table c.source c.target) c.delay) ring_2 ([]) refl (All-nil (λ c. IsWithin (ring_table c.source c.target) c.delay)))); onward = ring_onward }

within_0 : Contains ring.connections ring_0
within_0 = (0, omega arith, refl)

within_1 : Contains ring.connections ring_1
within_1 = (1, omega arith, refl)

within_2 : Contains ring.connections ring_2
within_2 = (2, omega arith, refl)

ring_attained : (i j : ℕ) → IsTotalOfPath ring.connections i j (ring_table i j)
ring_attained zero zero = (ring_0 ∷ ring_1 ∷ ring_2 ∷ [], (within_0, refl, (within_1, refl, (within_2, refl, refl))), refl)
ring_attained zero (suc zero) = (ring_0 ∷ [], (within_0, refl, refl), refl)
ring_attained zero (suc (suc zero)) = (ring_0 ∷ ring_1 ∷ [], (within_0, refl, (within_1, refl, refl)), refl)
ring_attained zero (suc (suc (suc j))) = tt
ring_attained (suc zero) zero = (ring_1 ∷ ring_2 ∷ [], (within_1, refl, (within_2, refl, refl)), refl)
ring_attained (suc zero) (suc zero) = (ring_1 ∷ ring_2 ∷ ring_0 ∷ [], (within_1, refl, (within_2, refl, (within_0, refl, refl))), refl)
ring_attained (suc zero) (suc (suc zero)) = (ring_1 ∷ [], (within_1, refl, refl), refl)
ring_attained (suc zero) (suc (suc (suc j))) = tt
ring_attained (suc (suc zero)) zero = (ring_2 ∷ [], (within_2, refl, refl), refl)
ring_attained (suc (suc zero)) (suc zero) = (ring_2 ∷ ring_0 ∷ [], (within_2, refl, (within_0, refl, refl)), refl)
ring_attained (suc (suc zero)) (suc (suc zero)) = (ring_2 ∷ ring_0 ∷ ring_1 ∷ [], (within_2, refl, (within_0, refl, (within_1, refl, refl))), refl)
ring_attained (suc (suc zero)) (suc (suc (suc j))) = tt
ring_attained (suc (suc (suc i))) zero = tt
ring_attained (suc (suc (suc i))) (suc zero) = tt
ring_attained (suc (suc (suc i))) (suc (suc zero)) = tt
ring_attained (suc (suc (suc i))) (suc (suc (suc j))) = tt

pub ring_is_least : IsLeastTable ring ring_table
ring_is_least = fixed_point_is_least ring ring_table ring_is_table ring_attained

two_microsteps_onward : (j : ℕ) → All (λ c. IfSome (line_table (at 10 0) c.target j) (λ rest. IsWithin (line_table (at 10 0) c.source j) (sum_of c.delay rest))) two_microsteps.connections
two_microsteps_onward zero = All-cons (λ c. IfSome (line_table (at 10 0) c.target zero) (λ rest. IsWithin (line_table (at 10 0) c.source zero) (sum_of c.delay rest))) two_microsteps_0 (two_microsteps_1 ∷ []) tt (All-cons (λ c. IfSome (line_table (at 10 0) c.target zero) (λ rest. IsWithin (line_table (at 10 0) c.source zero) (sum_of c.delay rest))) two_microsteps_1 [] tt (All-nil (λ c. IfSome (line_table (at 10 0) c.target zero) (λ rest. IsWithin (line_table (at 10 0) c.source zero) (sum_of c.delay rest)))))
two_microsteps_onward (suc zero) = All-cons (λ c. IfSome (line_table (at 10 0) c.target (suc zero)) (λ rest. IsWithin (line_table (at 10 0) c.source (suc zero)) (sum_of c.delay rest))) two_microsteps_0 (two_microsteps_1 ∷ []) tt (All-cons (λ c. IfSome (line_table (at 10 0) c.target (suc zero)) (λ rest. IsWithin (line_table (at 10 0) c.source (suc zero)) (sum_of c.delay rest))) two_microsteps_1 [] tt (All-nil (λ c. IfSome (line_table (at 10 0) c.target (suc zero)) (λ rest. IsWithin (line_table (at 10 0) c.source (suc zero)) (sum_of c.delay rest)))))
two_microsteps_onward (suc (suc zero)) = All-cons (λ c. IfSome (line_table (at 10 0) c.target (suc (suc zero))) (λ rest. IsWithin (line_table (at 10 0) c.source (suc (suc zero))) (sum_of c.delay rest))) two_microsteps_0 (two_microsteps_1 ∷ []) refl (All-cons (λ c. IfSome (line_table (at 10 0) c.target (suc (suc zero))) (λ rest. IsWithin (line_table (at 10 0) c.source (suc (suc zero))) (sum_of c.delay rest))) two_microsteps_1 [] tt (All-nil (λ c. IfSome (line_table (at 10 0) c.target (suc (suc zero))) (λ rest. IsWithin (line_table (at 10 0) c.source (suc (suc zero))) (sum_of c.delay rest)))))
two_microsteps_onward (suc (suc (suc j))) = All-cons (λ c. IfSome (line_table (at 10 0) c.target (suc (suc (suc j)))) (λ rest. IsWithin (line_table (at 10 0) c.source (suc (suc (suc j)))) (sum_of c.delay rest))) two_microsteps_0 (two_microsteps_1 ∷ []) tt (All-cons (λ c. IfSome (line_table (at 10 0) c.target (suc (suc (suc j)))) (λ rest. IsWithin (line_table (at 10 0) c.source (suc (suc (suc j)))) (sum_of c.delay rest))) two_microsteps_1 [] tt (All-nil (λ c. IfSome (line_table (at 10 0) c.target (suc (suc (suc j)))) (λ rest. IsWithin (line_table (at 10 0) c.source (suc (suc (suc j)))) (sum_of c.delay rest)))))

two_microsteps_is_table : IsAtMostEveryPath two_microsteps (line_table (at 10 0))
two_microsteps_is_table = record { direct = All-cons (λ c. IsWithin (line_table (at 10 0) c.source c.target) c.delay) two_microsteps_0 (two_microsteps_1 ∷ []) refl (All-cons (λ c. IsWithin (line_table (at 10 0) c.source c.target) c.delay) two_microsteps_1 [] refl (All-nil (λ c. IsWithin (line_table (at 10 0) c.source c.target) c.delay))); onward = two_microsteps_onward }

two_microsteps_within_0 : Contains two_microsteps.connections two_microsteps_0
two_microsteps_within_0 = (0, omega arith, refl)

two_microsteps_within_1 : Contains two_microsteps.connections two_microsteps_1
two_microsteps_within_1 = (1, omega arith, refl)

two_microsteps_attained : (i j : ℕ) → IsTotalOfPath two_microsteps.connections i j (line_table (at 10 0) i j)
two_microsteps_attained zero zero = tt
two_microsteps_attained zero (suc zero) = (two_microsteps_0 ∷ [], (two_microsteps_within_0, refl, refl), refl)
two_microsteps_attained zero (suc (suc zero)) = (two_microsteps_0 ∷ two_microsteps_1 ∷ [], (two_microsteps_within_0, refl, (two_microsteps_within_1, refl, refl)), refl)
two_microsteps_attained zero (suc (suc (suc j))) = tt
two_microsteps_attained (suc zero) zero = tt
two_microsteps_attained (suc zero) (suc zero) = tt
two_microsteps_attained (suc zero) (suc (suc zero)) = (two_microsteps_1 ∷ [], (two_microsteps_within_1, refl, refl), refl)
two_microsteps_attained (suc zero) (suc (suc (suc j))) = tt
two_microsteps_attained (suc (suc i)) j = tt

pub two_microsteps_is_least : IsLeastTable two_microsteps (line_table (at 10 0))
two_microsteps_is_least = fixed_point_is_least two_microsteps (line_table (at 10 0)) two_microsteps_is_table two_microsteps_attained

one_tag_onward : (j : ℕ) → All (λ c. IfSome (line_table (at 0 0) c.target j) (λ rest. IsWithin (line_table (at 0 0) c.source j) (sum_of c.delay rest))) one_tag.connections
one_tag_onward zero = All-cons (λ c. IfSome (line_table (at 0 0) c.target zero) (λ rest. IsWithin (line_table (at 0 0) c.source zero) (sum_of c.delay rest))) one_tag_0 (one_tag_1 ∷ []) tt (All-cons (λ c. IfSome (line_table (at 0 0) c.target zero) (λ rest. IsWithin (line_table (at 0 0) c.source zero) (sum_of c.delay rest))) one_tag_1 [] tt (All-nil (λ c. IfSome (line_table (at 0 0) c.target zero) (λ rest. IsWithin (line_table (at 0 0) c.source zero) (sum_of c.delay rest)))))
one_tag_onward (suc zero) = All-cons (λ c. IfSome (line_table (at 0 0) c.target (suc zero)) (λ rest. IsWithin (line_table (at 0 0) c.source (suc zero)) (sum_of c.delay rest))) one_tag_0 (one_tag_1 ∷ []) tt (All-cons (λ c. IfSome (line_table (at 0 0) c.target (suc zero)) (λ rest. IsWithin (line_table (at 0 0) c.source (suc zero)) (sum_of c.delay rest))) one_tag_1 [] tt (All-nil (λ c. IfSome (line_table (at 0 0) c.target (suc zero)) (λ rest. IsWithin (line_table (at 0 0) c.source (suc zero)) (sum_of c.delay rest)))))
one_tag_onward (suc (suc zero)) = All-cons (λ c. IfSome (line_table (at 0 0) c.target (suc (suc zero))) (λ rest. IsWithin (line_table (at 0 0) c.source (suc (suc zero))) (sum_of c.delay rest))) one_tag_0 (one_tag_1 ∷ []) refl (All-cons (λ c. IfSome (line_table (at 0 0) c.target (suc (suc zero))) (λ rest. IsWithin (line_table (at 0 0) c.source (suc (suc zero))) (sum_of c.delay rest))) one_tag_1 [] tt (All-nil (λ c. IfSome (line_table (at 0 0) c.target (suc (suc zero))) (λ rest. IsWithin (line_table (at 0 0) c.source (suc (suc zero))) (sum_of c.delay rest)))))
one_tag_onward (suc (suc (suc j))) = All-cons (λ c. IfSome (line_table (at 0 0) c.target (suc (suc (suc j)))) (λ rest. IsWithin (line_table (at 0 0) c.source (suc (suc (suc j)))) (sum_of c.delay rest))) one_tag_0 (one_tag_1 ∷ []) tt (All-cons (λ c. IfSome (line_table (at 0 0) c.target (suc (suc (suc j)))) (λ rest. IsWithin (line_table (at 0 0) c.source (suc (suc (suc j)))) (sum_of c.delay rest))) one_tag_1 [] tt (All-nil (λ c. IfSome (line_table (at 0 0) c.target (suc (suc (suc j)))) (λ rest. IsWithin (line_table (at 0 0) c.source (suc (suc (suc j)))) (sum_of c.delay rest)))))

one_tag_is_table : IsAtMostEveryPath one_tag (line_table (at 0 0))
one_tag_is_table = record { direct = All-cons (λ c. IsWithin (line_table (at 0 0) c.source c.target) c.delay) one_tag_0 (one_tag_1 ∷ []) refl (All-cons (λ c. IsWithin (line_table (at 0 0) c.source c.target) c.delay) one_tag_1 [] refl (All-nil (λ c. IsWithin (line_table (at 0 0) c.source c.target) c.delay))); onward = one_tag_onward }

one_tag_within_0 : Contains one_tag.connections one_tag_0
one_tag_within_0 = (0, omega arith, refl)

one_tag_within_1 : Contains one_tag.connections one_tag_1
one_tag_within_1 = (1, omega arith, refl)

one_tag_attained : (i j : ℕ) → IsTotalOfPath one_tag.connections i j (line_table (at 0 0) i j)
one_tag_attained zero zero = tt
one_tag_attained zero (suc zero) = (one_tag_0 ∷ [], (one_tag_within_0, refl, refl), refl)
one_tag_attained zero (suc (suc zero)) = (one_tag_0 ∷ one_tag_1 ∷ [], (one_tag_within_0, refl, (one_tag_within_1, refl, refl)), refl)
one_tag_attained zero (suc (suc (suc j))) = tt
one_tag_attained (suc zero) zero = tt
one_tag_attained (suc zero) (suc zero) = tt
one_tag_attained (suc zero) (suc (suc zero)) = (one_tag_1 ∷ [], (one_tag_within_1, refl, refl), refl)
one_tag_attained (suc zero) (suc (suc (suc j))) = tt
one_tag_attained (suc (suc i)) j = tt

pub one_tag_is_least : IsLeastTable one_tag (line_table (at 0 0))
one_tag_is_least = fixed_point_is_least one_tag (line_table (at 0 0)) one_tag_is_table one_tag_attained

-- the same connections
pub both_ends_is_least : IsLeastTable both_ends (line_table (at 0 0))
both_ends_is_least = one_tag_is_least
