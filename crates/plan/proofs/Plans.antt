-- Drafts that were checked.
use Rattle.std.proofs.Common.{◌≡◌, ℕ, suc, zero, ◌+◌, ◌<◌, List, [], ◌∷◌, length, refl, ap, sym, ◌∙◌, arith, subst, map, get_or, inl, inr, ◌^◌}
use Rattle.std.specs.Prelude.{All, AllPairs, IsSome, IfSome, Option, None, Some, Result, Ok, Err, IfErr, slice_get, slice_index}
use Rattle.std.proofs.lemmas.Option.{slice_get_within, get_or_from_slice_get}
use Rattle.std.proofs.lemmas.Slice.Eq.{bytes_eq-Decides}
use Rattle.std.proofs.lemmas.Map.Made.{AllPairs-from_IsDistinct}
use Rattle.tag.specs.LogicalTime.{LogicalTime}
use Rattle.network.specs.Connection.{Connection}
use Rattle.network.specs.Lawful.{HaveDifferentEnds}
use Rattle.network.proofs.Items.{All-filter_map}
use Rattle.plan.specs.declared.draft.Federate.{Federate}
use Rattle.plan_names.specs.declared.port.PortName.{PortName}
use Rattle.plan.specs.declared.draft.ConnectionDraft.{ConnectionDraft}
use Rattle.plan.specs.declared.draft.Draft.{Draft}
use Rattle.plan.specs.declared.plan_fault.PlanFault.{PlanFault}
use Rattle.plan.specs.declared.plan_fault.PlanFault.TheVariants.{NoFederate, UnknownName, TwoSources, ZeroDelayCycle, OverLimit, BadTimer, Memory, RepeatedName}
use Rattle.plan_names.specs.Naming.{AreDistinct, StandsTwice}
use Rattle.plan_slots.specs.Numbering.{all_names, first_input}
use Rattle.plan.specs.Federation.{Found, federate_names, found_input, found_output, connection_of, connections_of, federate_count}
use Rattle.plan_paths.specs.Levels.{level_within, before_by}
use Rattle.plan_paths.specs.Least.{IsLeastTable}
use Rattle.plan_paths.specs.Cycles.{HasNoZeroDelayCycle}
use Rattle.plan.specs.Legal.{IsLegal}
use Rattle.plan.specs.Planned.{IsPlanned}
use Rattle.plan.specs.Faults.{StandsIn, HasTwoSources, IsUnknown, IsRepeated, IsWithinAllLimits, AreTimersInRange, HasDistinctNames, ArePortsThere, IsNamedCycle}
use Rattle.plan.proofs.Joined.{Joins, joins_at, length-connections_of, nowhere, joins_from_connection_of, found_at}
use Rattle.plan_paths.proofs.Levels.{EndsBelow}

-- ---- ends of connections

-- both ends of each connection are federates
pub ends_below : (d : Draft) → EndsBelow (federate_count d) (connections_of d)
ends_below d =
    All-filter_map (λ (c : ConnectionDraft). Unit {0}) (λ (c : Connection). (c.source < federate_count d) × (c.target < federate_count d))
    (connection_of d.federates) d.connections
    (λ c x any is.
    let joins : Joins d.federates c x = joins_from_connection_of d.federates c x is in
    let from = found_at (λ s. s.outputs) d.federates c.from.federate c.from.port joins.from joins.from_is in
    let to = found_at (λ s. s.inputs) d.federates c.to.federate c.to.port joins.to joins.to_is in
    let from_below : joins.from.federate < length d.federates = slice_get_within d.federates joins.from.federate from.0 from.1 in
    let to_below : joins.to.federate < length d.federates = slice_get_within d.federates joins.to.federate to.0 to.1 in
    let source : x.source ≡ joins.from.federate = joins.source in
    let target : x.target ≡ joins.to.federate = joins.target in
    (omega arith, omega arith))
    (λ k e below. tt)

-- ---- what the steps of a check show

pub legal_from : (d : Draft) → d.stop < 2 ^ 62 → 0 < length d.federates → IsWithinAllLimits d → AreTimersInRange d → HasDistinctNames d → ArePortsThere d
    → All (λ c. IfSome c.after (λ t. t < 2 ^ 62)) d.connections → AllPairs HaveDifferentEnds (connections_of d) → HasNoZeroDelayCycle (connections_of d) → IsLegal d
legal_from d stop some limits timers names ports delays sources cycles = record {
  some_federate = some;
  few_federates = limits.federates;
  few_connections = limits.connections;
  few_slots = limits.slots;
  federates_apart = names.federates;
  slots_apart = names.slots;
  timers = timers;
  stop = stop;
  delays = delays;
  from_outputs = ports.from_outputs;
  to_inputs = ports.to_inputs;
  one_source = sources;
  no_zero_delay_cycle = cycles;
}

pub ends_below_at : (d : Draft) (cs : List Connection) (n : ℕ) → cs ≡ connections_of d → n ≡ federate_count d → EndsBelow n cs
ends_below_at d cs n cs_is n_is =
    subst (λ m. EndsBelow m cs) (sym n_is) (subst (λ es. EndsBelow (federate_count d) es) (sym cs_is) (ends_below d))

pub planned_from : (d : Draft) (cs es : List Connection) (rs : List ℕ) (n : ℕ) → IsLegal d → cs ≡ connections_of d → es ≡ connections_of d
    → n ≡ federate_count d → length rs ≡ n → ((i : ℕ) → i < n → slice_index rs i ≡ before_by (level_within es n) n i)
    → (fs : List Connection) (ls : List (List (Option LogicalTime))) → fs ≡ connections_of d → IsLeastTable fs n ls → IsPlanned d cs rs ls
planned_from d cs es rs n legal cs_is es_is n_is len ranks fs ls fs_is delays = record {
  legal = legal;
  connections = cs_is;
  rank_count = len ∙ n_is;
  ranks = λ i below.
      ranks i (omega arith)
      ∙ ap (λ m. before_by (level_within es m) m i) n_is
      ∙ ap (λ fs. before_by (level_within fs (federate_count d)) (federate_count d) i) es_is;
  delays = subst (λ m. IsLeastTable (connections_of d) m ls) n_is (subst (λ gs. IsLeastTable gs n ls) fs_is delays);
}

-- ---- no fault but want of memory is in a legal draft

unmapped : {X Y : Type 0} (f : X → Y) (xs : List X) (k : ℕ) (y : Y) → slice_get (map f xs) k ≡ Some y
    → (x : X) × (slice_get xs k ≡ Some x) × (f x ≡ y)
unmapped f [] k y e = cc
unmapped f (x ∷ xs) zero y e = let same : f x ≡ y = cc in (x, refl, same)
unmapped f (x ∷ xs) (suc k) y e = unmapped f xs k y e

not_twice : (names : List (List ℕ)) (name : List ℕ) → AreDistinct names → StandsTwice names name → ⊥
not_twice names name distinct twice =
    let later_below : twice.later < length names = slice_get_within names twice.later name twice.at_later in
    AllPairs-from_IsDistinct bytes_eq-Decides names distinct twice.first twice.later [] twice.in_order later_below
    (get_or_from_slice_get names twice.first name [] twice.at_first
    ∙ sym (get_or_from_slice_get names twice.later name [] twice.at_later))

not_repeated : (d : Draft) (name : List ℕ) → IsLegal d → IsRepeated d name → ⊥
not_repeated d name legal repeated =
    elim repeated [
      | inl twice ↦ not_twice (federate_names d.federates) name legal.federates_apart twice
      | inr any ↦
          not_twice (all_names any.1.slots) name
          (subst (λ (f : Federate). AreDistinct (all_names f.slots)) any.3 (legal.slots_apart any.0 any.1 any.2)) any.4
    ]

not_unknown : (d : Draft) (p : PortName) → IsLegal d → IsUnknown d p → ⊥
not_unknown d p legal unknown =
    elim unknown [
      | inl any ↦
          (let there : IsSome (found_output d.federates p)
          = subst (λ (q : PortName). IsSome (found_output d.federates q)) (ap (λ (c : ConnectionDraft). c.from) any.3 ∙ any.4.0)
          (legal.from_outputs any.0 any.1 any.2) in
          nothing (found_output d.federates p) there any.4.1)
      | inr any ↦
          (let there : IsSome (found_input d.federates p)
          = subst (λ (q : PortName). IsSome (found_input d.federates q)) (ap (λ (c : ConnectionDraft). c.to) any.3 ∙ any.4.0)
          (legal.to_inputs any.0 any.1 any.2) in
          nothing (found_input d.federates p) there any.4.1)
    ]
  where
    nothing : (o : Option Found) → IsSome o → o ≡ None → ⊥
    nothing None h e = cc
    nothing (Some x) h e = cc

there_of : (d : Draft) → IsLegal d → ArePortsThere d
there_of d legal = record { from_outputs = legal.from_outputs; to_inputs = legal.to_inputs }

not_two_sources : (d : Draft) (p : PortName) → IsLegal d → HasTwoSources d p → ⊥
not_two_sources d p legal two =
    let there : ArePortsThere d = there_of d legal in
    let same_length : length (connections_of d) ≡ length d.connections = length-connections_of d there in
    let first : (c : ConnectionDraft) × (slice_get d.connections two.twice.first ≡ Some c) × (c.to ≡ p)
    = unmapped (λ (c : ConnectionDraft). c.to) d.connections two.twice.first p two.twice.at_first in
    let later : (c : ConnectionDraft) × (slice_get d.connections two.twice.later ≡ Some c) × (c.to ≡ p)
    = unmapped (λ (c : ConnectionDraft). c.to) d.connections two.twice.later p two.twice.at_later in
    let later_below : two.twice.later < length d.connections = slice_get_within d.connections two.twice.later later.0 later.1 in
    let in_order : two.twice.first < two.twice.later = two.twice.in_order in
    let first_joins : Joins d.federates first.0 (get_or (connections_of d) two.twice.first nowhere)
    = joins_at d there two.twice.first first.0 nowhere (omega arith) first.1 in
    let later_joins : Joins d.federates later.0 (get_or (connections_of d) two.twice.later nowhere)
    = joins_at d there two.twice.later later.0 nowhere later_below later.1 in
    let one : Some first_joins.to ≡ Some later_joins.to
    = sym first_joins.to_is ∙ ap (λ q. found_input d.federates q) (first.2 ∙ sym later.2) ∙ later_joins.to_is in
    let same : first_joins.to ≡ later_joins.to = cc in
    legal.one_source two.twice.first two.twice.later nowhere in_order (omega arith)
    (first_joins.target ∙ ap (λ (f : Found). f.federate) same ∙ sym later_joins.target)
    (first_joins.slot ∙ ap (λ (f : Found). first_input + f.place) same ∙ sym later_joins.slot)

not_a_cycle : (d : Draft) (names : List (List ℕ)) → IsLegal d → IsNamedCycle d names → ⊥
not_a_cycle d names legal named = legal.no_zero_delay_cycle named.start named.path named.cycle.way.is_path named.cycle.way.zero_delay

other_faults : (d : Draft) (e : PlanFault) → StandsIn d e → IsLegal d → e ≡ Memory
other_faults d NoFederate stands legal =
    let some : 0 < length d.federates = legal.some_federate in absurd (omega (arith, ap length stands))
other_faults d (UnknownName p) stands legal = absurd (not_unknown d p legal stands)
other_faults d (TwoSources p) stands legal = absurd (not_two_sources d p legal stands)
other_faults d (ZeroDelayCycle names) stands legal = absurd (not_a_cycle d names legal stands)
other_faults d OverLimit stands legal =
    absurd (stands (record { federates = legal.few_federates; connections = legal.few_connections; slots = legal.few_slots }))
other_faults d BadTimer stands legal = absurd (stands legal.timers)
other_faults d Memory stands legal = refl
other_faults d (RepeatedName name) stands legal = absurd (not_repeated d name legal stands)

pub accepts_from : {X : Type 0} (d : Draft) (r : Result X PlanFault) → IfErr r (StandsIn d) → IsLegal d → IfErr r (λ e. e ≡ Memory)
accepts_from d (Ok x) stands legal = tt
accepts_from d (Err e) stands legal = other_faults d e stands legal
