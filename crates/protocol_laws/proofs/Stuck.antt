-- A stuck run has nothing left to do: the least event that is undone would be granted, and would be run.
use Rattle.std.proofs.Common.{◌≡◌, ℕ, zero, suc, ◌+◌, ◌*◌, ◌<◌, ◌≤◌, inl, inr, Bool, true, false, List, [], ◌∷◌, refl, ap, subst, ◌∙◌, arith, min, Option, None, Some}
use Rattle.std.specs.Prelude.{if◌then◌else◌, ◌&&◌, ◌||◌, Contains, MatchOption}
use Rattle.std.specs.List.{list_any}
use Rattle.std.proofs.lemmas.Bool.{cases_lt}
use Rattle.std.proofs.lemmas.Bool.Decides.{nat_tests}
use Rattle.tag.specs.LogicalTime.{LogicalTime, is_before, is_at_most, sum_of, origin, place, is_past, is_reached}
use Rattle.tag.proofs.Order.{at_most_from_places, at_most_then, before_from_places, before_then, finite_is_logical, not_forever, place_bound, place_of_finite, same_is_equal, top}
use Rattle.tag.proofs.SumLaws.{sum_at_least_first, sum_later}
use Rattle.network.specs.Connection.{Connection, IsPath, total_of, IsLeastDelay, IsUnreachable}
use Rattle.network.specs.Network.{Network}
use Rattle.network.specs.Lawful.{IsLawful}
use Rattle.network.specs.Tables.{Table, IsLeastTable}
use Rattle.network.proofs.Walks.{AreZeroDelay, zero_delay_from_total}
use Rattle.signal.specs.declared.signal.Signal.{Signal}
use Rattle.signal.specs.declared.signal.Signal.TheVariants.{Net}
use Rattle.protocol.specs.Outcome.{Nothing, Done}
use Rattle.network.specs.Undone.{PendingEvent, first_tag}
use Rattle.protocol.specs.Federate.{Stepped, is_told, next_event, advance_to, turn_at}
use Rattle.protocol.specs.FederateRecord.{FederateRecord}
use Rattle.protocol.specs.Grant.{Rule, IsSafeRule, is_before_arrival, passes_paths, passes_connections}
use Rattle.protocol.specs.Machine.{Member, Move, federate_records_of, after_moves}
use Rattle.protocol_laws.specs.Runs.{IsStuck, IsQuiet, IsFullRule, is_message}
use Rattle.protocol_laws.proofs.Tags.{above, not_past, to_reached}
use Rattle.protocol_laws.proofs.Transit.{least_above}
use Rattle.protocol_laws.proofs.Upward.{last_ltc}
use Rattle.protocol_laws.proofs.Downward.{last_tag}
use Rattle.protocol_laws.proofs.StillUndone.{IsUndone, first_place}
use Rattle.protocol_laws.proofs.Told.{undone_from, message_from, IsTold, first_is_least}
use Rattle.protocol_laws.proofs.Kept.{IsKept, next_place, first_within}
use Rattle.protocol_laws.proofs.Backing.{all_at}
use Rattle.protocol_laws.proofs.Eligibility.{contained_at, all_below_from}
use Rattle.protocol_laws.proofs.LeastTables.{least_table_is_table}
use Rattle.protocol_laws.proofs.Safety.{moves_sound}
use Rattle.protocol_laws.proofs.Settled.{NobodyIsEligible, moves_settle}
use Rattle.protocol_laws.proofs.Tests.{either_of}

told_if : (b : Bool) (made : Stepped) → (if b then Nothing else Done made) ≡ Nothing → b ≡ true
told_if true made e = refl
told_if false made e = cc

told_is : (o : Option LogicalTime) (g : LogicalTime) → is_told o g ≡ true → o ≡ Some g
told_is None g e = cc
told_is (Some x) g e = ap Some (same_is_equal x g e)

told_taken : (s : FederateRecord) (g : LogicalTime) → IsTold s (Some g) [] → (s.announced ≡ true) × (place s.next ≡ min (place g) (least_above 0 s.transit))
told_taken s g (inl h) = absurd h
told_taken s g (inr h) = (h.1, h.2)

first_from : (stop : LogicalTime) (start low : ℕ) (u : List PendingEvent) → IsUndone stop start u → first_place u ≤ undone_from low u
first_from stop start low [] h = omega arith
first_from stop start low (x ∷ rest) h =
    let again : IsUndone stop (place x.tag) (x ∷ rest) = (h.0, omega arith, h.2, h.3) in
    first_is_least stop (place x.tag) low (x ∷ rest) (place_bound x.tag h.0) again

all_above : (low : ℕ) (xs : List LogicalTime) → low ≤ least_above 0 xs → least_above low xs ≤ least_above 0 xs
all_above low [] h = omega arith
all_above low (x ∷ rest) h =
    let zeroth : least_above 0 (x ∷ rest) ≡ min (place x) (least_above 0 rest) = grind (arith, nat_tests) in
    let r = all_above low rest (omega arith) in
    grind (arith, nat_tests)

-- what the coordinator knows of a stuck federate: its least undone tag
pub stuck_next : (n : Network) (j : ℕ) (m : Member) → IsKept n j m.federate_record m.federate m.up m.down → IsStuck n j m → (m.federate_record.announced ≡ true) × (place m.federate_record.next ≡ first_place m.federate.undone)
stuck_next n j m k st =
    let told = told_if (is_told m.federate.announced (next_event m.federate)) (record { after = record m.federate { announced = Some (next_event m.federate) }; sent = Net (next_event m.federate) ∷ [] }) st.announce in
    let is = told_is m.federate.announced (next_event m.federate) told in
    let P : Option LogicalTime → Type 0 = λ o. IsTold m.federate_record o m.up in
    let Q : List Signal → Type 0 = λ u. IsTold m.federate_record (Some (next_event m.federate)) u in
    let taken = told_taken m.federate_record (next_event m.federate) (subst Q st.up (subst P is k.told)) in
    let R : List Signal → Type 0 = λ d. min (undone_from (above m.federate.completed) m.federate.undone) (message_from (above m.federate.completed) d) ≤ least_above (above m.federate.completed) m.federate_record.transit in
    let found = subst R st.down (k.found (above m.federate.completed) (omega arith)) in
    let S : List Signal → Type 0 = λ u. last_ltc (above m.federate_record.completed) u ≡ above m.federate.completed in
    let chain = subst S st.up k.chain in
    let passed = k.passed in
    let first = first_from n.stop (above m.federate.completed) (above m.federate.completed) m.federate.undone k.undone in
    let within = first_within n.stop (above m.federate.completed) m.federate.undone k.undone in
    let all = all_above (above m.federate.completed) m.federate_record.transit (omega arith) in
    let here = next_place m.federate.undone in
    let next = taken.1 in
    (taken.0, omega arith)

connection_ranks : (n : Network) (c : Connection) → IsLawful n → Contains n.connections c → c.delay ≡ origin → n.rank c.source < n.rank c.target
connection_ranks n c lawful h e =
    let at = contained_at n.connections c h in
    all_at (λ x. x.delay ≡ origin → n.rank x.source < n.rank x.target) n.connections at.0 c lawful.ranks_rise at.1 e

-- along a zero-delay path ranks rise
zero_delay_ranks : (n : Network) (i j : ℕ) (path : List Connection) → IsLawful n → IsPath n.connections i path j → AreZeroDelay path → n.rank i < n.rank j
zero_delay_ranks n i j [] lawful p each = absurd p
zero_delay_ranks n i j (c ∷ []) lawful p each =
    let rises = connection_ranks n c lawful p.0 each.0 in
    let P : ℕ → Type 0 = λ x. n.rank x < n.rank c.target in
    let Q : ℕ → Type 0 = λ x. n.rank i < n.rank x in
    subst Q p.2 (subst P p.1 rises)
zero_delay_ranks n i j (c ∷ d ∷ rest) lawful p each =
    let later = zero_delay_ranks n c.target j (d ∷ rest) lawful p.2 each.1 in
    let rises = connection_ranks n c lawful p.0 each.0 in
    let P : ℕ → Type 0 = λ x. n.rank x < n.rank c.target in
    let first = subst P p.1 rises in
    omega arith

path_ranks : (n : Network) (i j : ℕ) (path : List Connection) → IsLawful n → IsPath n.connections i path j → total_of path ≡ origin → n.rank i < n.rank j
path_ranks n i j path lawful p e = zero_delay_ranks n i j path lawful p (zero_delay_from_total path e)

table_ranks : (n : Network) (i j : ℕ) (o : Option LogicalTime) (d : LogicalTime) → IsLawful n → MatchOption o (IsUnreachable n.connections i j) (λ delay. IsLeastDelay n.connections i j delay) → o ≡ Some d → d ≡ origin → n.rank i < n.rank j
table_ranks n i j None d lawful m e z = cc
table_ranks n i j (Some x) d lawful m e z = let same : x ≡ d = cc in path_ranks n i j m.attained.0 lawful m.attained.1 (m.attained.2 ∙ same ∙ z)

remaining : (a b c d : Bool) → a ≡ true → c ≡ true → d ≡ true → (a && b && c && d) ≡ false → b ≡ false
remaining a false c d p q r h = refl
remaining true true true true p q r h = cc
remaining true true true false p q r h = cc
remaining true true false d p q r h = cc
remaining false true c d p q r h = cc

if_nothing : (b : Bool) (made : Stepped) → (if b then Done made else Nothing) ≡ Nothing → b ≡ false
if_nothing true made e = cc
if_nothing false made e = refl

arrival_if : (tag next : LogicalTime) (o : Option LogicalTime) → ((d : LogicalTime) → o ≡ Some d → is_before tag (sum_of next d) ≡ true) → is_before_arrival tag next o ≡ true
arrival_if tag next None h = refl
arrival_if tag next (Some d) h = h d refl

-- what is known of all, in a stuck run
pub record IsHalted (n : Network) (table : Table) (members : ℕ → Member) : Type 0 where
  pub kept : (j : ℕ) → IsKept n j (members j).federate_record (members j).federate (members j).up (members j).down
  pub settled : NobodyIsEligible n table (federate_records_of members)
  pub stuck : (j : ℕ) → j < n.reactors → IsStuck n j (members j)

compared : (a b r q : ℕ) → a ≤ b → r < 64 → q < 64 → (a * 64 + r < b * 64 + q → ⊥) → (b ≤ a) × (q ≤ r)
compared a b r q l m k h =
    elim (cases_lt a b) [
      | inl s ↦ absurd (h (omega arith))
      | inr s ↦ elim (cases_lt r q) [ inl t ↦ absurd (h (omega arith)) | inr t ↦ (s, t) ]
    ]

-- an undone tag is before what arrives from another federate, unless that one has an event undone earlier
arrives_later : (n : Network) (table : Table) (members : ℕ → Member) (i j : ℕ) (d : LogicalTime) → IsLawful n → IsLeastTable n table → IsHalted n table members → i < n.reactors → j < n.reactors → first_place (members j).federate.undone < top → table i j ≡ Some d → (first_place (members i).federate.undone * 64 + n.rank i < first_place (members j).federate.undone * 64 + n.rank j → ⊥) → is_before (members j).federate_record.next (sum_of (members i).federate_record.next d) ≡ true
arrives_later n table members i j d lawful least halted l m small e earliest =
    let ni = (members i).federate_record.next in
    let nj = (members j).federate_record.next in
    let at_i = stuck_next n i (members i) (halted.kept i) (halted.stuck i l) in
    let at_j = stuck_next n j (members j) (halted.kept j) (halted.stuck j m) in
    let pi = at_i.1 in
    let pj = at_j.1 in
    let ti = (halted.kept i).next_tag in
    let tj = (halted.kept j).next_tag in
    let few = lawful.few_reactors in
    let ri = lawful.ranks i l in
    let rj = lawful.ranks j m in
    elim (cases_lt (place nj) (place ni)) [
      | inl later ↦ before_then nj ni (sum_of ni d) (before_from_places nj ni tj ti later) (sum_at_least_first ni d ti)
      | inr not_later ↦
          let no_earlier : (first_place (members j).federate.undone ≤ first_place (members i).federate.undone) × (n.rank j ≤ n.rank i) = compared (first_place (members i).federate.undone) (first_place (members j).federate.undone) (n.rank i) (n.rank j) (omega arith) (omega arith) (omega arith) earliest in
          let a = no_earlier.0 in
          let b = no_earlier.1 in
          let apart : d ≡ origin → ⊥ = λ z. (let r = table_ranks n i j (table i j) d lawful (least i j) e z in omega arith) in
          let moved = sum_later ni d ti (not_forever ni (omega arith)) apart in
          at_most_then nj ni (sum_of ni d) (at_most_from_places nj ni tj ti (omega arith)) moved
    ]

-- so no event is undone
nothing_undone : (n : Network) (table : Table) (members : ℕ → Member) (j : ℕ) (u : List PendingEvent) → IsLawful n → IsLeastTable n table → IsHalted n table members → j < n.reactors → (members j).federate.undone ≡ u → ((i : ℕ) → i < n.reactors → first_place (members i).federate.undone * 64 + n.rank i < first_place (members j).federate.undone * 64 + n.rank j → (members i).federate.undone ≡ []) → u ≡ []
nothing_undone n table members j [] lawful least halted m e earlier = refl
nothing_undone n table members j (x ∷ rest) lawful least halted m e earlier =
    let k = halted.kept j in
    let st = halted.stuck j m in
    let s = (members j).federate_record in
    let f = (members j).federate in
    let at_j = stuck_next n j (members j) k st in
    let P : List PendingEvent → Type 0 = λ y. IsUndone n.stop (above f.completed) y in
    let undone = subst P e k.undone in
    let first : first_place f.undone ≡ place x.tag = ap first_place e in
    let next = at_j.1 in
    let stop = finite_is_logical n.stop lawful.stop in
    let end = place_of_finite n.stop lawful.stop in
    let high = undone.2 in
    let in_time = at_most_from_places s.next n.stop k.next_tag stop (omega arith) in
    let paths : passes_paths n table (federate_records_of members) j s.next ≡ true =
    all_below_from n.reactors (λ i. is_before_arrival s.next (members i).federate_record.next (table i j))
    (λ i l. arrival_if s.next (members i).federate_record.next (table i j)
    (λ d q. arrives_later n table members i j d lawful least halted l m (omega arith) q
    (λ less. (let none = earlier i l less in let t : first_place (members i).federate.undone ≡ top = ap first_place none in omega arith)))) in
    let safe = either_of (passes_paths n table (federate_records_of members) j s.next) (passes_connections n (federate_records_of members) j s.next) (inl paths) in
    let granted = remaining s.announced (is_past s.granted s.next) (is_at_most s.next n.stop) (passes_paths n table (federate_records_of members) j s.next || passes_connections n (federate_records_of members) j s.next) at_j.0 in_time safe (halted.settled j m) in
    let far = not_past s.granted s.next k.granted_tag k.next_tag granted in
    let Q : List Signal → Type 0 = λ y. last_tag (above f.granted) y ≡ above s.granted in
    let last = subst Q st.down k.last in
    let reached = to_reached f.granted x.tag k.own_granted_tag undone.0 (omega arith) in
    let R : List PendingEvent → Type 0 = λ y. advance_to n j f (first_tag y) ≡ Nothing in
    let stays = if_nothing (is_reached f.granted x.tag) (turn_at n j f x.tag) (subst R e st.advance) in
    cc

none_below : (n : Network) (table : Table) (members : ℕ → Member) (bound : ℕ) → IsLawful n → IsLeastTable n table → IsHalted n table members → (j : ℕ) → j < n.reactors → first_place (members j).federate.undone * 64 + n.rank j < bound → (members j).federate.undone ≡ []
none_below n table members zero lawful least halted j m l = absurd (omega arith)
none_below n table members (suc bound) lawful least halted j m l =
    nothing_undone n table members j (members j).federate.undone lawful least halted m refl
    (λ i k less. none_below n table members bound lawful least halted i k (omega arith))

no_message : (xs : List Signal) → xs ≡ [] → list_any is_message xs ≡ false
no_message xs e = ap (list_any is_message) e

pub stuck_quiet : (n : Network) (table : Table) (rules : ℕ → Rule) → IsLawful n → IsLeastTable n table → ((k : ℕ) → IsSafeRule n table (rules k)) → ((k : ℕ) → IsFullRule n table (rules k)) → (moves : List Move) → ((j : ℕ) → j < n.reactors → IsStuck n j (after_moves n rules moves j)) → (j : ℕ) → j < n.reactors → IsQuiet (after_moves n rules moves j)
stuck_quiet n table rules lawful least safe full moves stuck j m =
    let facts = least_table_is_table n table lawful least in
    let sound = moves_sound n table rules moves lawful facts safe in
    let halted : IsHalted n table (after_moves n rules moves) = record { kept = sound.kept; settled = moves_settle n table rules moves lawful facts safe full; stuck = stuck } in
    record {
      undone = none_below n table (after_moves n rules moves) (suc (first_place (after_moves n rules moves j).federate.undone * 64 + n.rank j)) lawful least halted j m (omega arith);
      up = no_message (after_moves n rules moves j).up (stuck j m).up;
      down = no_message (after_moves n rules moves j).down (stuck j m).down;
    }
