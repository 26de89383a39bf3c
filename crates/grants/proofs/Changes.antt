-- What a change of one record leaves: who is eligible, and how many that are not so any more.
use Rattle.std.proofs.Common.{◌≡◌, ℕ, ◌+◌, ◌<◌, ◌≤◌, Bool, true, false, List, [], ◌∷◌, length, refl, sym, ap, ◌∙◌, arith, length-set, inl, inr, Option, None, Some}
use Rattle.std.specs.Prelude.{nat_eq, is_some, if◌then◌else◌, slice_get, slice_index_or, slice_set, MatchOption}
use Rattle.std.proofs.Math.Path.{fun_ext}
use Rattle.std.proofs.lemmas.Bool.{cases_eq, eq-eqb, ne_eqb, eqb-false, or_parts}
use Rattle.std.proofs.lemmas.List.{get_or-set_same, get_or-set_other}
use Rattle.tag.specs.LogicalTime.{LogicalTime}
use Rattle.network.specs.Connection.{Connection, IsPath, IsLeastDelay, IsUnreachable}
use Rattle.network.specs.Network.{with_one}
use Rattle.protocol_laws.proofs.Eligibility.{contains_at}
use Rattle.protocol_laws.proofs.ListedFederateRecords.{list_read}
use Rattle.protocol.specs.FederateRecord.{FederateRecord, initial_federate_record}
use Rattle.protocol.specs.FederateRecords.{federate_record_at, federate_records_listed}
use Rattle.grants.specs.Wiring.{Wiring, IsWiring, least_by, network_by}
use Rattle.grants.specs.Records.{is_eligible_by}
use Rattle.grants.specs.Looks.{count_below, has_path, reached_from, differ}
use Rattle.grants.specs.Routes.{connected_to, leads, listed_below, may_change, affected_by}
use Rattle.grants.proofs.Leading.{leads_by}
use Rattle.grants.specs.Invariant.{IsKept, flags_after}
use Rattle.grants.proofs.Numbered.{length_listed, count_weaker, count_one, count_either}
use Rattle.grants.proofs.Eligible.{eligible_same}
use Rattle.grants.proofs.Flags.{flags_stay_as_many, set_flag_is, other_flag_stays}

-- ---- one record is replaced

pub other_federate_record : (federate_records : List FederateRecord) (i j : ℕ) (mine : FederateRecord) → (j ≡ i → ⊥) → federate_record_at (slice_set federate_records i mine) j ≡ federate_record_at federate_records j
other_federate_record federate_records i j mine n = get_or-set_other federate_records i j mine initial_federate_record n

own_federate_record : (federate_records : List FederateRecord) (i : ℕ) (mine : FederateRecord) → i < length federate_records → federate_record_at (slice_set federate_records i mine) i ≡ mine
own_federate_record federate_records i mine l = get_or-set_same federate_records i mine initial_federate_record l

-- what the new one has as the old one had
field_stays : {A : Type 0} (f : FederateRecord → A) (federate_records : List FederateRecord) (i : ℕ) (mine : FederateRecord) → i < length federate_records → f mine ≡ f (federate_record_at federate_records i) →
    (k : ℕ) → f (federate_record_at (slice_set federate_records i mine) k) ≡ f (federate_record_at federate_records k)
field_stays f federate_records i mine l e k =
    elim (cases_eq k i) [
      | inl same ↦
          ap (λ x. f (federate_record_at (slice_set federate_records i mine) x)) same ∙ ap f (own_federate_record federate_records i mine l) ∙ e ∙ ap (λ x. f (federate_record_at federate_records x)) (sym same)
      | inr n ↦ ap f (other_federate_record federate_records i k mine n)
    ]

replaced_at : (federate_records : List FederateRecord) (i : ℕ) (mine : FederateRecord) → i < length federate_records → (j : ℕ) → federate_record_at (slice_set federate_records i mine) j ≡ with_one (federate_record_at federate_records) i mine j
replaced_at federate_records i mine l j =
    elim (cases_eq j i) [
      | inl same ↦
          ap (federate_record_at (slice_set federate_records i mine)) same ∙ own_federate_record federate_records i mine l
          ∙ ap (λ b. if b then mine else federate_record_at federate_records j) (sym (eq-eqb j i same))
      | inr n ↦ other_federate_record federate_records i j mine n ∙ ap (λ b. if b then mine else federate_record_at federate_records j) (sym (ne_eqb j i n))
    ]

pub is_replaced : (federate_records : List FederateRecord) (i : ℕ) (mine : FederateRecord) → i < length federate_records → federate_record_at (slice_set federate_records i mine) ≡ with_one (federate_record_at federate_records) i mine
is_replaced federate_records i mine l = fun_ext (replaced_at federate_records i mine l)

pub replaced_is_listed : (federate_records : List FederateRecord) (i : ℕ) (mine : FederateRecord) → i < length federate_records →
    federate_records_listed (length federate_records) (with_one (federate_record_at federate_records) i mine) ≡ slice_set federate_records i mine
replaced_is_listed federate_records i mine l =
    ap (federate_records_listed (length federate_records)) (sym (is_replaced federate_records i mine l))
    ∙ ap (λ n. federate_records_listed n (federate_record_at (slice_set federate_records i mine))) (sym (length-set federate_records i mine))
    ∙ list_read (slice_set federate_records i mine)

-- ---- who is not i and hears nothing from i

-- where a path leads, there is an entry
some_entry : (connections : List Connection) (i j : ℕ) (path : List Connection) (o : Option LogicalTime) →
    MatchOption o (IsUnreachable connections i j) (λ d. IsLeastDelay connections i j d) → IsPath connections i path j → is_some o ≡ true
some_entry connections i j path None m p = absurd (m path p)
some_entry connections i j path (Some d) m p = refl

connected : (w : Wiring) (j k : ℕ) (c : Connection) → IsWiring w → slice_get w.connections k ≡ Some c → c.target ≡ j → has_path w c.source j ≡ true
connected w j k c are e t = some_entry w.connections c.source j (c ∷ []) (least_by w c.source j) (are.least c.source j) (contains_at w.connections k c e, refl, t)

pub hears_not : (w : Wiring) (i j : ℕ) → may_change w i j ≡ false → (k : ℕ) → has_path w k j ≡ true → k ≡ i → ⊥
hears_not w i j away k path same =
    let none : has_path w i j ≡ false = (or_parts (nat_eq j i) (has_path w i j) away).1 in
    let some : has_path w i j ≡ true = ap (λ x. has_path w x j) (sym same) ∙ path in
    cc

is_not : (w : Wiring) (i j : ℕ) → may_change w i j ≡ false → j ≡ i → ⊥
is_not w i j away same =
    let none : nat_eq j i ≡ false = (or_parts (nat_eq j i) (has_path w i j) away).0 in
    let some : nat_eq j i ≡ true = eq-eqb j i same in
    cc

pub others_stay : (w : Wiring) (federate_records : List FederateRecord) (i j : ℕ) (mine : FederateRecord) → IsWiring w → may_change w i j ≡ false →
    is_eligible_by w (slice_set federate_records i mine) j ≡ is_eligible_by w federate_records j
others_stay w federate_records i j mine are away =
    let own = other_federate_record federate_records i j mine (is_not w i j away) in
    eligible_same (network_by w) (least_by w) j (federate_record_at federate_records) (federate_record_at (slice_set federate_records i mine)) are.wired are.least
    (record {
      announced = ap (λ (s : FederateRecord). s.announced) own;
      granted = ap (λ (s : FederateRecord). s.granted) own;
      next = ap (λ (s : FederateRecord). s.next) own;
      paths = λ k path. ap (λ (s : FederateRecord). s.next) (other_federate_record federate_records i k mine (hears_not w i j away k path));
      completed =
          λ k c e t. ap (λ (s : FederateRecord). s.completed) (other_federate_record federate_records i c.source mine (hears_not w i j away c.source (connected w j k c are e t)));
    })

-- ---- where next and completed stay

pub alone_changes : (w : Wiring) (federate_records : List FederateRecord) (i j : ℕ) (mine : FederateRecord) → IsWiring w → i < length federate_records →
    mine.next ≡ (federate_record_at federate_records i).next → mine.completed ≡ (federate_record_at federate_records i).completed → (j ≡ i → ⊥) →
    is_eligible_by w (slice_set federate_records i mine) j ≡ is_eligible_by w federate_records j
alone_changes w federate_records i j mine are l next completed n =
    let own = other_federate_record federate_records i j mine n in
    eligible_same (network_by w) (least_by w) j (federate_record_at federate_records) (federate_record_at (slice_set federate_records i mine)) are.wired are.least
    (record {
      announced = ap (λ (s : FederateRecord). s.announced) own;
      granted = ap (λ (s : FederateRecord). s.granted) own;
      next = ap (λ (s : FederateRecord). s.next) own;
      paths = λ k path. field_stays (λ (s : FederateRecord). s.next) federate_records i mine l next k;
      completed = λ k c e t. field_stays (λ (s : FederateRecord). s.completed) federate_records i mine l completed c.source;
    })

-- where what i completed alone changes, all stay to whom no connection leads from it
pub completed_stays : (w : Wiring) (federate_records : List FederateRecord) (i j : ℕ) (completed : Option LogicalTime) → IsWiring w → i < length federate_records → leads w.connections i j ≡ false →
    is_eligible_by w (slice_set federate_records i (record (federate_record_at federate_records i) { completed = completed })) j ≡ is_eligible_by w federate_records j
completed_stays w federate_records i j completed are l away =
    let mine : FederateRecord = record (federate_record_at federate_records i) { completed = completed } in
    eligible_same (network_by w) (least_by w) j (federate_record_at federate_records) (federate_record_at (slice_set federate_records i mine)) are.wired are.least
    (record {
      announced = field_stays (λ (s : FederateRecord). s.announced) federate_records i mine l refl j;
      granted = field_stays (λ (s : FederateRecord). s.granted) federate_records i mine l refl j;
      next = field_stays (λ (s : FederateRecord). s.next) federate_records i mine l refl j;
      paths = λ k path. field_stays (λ (s : FederateRecord). s.next) federate_records i mine l refl k;
      completed = λ k c e t. ap (λ (s : FederateRecord). s.completed) (other_federate_record federate_records i c.source mine
          (λ same. (let leading : leads w.connections i j ≡ true = leads_by w.connections i j k c e same t in let bad : ⊥ = cc in bad)));
    })

-- where the tags in transit alone change, all stay
pub none_changes : (w : Wiring) (federate_records : List FederateRecord) (i j : ℕ) (transit : List LogicalTime) → IsWiring w → i < length federate_records →
    is_eligible_by w (slice_set federate_records i (record (federate_record_at federate_records i) { transit = transit })) j ≡ is_eligible_by w federate_records j
none_changes w federate_records i j transit are l =
    let mine : FederateRecord = record (federate_record_at federate_records i) { transit = transit } in
    eligible_same (network_by w) (least_by w) j (federate_record_at federate_records) (federate_record_at (slice_set federate_records i mine)) are.wired are.least
    (record {
      announced = field_stays (λ (s : FederateRecord). s.announced) federate_records i mine l refl j;
      granted = field_stays (λ (s : FederateRecord). s.granted) federate_records i mine l refl j;
      next = field_stays (λ (s : FederateRecord). s.next) federate_records i mine l refl j;
      paths = λ k path. field_stays (λ (s : FederateRecord). s.next) federate_records i mine l refl k;
      completed = λ k c e t. field_stays (λ (s : FederateRecord). s.completed) federate_records i mine l refl c.source;
    })

-- ---- the flags

flag_by : (w : Wiring) (federate_records : List FederateRecord) (flags : List Bool) (i j : ℕ) (mine : FederateRecord) (test : ℕ → Bool) → IsKept w federate_records flags → j < w.federates →
    (test j ≡ false → is_eligible_by w (slice_set federate_records i mine) j ≡ is_eligible_by w federate_records j) → (b : Bool) → test j ≡ b →
    slice_index_or (flags_after (is_eligible_by w (slice_set federate_records i mine)) (listed_below w.federates test) flags) j false ≡ is_eligible_by w (slice_set federate_records i mine) j
flag_by w federate_records flags i j mine test kept l stays true e =
    let many = kept.flag_count in
    set_flag_is w.federates test (is_eligible_by w (slice_set federate_records i mine)) flags j l (omega arith) e
flag_by w federate_records flags i j mine test kept l stays false e =
    other_flag_stays w.federates test (is_eligible_by w (slice_set federate_records i mine)) flags j e
    ∙ kept.each j l ∙ sym (stays e)

-- after a look at each that passes a test, where those that don't pass it stay
pub kept_by_looks : (w : Wiring) (federate_records : List FederateRecord) (flags : List Bool) (i : ℕ) (mine : FederateRecord) (test : ℕ → Bool) → IsKept w federate_records flags →
    ((j : ℕ) → test j ≡ false → is_eligible_by w (slice_set federate_records i mine) j ≡ is_eligible_by w federate_records j) →
    IsKept w (slice_set federate_records i mine) (flags_after (is_eligible_by w (slice_set federate_records i mine)) (listed_below w.federates test) flags)
kept_by_looks w federate_records flags i mine test kept stay = record {
  federate_record_count = length-set federate_records i mine ∙ kept.federate_record_count;
  flag_count = flags_stay_as_many (is_eligible_by w (slice_set federate_records i mine)) (listed_below w.federates test) flags ∙ kept.flag_count;
  each = λ j l. flag_by w federate_records flags i j mine test kept l (stay j) (test j) refl;
}

pub kept_by_one_look : (w : Wiring) (federate_records : List FederateRecord) (flags : List Bool) (i : ℕ) (mine : FederateRecord) → IsWiring w → IsKept w federate_records flags → i < w.federates →
    mine.next ≡ (federate_record_at federate_records i).next → mine.completed ≡ (federate_record_at federate_records i).completed →
    IsKept w (slice_set federate_records i mine) (slice_set flags i (is_eligible_by w (slice_set federate_records i mine) i))
kept_by_one_look w federate_records flags i mine are kept l next completed =
    let value = is_eligible_by w (slice_set federate_records i mine) in
    let flag_count = kept.flag_count in
    let federate_record_count = kept.federate_record_count in
    record {
      federate_record_count = length-set federate_records i mine ∙ kept.federate_record_count;
      flag_count = length-set flags i (value i) ∙ kept.flag_count;
      each = λ j m. elim (cases_eq j i) [
        | inl same ↦
            ap (λ x. slice_index_or (slice_set flags i (value i)) x false) same ∙ get_or-set_same flags i (value i) false (omega arith) ∙ ap value (sym same)
        | inr n ↦
            get_or-set_other flags i j (value i) false n ∙ kept.each j m ∙ sym (alone_changes w federate_records i j mine are (omega arith) next completed n)
      ];
    }

pub kept_with_transit : (w : Wiring) (federate_records : List FederateRecord) (flags : List Bool) (i : ℕ) (transit : List LogicalTime) → IsWiring w → IsKept w federate_records flags → i < w.federates →
    IsKept w (slice_set federate_records i (record (federate_record_at federate_records i) { transit = transit })) flags
kept_with_transit w federate_records flags i transit are kept l =
    let federate_record_count = kept.federate_record_count in
    record {
      federate_record_count = length-set federate_records i (record (federate_record_at federate_records i) { transit = transit }) ∙ kept.federate_record_count;
      flag_count = kept.flag_count;
      each = λ j m. kept.each j m ∙ sym (none_changes w federate_records i j transit are (omega arith));
    }

-- ---- how many change

differ_not : (a b : Bool) → b ≡ a → differ a b ≡ false
differ_not true true e = refl
differ_not true false e = cc
differ_not false true e = cc
differ_not false false e = refl

passes : (a b t : Bool) → (t ≡ false → b ≡ a) → differ a b ≡ true → t ≡ true
passes a b true h d = refl
passes a b false h d = let none = differ_not a b (h refl) in cc

-- no more change than pass a test, where those that don't pass it stay
changed_few : (count : ℕ) (before after test : ℕ → Bool) → ((j : ℕ) → test j ≡ false → after j ≡ before j) →
    count_below count (λ j. differ (before j) (after j)) ≤ count_below count test
changed_few count before after test stay = count_weaker count (λ j. differ (before j) (after j)) test (λ j d. passes (before j) (after j) (test j) (stay j) d)

pub changed_by_looks : (w : Wiring) (federate_records : List FederateRecord) (i : ℕ) (mine : FederateRecord) (test : ℕ → Bool) →
    ((j : ℕ) → test j ≡ false → is_eligible_by w (slice_set federate_records i mine) j ≡ is_eligible_by w federate_records j) →
    count_below w.federates (λ j. differ (is_eligible_by w federate_records j) (is_eligible_by w (slice_set federate_records i mine) j)) ≤ length (listed_below w.federates test)
changed_by_looks w federate_records i mine test stay =
    let listed = length_listed w.federates test in
    let few = changed_few w.federates (is_eligible_by w federate_records) (is_eligible_by w (slice_set federate_records i mine)) test stay in
    omega arith

pub changed_by_one_look : (w : Wiring) (federate_records : List FederateRecord) (i : ℕ) (mine : FederateRecord) → IsWiring w → i < length federate_records →
    mine.next ≡ (federate_record_at federate_records i).next → mine.completed ≡ (federate_record_at federate_records i).completed →
    count_below w.federates (λ j. differ (is_eligible_by w federate_records j) (is_eligible_by w (slice_set federate_records i mine) j)) ≤ 1
changed_by_one_look w federate_records i mine are l next completed =
    let one = count_one w.federates i in
    let few = changed_few w.federates (is_eligible_by w federate_records) (is_eligible_by w (slice_set federate_records i mine)) (λ j. nat_eq j i)
    (λ j away. alone_changes w federate_records i j mine are l next completed (eqb-false j i away)) in
    omega arith

pub few_affected : (w : Wiring) (i : ℕ) → length (affected_by w i) ≤ 1 + reached_from w i
few_affected w i =
    let listed = length_listed w.federates (may_change w i) in
    let either = count_either w.federates (λ j. nat_eq j i) (has_path w i) in
    let one = count_one w.federates i in
    omega arith

-- ---- paths

path_of_entry : (connections : List Connection) (i j : ℕ) (o : Option LogicalTime) → MatchOption o (IsUnreachable connections i j) (λ d. IsLeastDelay connections i j d) →
    is_some o ≡ true → (path : List Connection) × IsPath connections i path j
path_of_entry connections i j None m e = cc
path_of_entry connections i j (Some d) m e = (m.attained.0, m.attained.1)

pub counted_paths : (w : Wiring) (i j : ℕ) → IsWiring w → (has_path w i j ≡ true → (path : List Connection) × IsPath w.connections i path j) ×
    ((path : List Connection) × IsPath w.connections i path j → has_path w i j ≡ true)
counted_paths w i j are =
    (path_of_entry w.connections i j (least_by w i j) (are.least i j), (λ p. some_entry w.connections i j p.0 (least_by w i j) (are.least i j) p.1))
