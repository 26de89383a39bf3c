-- A table after each call, by what it keeps.
use Rattle.std.proofs.Common.{◌≡◌, ℕ, zero, suc, ◌+◌, ◌<◌, ◌≤◌, Bool, true, false, IsTrue, List, [], ◌∷◌, inl, inr, refl, length, get_or, replicate, sym, ap, subst, ◌∙◌, arith, Option}
use Rattle.std.specs.Prelude.{◌&&◌, All, slice_index_or, slice_set}
use Rattle.std.proofs.lemmas.Bool.{cases_lt}
use Rattle.std.proofs.lemmas.List.{get_or_read, get_or-replicate, length-replicate}
use Rattle.tag.specs.LogicalTime.{LogicalTime, is_at_most, is_before, lesser, origin, predecessor_of, is_past}
use Rattle.protocol.specs.FederateRecord.{FederateRecord, initial_federate_record}
use Rattle.protocol.specs.FederateRecords.{federate_record_at, federate_records_listed}
use Rattle.protocol.specs.Grant.{IsEligible, bound_of}
use Rattle.protocol.specs.Bound.{IsWidest}
use Rattle.protocol_laws.proofs.Eligibility.{eligible_by_table}
use Rattle.protocol_laws.proofs.FirstArrivals.{table_bound}
use Rattle.protocol_laws.proofs.ListedFederateRecords.{read_listed, listed_length}
use Rattle.grants.specs.Wiring.{Wiring, IsWiring, least_by, network_by}
use Rattle.grants.specs.Records.{Records, is_eligible_by, is_eligible_in}
use Rattle.grants.specs.Looks.{counted, changed_between, reached_from}
use Rattle.grants.specs.Routes.{connected_to, leads, listed_below, affected_by, may_change}
use Rattle.grants.specs.Invariant.{IsKept, flags_after}
use Rattle.grants.proofs.Numbered.{listed_are_below}
use Rattle.grants.proofs.Eligible.{by_bound, silent_is_not_eligible, bound_after_origin}
use Rattle.grants.proofs.Changes.{completed_stays, others_stay, kept_by_looks, kept_by_one_look, kept_with_transit}
use Rattle.grants.proofs.Changes.{changed_by_looks, changed_by_one_look, few_affected}

-- these are what the table is seen as
abbrev pub records : Wiring → List FederateRecord → ℕ → Records
records w federate_records looks = record { wiring = w; federate_records = federate_records; looks = looks }

pub federate_record_is : (federate_records : List FederateRecord) (i : ℕ) (s : FederateRecord) → i < length federate_records → s ≡ get_or federate_records i s → s ≡ federate_record_at federate_records i
federate_record_is federate_records i s l e = get_or_read federate_records i s l e initial_federate_record

-- ---- before any signal came

pub kept_at_first : (w : Wiring) (federate_records : List FederateRecord) (flags : List Bool) → federate_records ≡ federate_records_listed w.federates (λ j. initial_federate_record) →
    flags ≡ replicate w.federates false → IsKept w federate_records flags
kept_at_first w federate_records flags s f = record {
  federate_record_count = ap length s ∙ listed_length w.federates (λ j. initial_federate_record);
  flag_count = ap length f ∙ length-replicate w.federates false;
  each = λ j l. (
      let silent : (federate_record_at federate_records j).announced ≡ false =
      ap (λ ss. (federate_record_at ss j).announced) s ∙ ap (λ (x : FederateRecord). x.announced) (read_listed w.federates (λ i. initial_federate_record) j l) in
      ap (λ fs. slice_index_or fs j false) f ∙ get_or-replicate w.federates j false false l
      ∙ sym (silent_is_not_eligible (network_by w) (least_by w) (federate_record_at federate_records) j silent));
}

-- ---- what is asked

pub eligible_by_flag : (w : Wiring) (federate_records : List FederateRecord) (looks j : ℕ) (flag : Bool) (r : Records) → records w federate_records looks ≡ r → IsWiring w →
    flag ≡ is_eligible_by w federate_records j → (IsTrue flag → IsEligible (network_by r.wiring) (federate_record_at r.federate_records) j) × (IsEligible (network_by r.wiring) (federate_record_at r.federate_records) j → IsTrue flag)
eligible_by_flag w federate_records looks j flag r is are e =
    let table = eligible_by_table (network_by w) (least_by w) (federate_record_at federate_records) j are.wired are.least in
    subst (λ x. (IsTrue flag → IsEligible (network_by x.wiring) (federate_record_at x.federate_records) j) × (IsEligible (network_by x.wiring) (federate_record_at x.federate_records) j → IsTrue flag)) is
    ((λ h. table.1 (sym e ∙ h)), (λ h. e ∙ table.0 h))

-- a federate that isn't there has no flag
flags_beyond : (flags : List Bool) (j : ℕ) → length flags ≤ j → slice_index_or flags j false ≡ false
flags_beyond [] j l = refl
flags_beyond (x ∷ rest) zero l = absurd (omega arith)
flags_beyond (x ∷ rest) (suc j) l = flags_beyond rest j (omega arith)

-- nobody is eligible where no flag is set, and so the other way round
pub none_eligible : (w : Wiring) (federate_records : List FederateRecord) (flags : List Bool) (looks : ℕ) (somebody : Bool) (r : Records) → records w federate_records looks ≡ r → IsKept w federate_records flags →
    (somebody ≡ false → (j : ℕ) → slice_index_or flags j false ≡ false) × (((j : ℕ) → slice_index_or flags j false ≡ false) → somebody ≡ false) →
    (somebody ≡ false → (j : ℕ) → j < r.wiring.federates → is_eligible_in r j ≡ false) × (((j : ℕ) → j < r.wiring.federates → is_eligible_in r j ≡ false) → somebody ≡ false)
none_eligible w federate_records flags looks somebody r is kept none =
    subst (λ (x : Records). (somebody ≡ false → (j : ℕ) → j < x.wiring.federates → is_eligible_in x j ≡ false) × (((j : ℕ) → j < x.wiring.federates → is_eligible_in x j ≡ false) → somebody ≡ false)) is
    ((λ so j l. sym (kept.each j l) ∙ none.0 so j), (λ h. none.1 (all_false h)))
  where
    all_false : ((j : ℕ) → j < w.federates → is_eligible_by w federate_records j ≡ false) → (j : ℕ) → slice_index_or flags j false ≡ false
    all_false h j = elim (cases_lt j w.federates) [
      | inl l ↦ kept.each j l ∙ h j l
      | inr l ↦ flags_beyond flags j (let many = kept.flag_count in omega arith)
    ]

pub bound_is_late : (w : Wiring) (federate_records : List FederateRecord) (looks j : ℕ) (r : Records) → records w federate_records looks ≡ r → IsWiring w → is_eligible_in r j ≡ true →
    is_before origin (bound_of (network_by w) (least_by w) (federate_record_at federate_records) j) ≡ true
bound_is_late w federate_records looks j r is are e =
    bound_after_origin (network_by w) (least_by w) (federate_record_at federate_records) j are.wired are.least (ap (λ x. is_eligible_in x j) is ∙ e)

pub widest : (w : Wiring) (federate_records : List FederateRecord) (looks j : ℕ) (r : Records) (bound tag : LogicalTime) → records w federate_records looks ≡ r → IsWiring w →
    bound ≡ bound_of (network_by w) (least_by w) (federate_record_at federate_records) j → tag ≡ lesser (predecessor_of bound) w.stop →
    IsWidest (network_by r.wiring) (federate_record_at r.federate_records) j tag
widest w federate_records looks j r bound tag is are b t =
    subst (λ x. IsWidest (network_by x.wiring) (federate_record_at x.federate_records) j tag) is
    (record {
      bound = bound_of (network_by w) (least_by w) (federate_record_at federate_records) j;
      is_bound = table_bound (network_by w) (least_by w) (federate_record_at federate_records) j are.wired are.least;
      last = t ∙ ap (λ x. lesser (predecessor_of x) w.stop) b;
    })

-- whether the federate waits, then whether its next tag is before the bound
within_is : (w : Wiring) (federate_records : List FederateRecord) (j : ℕ) (s : FederateRecord) (stop : LogicalTime) → IsWiring w → s ≡ federate_record_at federate_records j → stop ≡ w.stop →
    is_eligible_by w federate_records j ≡
    (s.announced && is_past s.granted s.next && is_at_most s.next stop && is_before s.next (bound_of (network_by w) (least_by w) (federate_record_at federate_records) j))
within_is w federate_records j s stop are e t =
    let bound = bound_of (network_by w) (least_by w) (federate_record_at federate_records) j in
    by_bound (network_by w) (least_by w) (federate_record_at federate_records) j are.wired are.least
    ∙ ap (λ (x : FederateRecord). x.announced && is_past x.granted x.next && is_at_most x.next w.stop && is_before x.next bound) (sym e)
    ∙ ap (λ x. s.announced && is_past s.granted s.next && is_at_most s.next x && is_before s.next bound) (sym t)

pub waits : (w : Wiring) (federate_records : List FederateRecord) (j : ℕ) (s : FederateRecord) (stop bound : LogicalTime) (waiting before : Bool) → IsWiring w → s ≡ federate_record_at federate_records j →
    stop ≡ w.stop → waiting ≡ (s.announced && is_past s.granted s.next && is_at_most s.next stop) → waiting ≡ true →
    bound ≡ bound_of (network_by w) (least_by w) (federate_record_at federate_records) j → before ≡ is_before s.next bound → before ≡ is_eligible_by w federate_records j
waits w federate_records j s stop bound waiting before are e t wait waits_on b f =
    f ∙ ap (is_before s.next) b
    ∙ ap (λ x. x && is_before s.next (bound_of (network_by w) (least_by w) (federate_record_at federate_records) j)) (sym waits_on ∙ wait)
    ∙ sym (within_is w federate_records j s stop are e t)

pub waits_not : (w : Wiring) (federate_records : List FederateRecord) (j : ℕ) (s : FederateRecord) (stop : LogicalTime) (waiting : Bool) → IsWiring w → s ≡ federate_record_at federate_records j →
    stop ≡ w.stop → waiting ≡ (s.announced && is_past s.granted s.next && is_at_most s.next stop) → waiting ≡ false → waiting ≡ is_eligible_by w federate_records j
waits_not w federate_records j s stop waiting are e t wait never =
    never
    ∙ ap (λ x. x && is_before s.next (bound_of (network_by w) (least_by w) (federate_record_at federate_records) j)) (sym never ∙ wait)
    ∙ sym (within_is w federate_records j s stop are e t)

-- ---- changes after which each federate is looked at that may have changed

pub all_there : (w : Wiring) (test : ℕ → Bool) (federates : List ℕ) → federates ≡ listed_below w.federates test → All (λ j. j < w.federates) federates
all_there w test federates e = subst (λ fs. All (λ j. j < w.federates) fs) (sym e) (listed_are_below w.federates test)

kept_after_listed : (w : Wiring) (federate_records after : List FederateRecord) (flags flags_now : List Bool) (i : ℕ) (federates : List ℕ) (mine : FederateRecord) (test : ℕ → Bool) →
    IsKept w federate_records flags → ((j : ℕ) → test j ≡ false → is_eligible_by w (slice_set federate_records i mine) j ≡ is_eligible_by w federate_records j) →
    after ≡ slice_set federate_records i mine → federates ≡ listed_below w.federates test → flags_now ≡ flags_after (is_eligible_by w after) federates flags →
    IsKept w (slice_set federate_records i mine) flags_now
kept_after_listed w federate_records after flags flags_now i federates mine test kept stay s f e =
    subst (IsKept w (slice_set federate_records i mine))
    (sym (e ∙ ap (λ ss. flags_after (is_eligible_by w ss) federates flags) s ∙ ap (λ fs. flags_after (is_eligible_by w (slice_set federate_records i mine)) fs flags) f))
    (kept_by_looks w federate_records flags i mine test kept stay)

pub kept_after_looks : (w : Wiring) (federate_records after : List FederateRecord) (flags flags_now : List Bool) (i : ℕ) (federates : List ℕ) (mine : FederateRecord) → IsWiring w →
    IsKept w federate_records flags → after ≡ slice_set federate_records i mine → federates ≡ affected_by w i → flags_now ≡ flags_after (is_eligible_by w after) federates flags →
    IsKept w (slice_set federate_records i mine) flags_now
kept_after_looks w federate_records after flags flags_now i federates mine are kept s f e =
    kept_after_listed w federate_records after flags flags_now i federates mine (may_change w i) kept (λ j away. others_stay w federate_records i j mine are away) s f e

pub few_looks : (w : Wiring) (federate_records : List FederateRecord) (looks now i : ℕ) (federates : List ℕ) (r : Records) → records w federate_records looks ≡ r →
    length federates ≤ 1 + reached_from w i → now ≡ counted looks (length federates) → now ≤ r.looks + 1 + reached_from r.wiring i
few_looks w federate_records looks now i federates r is few e =
    subst (λ (x : Records). now ≤ x.looks + 1 + reached_from x.wiring i) is (omega arith)

pub affected_are_few : (w : Wiring) (i : ℕ) (federates : List ℕ) → federates ≡ affected_by w i → length federates ≤ 1 + reached_from w i
affected_are_few w i federates f = let few = few_affected w i in let many = ap length f in omega arith

-- only those are looked at to which a connection leads
pub connected_looks : (w : Wiring) (federate_records : List FederateRecord) (looks now i : ℕ) (federates : List ℕ) (r : Records) → records w federate_records looks ≡ r →
    federates ≡ connected_to w i → now ≡ counted looks (length federates) → now ≤ r.looks + length (connected_to r.wiring i)
connected_looks w federate_records looks now i federates r is f e =
    let many = ap length f in
    subst (λ (x : Records). now ≤ x.looks + length (connected_to x.wiring i)) is (omega arith)

counts_listed : (w : Wiring) (federate_records : List FederateRecord) (looks now i : ℕ) (federates : List ℕ) (mine : FederateRecord) (r : Records) (test : ℕ → Bool) → records w federate_records looks ≡ r →
    ((j : ℕ) → test j ≡ false → is_eligible_by w (slice_set federate_records i mine) j ≡ is_eligible_by w federate_records j) → federates ≡ listed_below w.federates test →
    now ≡ counted looks (length federates) → counted r.looks (changed_between r (records w (slice_set federate_records i mine) now)) ≤ now
counts_listed w federate_records looks now i federates mine r test is stay f e =
    let few = changed_by_looks w federate_records i mine test stay in
    let many = ap length f in
    subst (λ (x : Records). counted x.looks (changed_between x (records w (slice_set federate_records i mine) now)) ≤ now) is (omega arith)

pub counts_looks : (w : Wiring) (federate_records : List FederateRecord) (looks now i : ℕ) (federates : List ℕ) (mine : FederateRecord) (r : Records) → records w federate_records looks ≡ r →
    IsWiring w → federates ≡ affected_by w i → now ≡ counted looks (length federates) →
    counted r.looks (changed_between r (records w (slice_set federate_records i mine) now)) ≤ now
counts_looks w federate_records looks now i federates mine r is are f e =
    counts_listed w federate_records looks now i federates mine r (may_change w i) is (λ j away. others_stay w federate_records i j mine are away) f e

-- after a change of what federate i completed alone
pub after_completed : (w : Wiring) (federate_records after : List FederateRecord) (flags flags_now : List Bool) (looks now i : ℕ) (federates : List ℕ) (old mine : FederateRecord)
    (completed : Option LogicalTime) (r : Records) → records w federate_records looks ≡ r → IsWiring w → IsKept w federate_records flags → i < r.wiring.federates → old ≡ get_or federate_records i old →
    mine ≡ record old { completed = completed } → after ≡ slice_set federate_records i mine → federates ≡ connected_to w i → flags_now ≡ flags_after (is_eligible_by w after) federates flags →
    now ≡ counted looks (length federates) →
    IsKept w (slice_set federate_records i mine) flags_now × (counted r.looks (changed_between r (records w (slice_set federate_records i mine) now)) ≤ now)
after_completed w federate_records after flags flags_now looks now i federates old mine completed r is are kept l here m s f e n =
    let count = ap (λ (x : Records). x.wiring.federates) is in
    let there : i < w.federates = omega (arith, count, l) in
    let within : i < length federate_records = omega (arith, there, kept.federate_record_count) in
    let own = federate_record_is federate_records i old within here in
    let alike : mine ≡ record (federate_record_at federate_records i) { completed = completed } = m ∙ ap (λ (x : FederateRecord). record x { completed = completed }) own in
    let stay : (j : ℕ) → leads w.connections i j ≡ false → is_eligible_by w (slice_set federate_records i mine) j ≡ is_eligible_by w federate_records j =
    λ j away. ap (λ x. is_eligible_by w (slice_set federate_records i x) j) alike ∙ completed_stays w federate_records i j completed are within away in (
      kept_after_listed w federate_records after flags flags_now i federates mine (leads w.connections i) kept stay s f e,
      counts_listed w federate_records looks now i federates mine r (leads w.connections i) is stay f n,
    )

-- ---- changes after which the federate alone is looked at

kept_after_one_look : (w : Wiring) (federate_records after : List FederateRecord) (flags flags_now : List Bool) (i : ℕ) (mine : FederateRecord) → IsWiring w → IsKept w federate_records flags →
    i < w.federates → after ≡ slice_set federate_records i mine → mine.next ≡ (federate_record_at federate_records i).next → mine.completed ≡ (federate_record_at federate_records i).completed →
    flags_now ≡ slice_set flags i (is_eligible_by w after i) → IsKept w (slice_set federate_records i mine) flags_now
kept_after_one_look w federate_records after flags flags_now i mine are kept l s next completed e =
    subst (IsKept w (slice_set federate_records i mine)) (sym (e ∙ ap (λ ss. slice_set flags i (is_eligible_by w ss i)) s))
    (kept_by_one_look w federate_records flags i mine are kept l next completed)

counts_one_look : (w : Wiring) (federate_records : List FederateRecord) (looks now i : ℕ) (mine : FederateRecord) (r : Records) → records w federate_records looks ≡ r → IsWiring w →
    i < length federate_records → mine.next ≡ (federate_record_at federate_records i).next → mine.completed ≡ (federate_record_at federate_records i).completed → now ≡ counted looks 1 →
    counted r.looks (changed_between r (records w (slice_set federate_records i mine) now)) ≤ now
counts_one_look w federate_records looks now i mine r is are l next completed e =
    let few = changed_by_one_look w federate_records i mine are l next completed in
    subst (λ (x : Records). counted x.looks (changed_between x (records w (slice_set federate_records i mine) now)) ≤ now) is (omega arith)

pub after_one_look : (w : Wiring) (federate_records after : List FederateRecord) (flags flags_now : List Bool) (looks now i : ℕ) (old mine : FederateRecord) (r : Records) →
    records w federate_records looks ≡ r → IsWiring w → IsKept w federate_records flags → i < r.wiring.federates → old ≡ get_or federate_records i old → mine.next ≡ old.next →
    mine.completed ≡ old.completed → after ≡ slice_set federate_records i mine → flags_now ≡ slice_set flags i (is_eligible_by w after i) → now ≡ counted looks 1 →
    IsKept w (slice_set federate_records i mine) flags_now × (counted r.looks (changed_between r (records w (slice_set federate_records i mine) now)) ≤ now)
after_one_look w federate_records after flags flags_now looks now i old mine r is are kept l here next completed s e n =
    let count = ap (λ (x : Records). x.wiring.federates) is in
    let there : i < w.federates = omega (arith, count, l) in
    let within : i < length federate_records = omega (arith, there, kept.federate_record_count) in
    let own = federate_record_is federate_records i old within here in
    let own_next = next ∙ ap (λ (x : FederateRecord). x.next) own in
    let own_completed = completed ∙ ap (λ (x : FederateRecord). x.completed) own in (
      kept_after_one_look w federate_records after flags flags_now i mine are kept there s own_next own_completed e,
      counts_one_look w federate_records looks now i mine r is are within own_next own_completed n,
    )

-- ---- changes that nobody's eligibility rests on

pub after_transit : (w : Wiring) (federate_records : List FederateRecord) (flags : List Bool) (looks i : ℕ) (old mine : FederateRecord) (tags : List LogicalTime) (r : Records) →
    records w federate_records looks ≡ r → IsWiring w → IsKept w federate_records flags → i < r.wiring.federates → old ≡ get_or federate_records i old →
    mine ≡ record old { transit = tags } → IsKept w (slice_set federate_records i mine) flags
after_transit w federate_records flags looks i old mine tags r is are kept l here e =
    let count = ap (λ (x : Records). x.wiring.federates) is in
    let there : i < w.federates = omega (arith, count, l) in
    let own = federate_record_is federate_records i old (omega (arith, there, kept.federate_record_count)) here in
    let alike : mine ≡ record (federate_record_at federate_records i) { transit = tags } = e ∙ ap (λ (x : FederateRecord). record x { transit = tags }) own in
    subst (λ x. IsKept w (slice_set federate_records i x) flags) (sym alike) (kept_with_transit w federate_records flags i tags are kept there)
