-- What the parts of reading answer: blocks, items, and several of them.
use Rattle.std.proofs.Common.{◌≡◌, ℕ, ◌+◌, ◌-◌, ◌<◌, ◌≤◌, Bool, true, false, ◌||◌, not, ◌&&◌, eqb, ltb, List, [], ◌∷◌, ◌++◌, length, take, drop, Ok, Err, refl, sym, ap, ap₂, subst, ◌∙◌, append_assoc, append-nil, arith, inl, inr}
use Rattle.std.specs.Prelude.{◌≢◌, Result, IfOk, IfErr}
use Rattle.std.specs.List.{AllByRecursion}
use Rattle.std.specs.Prelude.{if◌then◌else◌}
use Rattle.std.proofs.lemmas.Bool.{cases_Bool, cases_lt, lt-ltb, le-ltb, ne_eqb, false≢true, and_left, and_right}
use Rattle.std.proofs.Math.Bool.{or_comm}
use Rattle.std.proofs.lemmas.List.{length-append, length-drop, drop-drop, take_at, drop_at}
use Rattle.byteorder.specs.Endian.{big_bytes, big_number}
use Rattle.sha2.specs.Sha256.{sha256}
use Rattle.node.specs.declared.event.Event.{Event}
use Rattle.files_reports.specs.Reading.{IsTaken, event_of_kind, event_part}
use Rattle.files_reports.proofs.Loops.{each_and_one}
use Rattle.files_logs.specs.declared.blocks.BlocksEnd.{BlocksEnd}
use Rattle.files_logs.specs.declared.front.Stop.{Stop}
use Rattle.files_logs.specs.declared.front.Stop.TheVariants as stops
use Rattle.files_logs.specs.declared.item.Item.{Item}
use Rattle.files_logs.specs.declared.item.Item.TheVariants.{Came, Told}
use Rattle.files_logs.specs.declared.log_head.LogHead.{LogHead}
use Rattle.files_logs.specs.declared.log.Log.{Log}
use Rattle.files_logs.specs.declared.log_fault.LogFault.{LogFault}
use Rattle.files_logs.specs.declared.log_fault.LogFault.TheVariants as faults
use Rattle.files_logs.specs.Sums.{sum_of, size_check, block_sum}
use Rattle.files_logs.specs.Items.{item_bytes, items_bytes, IsItem, events_of, is_told_in, item_part}
use Rattle.files_logs.specs.Blocks.{size_bytes, block_bytes, IsSayable, IsBlock, blocks_bytes, sum_behind, events_in, is_told_by}
use Rattle.files_logs.specs.Log.{head_bytes, head_sum, summed_head, log_bytes, ended_bytes, last_sum, IsLog, log_of}
use Rattle.files_logs.specs.Front.{Front, whole, torn, ending, damaged, is_size, begins_block, has_block, front_behind, end_behind, front_of}
use Rattle.files_logs.specs.Reading.{IsBegun, IsRead, unended, ended, BeginsHead, IsContentFault, IsFaultBehind}
use Rattle.files_logs.specs.Parts.{IsStop, IsStopBehind, IsEventFault, IsItemFault, IsSayingFault, IsAdded, AreRead, IsBlocksFault, IsEnd, IsEnding, IsNoEnding}
use Rattle.files_logs.proofs.Sizes.{sized_length, size_length, is_right, block_length, block_apart}
use Rattle.files_logs.proofs.Saying.{as_item, some_bytes}
use Rattle.files_logs.proofs.Fronts.{spelled_size, spelled_end, end_long, end_short, front_wrong, front_damaged, front_spoilt, block_good, block_last, block_bad}
use Rattle.files_logs.proofs.Beginnings.{some_begins}
use Rattle.files_logs.proofs.Headed.{head_length, summed_length}
use Rattle.files_logs.proofs.OneLog.{begins_head}
use Rattle.files_logs.proofs.Whole.{more_bytes, more_sum, appended_events, appended_told, all_appended}

-- ---- what follows in each case

pub if_ok : {X E : Type 0} (answer : Result X E) (P Q : X → Type 0) → ((x : X) → P x → Q x) → IfOk answer P → IfOk answer Q
if_ok (Ok x) P Q f h = f x h
if_ok (Err fault) P Q f h = tt

pub if_err : {X E : Type 0} (answer : Result X E) (P Q : E → Type 0) → ((fault : E) → P fault → Q fault) → IfErr answer P → IfErr answer Q
if_err (Ok x) P Q f h = tt
if_err (Err fault) P Q f h = f fault h

-- ---- a size

-- with its check
pub sized : (before size check : ℕ) (bytes between behind : List ℕ) → bytes ≡ big_bytes 4 size ++ between → between ≡ big_bytes 4 check ++ behind → check ≡ size_check before size
    → bytes ≡ size_bytes before size ++ behind
sized before size check bytes between behind e f same =
    e ∙ ap (λ (b : List ℕ). big_bytes 4 size ++ b) (f ∙ ap (λ (n : ℕ). big_bytes 4 n ++ behind) same) ∙ sym (append_assoc (big_bytes 4 size) (big_bytes 4 (size_check before size)) behind)

-- too large, or with another check
pub no_size : (before size check : ℕ) (bytes between : List ℕ) → size ≡ big_number 4 bytes → between ≡ drop 4 bytes → check ≡ big_number 4 between
    → ((size ≤ 16_777_216) × (check ≡ size_check before size) → ⊥) → is_size before bytes ≡ false
unfolding is_size
no_size before size check bytes between e d f h = elim (cases_lt 16_777_216 size) [
  | inl large ↦
      let past : ltb 16_777_216 (big_number 4 bytes) ≡ true = lt-ltb _ _ (omega (arith, e, large)) in
      and_left _ _ (ap not past)
  | inr few ↦
      let apart : big_number 4 (drop 4 bytes) ≢ size_check before (big_number 4 bytes) =
      λ same. h (few, f ∙ ap (λ (b : List ℕ). big_number 4 b) d ∙ same ∙ ap (λ (n : ℕ). size_check before n) (sym e)) in
      and_right _ _ (ne_eqb _ _ apart)
]

-- whether it is one: what is answered of its parts
is_sized : (answer : Bool) (before size check : ℕ) (bytes between rest : List ℕ) → size ≡ big_number 4 bytes → between ≡ drop 4 bytes → check ≡ big_number 4 between
    → bytes ≡ big_bytes 4 size ++ between → between ≡ big_bytes 4 check ++ rest → (answer ≡ true → (size ≤ 16_777_216) × (check ≡ size_check before size))
    → ((size ≤ 16_777_216) × (check ≡ size_check before size) → answer ≡ true) → answer ≡ is_size before bytes
is_sized true before size check bytes between rest e d f p q forth back =
    let right = forth refl in
    sym (ap (λ (b : List ℕ). is_size before b) (sized before size check bytes between rest p q right.1) ∙ is_right before size rest right.0)
is_sized false before size check bytes between rest e d f p q forth back = sym (no_size before size check bytes between e d f (λ both. false≢true (back both)))

-- the same behind a sum
pub begins_at : (answer : Bool) (sum size check : ℕ) (bytes behind between rest : List ℕ) → 16 ≤ length bytes → sum ≡ big_number 8 bytes → behind ≡ drop 8 bytes → size ≡ big_number 4 behind
    → between ≡ drop 4 behind → check ≡ big_number 4 between → behind ≡ big_bytes 4 size ++ between → between ≡ big_bytes 4 check ++ rest
    → (answer ≡ true → (size ≤ 16_777_216) × (check ≡ size_check sum size)) → ((size ≤ 16_777_216) × (check ≡ size_check sum size) → answer ≡ true) → answer ≡ begins_block bytes
begins_at answer sum size check bytes behind between rest many s b e d f p q forth back =
    is_sized answer sum size check behind between rest e d f p q forth back ∙ some_begins sum bytes behind many s b

pub unsized_stop : (before : ℕ) (bytes behind : List ℕ) (stop : Stop) → 8 ≤ length bytes → is_size before bytes ≡ false → behind ≡ drop 8 bytes
    → stop ≡ (if ltb 16_777_232 (length bytes) then stops.Damaged else if has_block behind then stops.Damaged else stops.Torn) → IsStop before bytes stop
unsized_stop before bytes behind stop many wrong back e = elim (cases_lt 16_777_232 (length bytes)) [
  | inl past ↦
      let test : ltb 16_777_232 (length bytes) ≡ true = lt-ltb _ _ past in
      subst (IsStop before bytes) (sym (rw test at e)) (front_damaged before bytes many wrong past)
  | inr few ↦
      let test : ltb 16_777_232 (length bytes) ≡ false = le-ltb _ _ few in
      let shorter : stop ≡ (if has_block behind then stops.Damaged else stops.Torn) = rw test at e in
      let among : has_block (drop 8 bytes) ≡ has_block behind = ap has_block (sym back) in
      elim (cases_Bool (has_block behind)) [
        | inl some ↦ subst (IsStop before bytes) (sym (rw some at shorter)) (front_spoilt before bytes many wrong (among ∙ some))
        | inr none ↦ subst (IsStop before bytes) (sym (rw none at shorter)) (front_wrong before bytes many wrong few (among ∙ none))
      ]
]

-- the size 0
pub end_stop : (before : ℕ) (bytes behind : List ℕ) (stop : Stop) → bytes ≡ size_bytes before 0 ++ behind → stop ≡ (if ltb (length behind) 32 then stops.Torn else stops.Ending)
    → IsStop before bytes stop
end_stop before bytes behind stop e s = elim (cases_lt (length behind) 32) [
  | inl few ↦
      let test : ltb (length behind) 32 ≡ true = lt-ltb _ _ few in
      subst (IsStop before bytes) (sym (rw test at s)) (ap (λ (b : List ℕ). front_of before b) e ∙ spelled_end before behind ∙ end_short behind few)
  | inr many ↦
      let test : ltb (length behind) 32 ≡ false = le-ltb _ _ many in
      subst (IsStop before bytes) (sym (rw test at s)) (behind, ap (λ (b : List ℕ). front_of before b) e ∙ spelled_end before behind ∙ end_long behind many, e)
]

-- another size
pub block_stop : (before size : ℕ) (bytes behind : List ℕ) (stop : Stop) → bytes ≡ size_bytes before size ++ behind → 0 < size → size ≤ 16_777_216 → IsStopBehind before size behind stop
    → IsStop before bytes stop
block_stop before size bytes behind stops.Torn e some few h = ap (λ (b : List ℕ). front_of before b) e ∙ spelled_size before size behind some few ∙ h
block_stop before size bytes behind stops.Damaged e some few h = ap (λ (b : List ℕ). front_of before b) e ∙ spelled_size before size behind some few ∙ h
block_stop before size bytes behind stops.Ending e some few h = absurd h

pub whole_block : (before size : ℕ) (bytes behind said rest : List ℕ) → bytes ≡ size_bytes before size ++ behind → 0 < size → size ≤ 16_777_216 → front_behind before size behind ≡ whole said rest
    → front_of before bytes ≡ whole said rest
whole_block before size bytes behind said rest e some few h = ap (λ (b : List ℕ). front_of before b) e ∙ spelled_size before size behind some few ∙ h

pub block_parts : (before size : ℕ) (bytes behind said rest : List ℕ) → bytes ≡ size_bytes before size ++ behind → behind ≡ said ++ (big_bytes 8 (block_sum before said) ++ rest) → length said ≡ size
    → bytes ≡ block_bytes before said ++ rest
block_parts before size bytes behind said rest e f long =
    e ∙ ap (λ (b : List ℕ). size_bytes before size ++ b) f
    ∙ ap (λ (n : ℕ). size_bytes before n ++ (said ++ (big_bytes 8 (block_sum before said) ++ rest))) (sym long) ∙ sym (block_apart before said rest)

-- ---- behind the size of a block

-- where its sum stands, and what is behind that
pub good_block : (before size : ℕ) (bytes said behind rest : List ℕ) (found sum : ℕ) → size + 8 ≤ length bytes → said ≡ take size bytes → behind ≡ drop size bytes → found ≡ big_number 8 behind
    → rest ≡ drop 8 behind → sum ≡ block_sum before said → found ≡ sum → front_behind before size bytes ≡ whole said rest
good_block before size bytes said behind rest found sum many front back value r s same =
    let read : big_number 8 (drop size bytes) ≡ block_sum before (take size bytes) =
    ap (λ (b : List ℕ). big_number 8 b) (sym back) ∙ sym value ∙ same ∙ s ∙ ap (λ (b : List ℕ). block_sum before b) front in
    let after : rest ≡ drop (size + 8) bytes = r ∙ ap (λ (b : List ℕ). drop 8 b) back ∙ drop-drop 8 size bytes in
    block_good before size bytes many read ∙ ap₂ (λ (a b : List ℕ). whole a b) (sym front) (sym after)

other_sum : (before size : ℕ) (bytes said behind : List ℕ) (found sum : ℕ) → said ≡ take size bytes → behind ≡ drop size bytes → found ≡ big_number 8 behind → sum ≡ block_sum before said → found ≢ sum
    → big_number 8 (drop size bytes) ≢ block_sum before (take size bytes)
other_sum before size bytes said behind found sum front back value s apart same =
    apart (value ∙ ap (λ (b : List ℕ). big_number 8 b) back ∙ same ∙ ap (λ (b : List ℕ). block_sum before b) (sym front) ∙ sym s)

rest_length : (size : ℕ) (bytes behind rest : List ℕ) → behind ≡ drop size bytes → rest ≡ drop 8 behind → length rest ≡ length bytes - size - 8
rest_length size bytes behind rest back r = omega (arith, ap length r, length-drop 8 behind, ap length back, length-drop size bytes)

pub torn_block : (before size : ℕ) (bytes said behind rest : List ℕ) (found sum : ℕ) → size + 8 ≤ length bytes → said ≡ take size bytes → behind ≡ drop size bytes → found ≡ big_number 8 behind
    → rest ≡ drop 8 behind → sum ≡ block_sum before said → found ≢ sum → length rest ≡ 0 → front_behind before size bytes ≡ torn
torn_block before size bytes said behind rest found sum many front back value r s apart none =
    block_last before size bytes (omega (arith, many, none, rest_length size bytes behind rest back r)) (other_sum before size bytes said behind found sum front back value s apart)

pub spoilt_block : (before size : ℕ) (bytes said behind rest : List ℕ) (found sum : ℕ) → said ≡ take size bytes → behind ≡ drop size bytes → found ≡ big_number 8 behind
    → rest ≡ drop 8 behind → sum ≡ block_sum before said → found ≢ sum → 0 < length rest → front_behind before size bytes ≡ damaged
spoilt_block before size bytes said behind rest found sum front back value r s apart some =
    block_bad before size bytes (omega (arith, some, rest_length size bytes behind rest back r)) (other_sum before size bytes said behind found sum front back value s apart)

-- ---- items

pub item_fault : (kind : ℕ) (bytes : List ℕ) (fault : LogFault) → kind ≢ 6 → IsEventFault (kind ∷ bytes) fault → IsItemFault (kind ∷ bytes) fault
item_fault kind bytes (faults.Content fault) other h =
    let not_told : eqb kind 6 ≡ false = ne_eqb _ _ other in
    rw not_told (ap as_item h)
item_fault kind bytes faults.Memory other h = tt
item_fault kind bytes faults.NoLog other h = absurd h
item_fault kind bytes faults.Damaged other h = absurd h
item_fault kind bytes faults.OtherFiles other h = absurd h
item_fault kind bytes faults.OtherNode other h = absurd h
item_fault kind bytes faults.OtherLog other h = absurd h
item_fault kind bytes faults.CutShort other h = absurd h

more_items : (items : List Item) (item : Item) (rest : List ℕ) → items_bytes (items ++ item ∷ []) ++ rest ≡ items_bytes items ++ (item_bytes item ++ rest)
more_items [] item rest = ap (λ (b : List ℕ). b ++ rest) (append-nil (item_bytes item))
more_items (first ∷ items) item rest =
    append_assoc (item_bytes first) (items_bytes (items ++ item ∷ [])) rest ∙ ap (λ (b : List ℕ). item_bytes first ++ b) (more_items items item rest)
    ∙ sym (append_assoc (item_bytes first) (items_bytes items) (item_bytes item ++ rest))

more_events : (items : List Item) (item : Item) → events_of (items ++ item ∷ []) ≡ events_of items ++ events_of (item ∷ [])
more_events [] item = refl
more_events (Came event ∷ items) item = ap (λ (es : List Event). event ∷ es) (more_events items item)
more_events (Told ∷ items) item = more_events items item

or_false : (a : Bool) → (a || false) ≡ a
or_false true = refl
or_false false = refl

more_told : (items : List Item) (item : Item) → is_told_in (items ++ item ∷ []) ≡ (is_told_in items || is_told_in (item ∷ []))
more_told [] item = refl
more_told (Came event ∷ items) item = more_told items item
more_told (Told ∷ items) item = refl

pub none_added : (said : List ℕ) (old : List Event) → IsAdded said old old false said
none_added said old = record { items = []; each = tt; begins = refl; journal = sym (append-nil old); is_told = refl }

pub one_added : (said : List ℕ) (old middle new : List Event) (told now either : Bool) (rest after : List ℕ) (item : Item) → IsTaken item_bytes IsItem rest item after
    → new ≡ middle ++ events_of (item ∷ []) → now ≡ is_told_in (item ∷ []) → either ≡ (now || told) → IsAdded said old middle told rest → IsAdded said old new either after
one_added said old middle new told now either rest after item t e b o h = record {
  items = h.items ++ item ∷ [];
  each = each_and_one IsItem h.items item h.each t.is_one;
  begins = h.begins ∙ ap (λ (r : List ℕ). items_bytes h.items ++ r) t.begins ∙ sym (more_items h.items item after);
  journal = e ∙ ap (λ (es : List Event). es ++ events_of (item ∷ [])) h.journal ∙ append_assoc old (events_of h.items) (events_of (item ∷ []))
      ∙ ap (λ (es : List Event). old ++ es) (sym (more_events h.items item));
  is_told = o ∙ ap₂ (λ (a b : Bool). a || b) b h.is_told ∙ or_comm (is_told_in (item ∷ [])) (is_told_in h.items) ∙ sym (more_told h.items item);
}

-- ---- events that are gathered behind a journal

pub one_gathered : (journal gathered next : List Event) (event : Event) → next ≡ gathered ++ event ∷ [] → journal ++ next ≡ (journal ++ gathered) ++ event ∷ []
one_gathered journal gathered next event is =
    ap (λ (es : List Event). journal ++ es) is ∙ sym (append_assoc journal gathered (event ∷ []))

pub turn_added : (old gathered journal new none : List Event) (event : Event) → journal ≡ old ++ gathered → none ≡ [] → new ≡ journal ++ event ∷ [] → new ++ none ≡ (old ++ gathered) ++ event ∷ []
turn_added old gathered journal new none event all is_none is =
    ap (λ (es : List Event). new ++ es) is_none ∙ append-nil new ∙ is ∙ ap (λ (es : List Event). es ++ event ∷ []) all

pub none_gathered : (journal gathered : List Event) → length gathered ≡ 0 → journal ≡ journal ++ gathered
none_gathered journal [] none = sym (append-nil journal)
none_gathered journal (event ∷ gathered) none = absurd (omega (arith, none))

pub gathered_added : (said : List ℕ) (old none journal gathered new : List Event) (told : Bool) (rest : List ℕ) → none ≡ [] → IsAdded said (old ++ none) (journal ++ gathered) told rest
    → new ≡ journal ++ gathered → IsAdded said old new told rest
gathered_added said old none journal gathered new told rest is_none h all = record {
  items = h.items;
  each = h.each;
  begins = h.begins;
  journal = all ∙ h.journal ∙ ap (λ (es : List Event). es ++ events_of h.items) (ap (λ (es : List Event). old ++ es) is_none ∙ append-nil old);
  is_told = h.is_told;
}

pub saying_fault : (said : List ℕ) (old middle : List Event) (told : Bool) (rest : List ℕ) (fault : LogFault) → 0 < length rest → IsItemFault rest fault → IsAdded said old middle told rest
    → IsSayingFault said fault
saying_fault said old middle told rest (faults.Content fault) some k h = record { items = h.items; each = h.each; rest = rest; begins = h.begins; some = some; fails = k }
saying_fault said old middle told rest faults.Memory some k h = tt
saying_fault said old middle told rest faults.NoLog some k h = absurd k
saying_fault said old middle told rest faults.Damaged some k h = absurd k
saying_fault said old middle told rest faults.OtherFiles some k h = absurd k
saying_fault said old middle told rest faults.OtherNode some k h = absurd k
saying_fault said old middle told rest faults.OtherLog some k h = absurd k
saying_fault said old middle told rest faults.CutShort some k h = absurd k

-- what a block says leaves a shorter rest
pub item_shorter : (bytes rest : List ℕ) (item : Item) → IsTaken item_bytes IsItem bytes item rest → length rest < length bytes
item_shorter bytes rest item t = omega (arith, ap length t.begins, length-append (item_bytes item) rest, some_bytes item t.is_one)

-- ---- blocks

pub none_read : (sum : ℕ) (bytes : List ℕ) (old : List Event) → AreRead sum bytes old old false sum bytes
none_read sum bytes old = record { blocks = []; each = tt; begins = refl; journal = sym (append-nil old); is_told = refl; last_is = refl }

all_said : (said : List ℕ) (items : List Item) → said ≡ items_bytes items ++ [] → said ≡ items_bytes items
all_said said items e = e ∙ append-nil (items_bytes items)

one_block : (before : ℕ) (items : List Item) → blocks_bytes before (items ∷ []) ≡ block_bytes before (items_bytes items)
one_block before items = append-nil (block_bytes before (items_bytes items))

pub one_read : (sum : ℕ) (bytes : List ℕ) (old middle new : List Event) (told now either : Bool) (last next : ℕ) (rest said after : List ℕ) → rest ≡ block_bytes last said ++ after → IsSayable said
    → next ≡ block_sum last said → IsAdded said middle new now [] → either ≡ (now || told) → AreRead sum bytes old middle told last rest → AreRead sum bytes old new either next after
one_read sum bytes old middle new told now either last next rest said after e sayable n a o h =
    let items = a.items in
    let is_said : said ≡ items_bytes items = all_said said items a.begins in
    let block : IsBlock items = record { sayable = subst IsSayable is_said sayable; each = a.each } in
    let behind : rest ≡ blocks_bytes (sum_behind sum h.blocks) (items ∷ []) ++ after =
    e ∙ ap₂ (λ (m : ℕ) (s : List ℕ). block_bytes m s ++ after) h.last_is is_said ∙ ap (λ (b : List ℕ). b ++ after) (sym (one_block (sum_behind sum h.blocks) items)) in
    record {
      blocks = h.blocks ++ items ∷ [];
      each = all_appended IsBlock h.blocks (items ∷ []) h.each (block, tt);
      begins = h.begins ∙ ap (λ (b : List ℕ). blocks_bytes sum h.blocks ++ b) behind
          ∙ sym (append_assoc (blocks_bytes sum h.blocks) (blocks_bytes (sum_behind sum h.blocks) (items ∷ [])) after)
          ∙ ap (λ (b : List ℕ). b ++ after) (sym (more_bytes sum h.blocks (items ∷ [])));
      journal = a.journal ∙ ap (λ (es : List Event). es ++ events_of items) h.journal ∙ append_assoc old (events_in h.blocks) (events_of items)
          ∙ ap (λ (es : List Event). old ++ (events_in h.blocks ++ es)) (sym (append-nil (events_of items)))
          ∙ ap (λ (es : List Event). old ++ es) (sym (appended_events h.blocks (items ∷ [])));
      is_told = o ∙ ap₂ (λ (x y : Bool). x || y) a.is_told h.is_told ∙ or_comm (is_told_in items) (is_told_by h.blocks)
          ∙ ap (λ (b : Bool). is_told_by h.blocks || b) (sym (or_false (is_told_in items))) ∙ sym (appended_told h.blocks (items ∷ []));
      last_is = n ∙ ap₂ block_sum h.last_is is_said ∙ sym (more_sum sum h.blocks (items ∷ []));
    }

pub blocks_fault : (sum : ℕ) (bytes : List ℕ) (old middle : List Event) (told : Bool) (last : ℕ) (rest said after : List ℕ) (fault : LogFault) → front_of last rest ≡ whole said after
    → IsSayingFault said fault → AreRead sum bytes old middle told last rest → IsBlocksFault sum bytes fault
blocks_fault sum bytes old middle told last rest said after (faults.Content fault) w k h =
    (h.blocks, rest, h.each, h.begins, (said, after, ap (λ (n : ℕ). front_of n rest) (sym h.last_is) ∙ w, k))
blocks_fault sum bytes old middle told last rest said after faults.Memory w k h = tt
blocks_fault sum bytes old middle told last rest said after faults.NoLog w k h = absurd k
blocks_fault sum bytes old middle told last rest said after faults.Damaged w k h = absurd k
blocks_fault sum bytes old middle told last rest said after faults.OtherFiles w k h = absurd k
blocks_fault sum bytes old middle told last rest said after faults.OtherNode w k h = absurd k
blocks_fault sum bytes old middle told last rest said after faults.OtherLog w k h = absurd k
blocks_fault sum bytes old middle told last rest said after faults.CutShort w k h = absurd k

pub block_shorter : (before : ℕ) (bytes said rest : List ℕ) → bytes ≡ block_bytes before said ++ rest → length rest < length bytes
block_shorter before bytes said rest e = omega (arith, ap length e, length-append (block_bytes before said) rest, block_length before said)

-- so many bytes are left
pub left_fits : (sum : ℕ) (bytes : List ℕ) (old new : List Event) (end : BlocksEnd) → IsEnd sum bytes old new end → end.left ≤ length bytes
left_fits sum bytes old new end h = omega (arith, h.left, ap length h.are_read.begins, length-append (blocks_bytes sum h.are_read.blocks) h.rest)

-- ---- behind a head

log_with : ℕ → List Event → Bool → Bool → ℕ → ℕ → Log
log_with who journal told closed size sum = record { who = who; journal = journal; is_told = told; is_ended = closed; whole = size; sum = sum }

same_log : (head : LogHead) (blocks : List (List Item)) (log : Log) (size : ℕ) (closed : Bool) → log.who ≡ head.who → log.journal ≡ events_in blocks → log.is_told ≡ is_told_by blocks
    → log.is_ended ≡ closed → log.whole ≡ size → log.sum ≡ last_sum head blocks → log ≡ log_of head blocks size closed
unfolding log_with
same_log head blocks log size closed who journal told closed_is size_is sum =
    ap (λ (w : ℕ). log_with w log.journal log.is_told log.is_ended log.whole log.sum) who
    ∙ ap (λ (j : List Event). log_with head.who j log.is_told log.is_ended log.whole log.sum) journal
    ∙ ap (λ (t : Bool). log_with head.who (events_in blocks) t log.is_ended log.whole log.sum) told
    ∙ ap (λ (c : Bool). log_with head.who (events_in blocks) (is_told_by blocks) c log.whole log.sum) closed_is
    ∙ ap (λ (n : ℕ). log_with head.who (events_in blocks) (is_told_by blocks) closed n log.sum) size_is
    ∙ ap (λ (s : ℕ). log_with head.who (events_in blocks) (is_told_by blocks) closed size s) sum

-- the sum that the head has
pub front_sum : (head : LogHead) (bytes front : List ℕ) → BeginsHead head bytes → front ≡ take 84 bytes → sum_of (take 76 front) ≡ head_sum head
front_sum head bytes front b e =
    let whole_head : take 84 bytes ≡ head_bytes head = ap (λ (l : List ℕ). take 84 l) b.begins ∙ take_at (head_bytes head) b.rest 84 (head_length head b.is_head) in
    let summed : take 76 front ≡ summed_head head =
    ap (λ (l : List ℕ). take 76 l) (e ∙ whole_head) ∙ take_at (summed_head head) (big_bytes 8 (head_sum head)) 76 (summed_length head b.is_head) in
    ap sum_of summed

-- blocks begin what is behind a head
pub begun_behind : (head : LogHead) (bytes behind : List ℕ) (sum : ℕ) (new : List Event) (told : Bool) (last : ℕ) (rest : List ℕ) → BeginsHead head bytes → behind ≡ drop 84 bytes
    → sum ≡ head_sum head → (r : AreRead sum behind [] new told last rest) → IsBegun head bytes r.blocks rest
begun_behind head bytes behind sum new told last rest b e s r = record {
  is_log = record { is_head = b.is_head; are_blocks = r.each };
  begins = b.begins
      ∙ ap (λ (l : List ℕ). head_bytes head ++ l) (sym (drop_at (head_bytes head) b.rest 84 (head_length head b.is_head)) ∙ ap (λ (l : List ℕ). drop 84 l) (sym b.begins) ∙ sym e ∙ r.begins)
      ∙ sym (append_assoc (head_bytes head) (blocks_bytes sum r.blocks) rest)
      ∙ ap (λ (n : ℕ). (head_bytes head ++ blocks_bytes n r.blocks) ++ rest) s;
}

last_behind : (head : LogHead) (behind : List ℕ) (sum : ℕ) (new : List Event) (told : Bool) (last : ℕ) (rest : List ℕ) → sum ≡ head_sum head → (r : AreRead sum behind [] new told last rest)
    → last ≡ last_sum head r.blocks
last_behind head behind sum new told last rest s r = r.last_is ∙ ap (λ (n : ℕ). sum_behind n r.blocks) s

-- what reading found: the blocks, and where they end
pub record IsFound (head : LogHead) (bytes : List ℕ) (end : BlocksEnd) (new : List Event) (place : ℕ) : Type 0 where
  pub blocks : List (List Item)
  pub rest : List ℕ
  pub begun : IsBegun head bytes blocks rest
  pub journal : new ≡ events_in blocks
  pub told : end.is_told ≡ is_told_by blocks
  pub sum : end.sum ≡ last_sum head blocks
  pub place_is : place ≡ length (log_bytes head blocks)
  pub is_stop : IsStop (last_sum head blocks) rest end.stop

pub found_behind : (head : LogHead) (bytes front behind : List ℕ) (sum : ℕ) (end : BlocksEnd) (new : List Event) (place : ℕ) → BeginsHead head bytes → front ≡ take 84 bytes → behind ≡ drop 84 bytes
    → sum ≡ sum_of (take 76 front) → IsEnd sum behind [] new end → place ≡ length bytes - end.left → IsFound head bytes end new place
found_behind head bytes front behind sum end new place b f e s h p =
    let first : sum ≡ head_sum head = s ∙ front_sum head bytes front b f in
    let r = h.are_read in
    let begun : IsBegun head bytes r.blocks h.rest = begun_behind head bytes behind sum new end.is_told end.sum h.rest b e first r in
    let last : end.sum ≡ last_sum head r.blocks = last_behind head behind sum new end.is_told end.sum h.rest first r in
    record {
      blocks = r.blocks;
      rest = h.rest;
      begun = begun;
      journal = r.journal;
      told = r.is_told;
      sum = last;
      place_is = omega (arith, p, h.left, ap length begun.begins, length-append (log_bytes head r.blocks) h.rest);
      is_stop = subst (λ (n : ℕ). IsStop n h.rest end.stop) last h.is_stop;
    }

-- what stands before and behind the place of a digest
digest_place : (head : LogHead) (bytes : List ℕ) (blocks : List (List Item)) (rest seal : List ℕ) → IsBegun head bytes blocks rest → rest ≡ size_bytes (last_sum head blocks) 0 ++ seal
    → bytes ≡ (log_bytes head blocks ++ size_bytes (last_sum head blocks) 0) ++ seal
digest_place head bytes blocks rest seal b e =
    b.begins ∙ ap (λ (r : List ℕ). log_bytes head blocks ++ r) e ∙ sym (append_assoc (log_bytes head blocks) (size_bytes (last_sum head blocks) 0) seal)

abbrev before_seal : LogHead → List (List Item) → List ℕ
before_seal head blocks = log_bytes head blocks ++ size_bytes (last_sum head blocks) 0

place_length : (head : LogHead) (blocks : List (List Item)) (place : ℕ) → place ≡ length (log_bytes head blocks) → length (before_seal head blocks) ≡ place + 8
place_length head blocks place e = omega (arith, e, length-append (log_bytes head blocks) (size_bytes (last_sum head blocks) 0), size_length (last_sum head blocks) 0)

-- there is room for it
pub room_for_size : (head : LogHead) (bytes : List ℕ) (end : BlocksEnd) (new : List Event) (place : ℕ) → IsFound head bytes end new place → end.stop ≡ stops.Ending → place + 8 ≤ length bytes
room_for_size head bytes end new place h e =
    let stop : IsStop (last_sum head h.blocks) h.rest stops.Ending = subst (IsStop (last_sum head h.blocks) h.rest) e h.is_stop in
    let all = digest_place head bytes h.blocks h.rest stop.0 h.begun stop.2 in
    omega (arith, place_length head h.blocks place h.place_is, ap length all, length-append (before_seal head h.blocks) stop.0)

read_of_found : (head : LogHead) (bytes : List ℕ) (end : BlocksEnd) (new : List Event) (place : ℕ) (log : Log) (stop : Stop) → (h : IsFound head bytes end new place)
    → IsStop (last_sum head h.blocks) h.rest stop → (closed : Bool) → IsEnding stop bytes (place + 8) closed → log.who ≡ head.who → log.journal ≡ new → log.is_told ≡ end.is_told
    → log.is_ended ≡ closed → log.whole ≡ (if closed then length bytes else place) → log.sum ≡ end.sum → IsRead head bytes log
read_of_found head bytes end new place log stops.Torn h s closed k who journal told closed_is size sum =
    let open_now : log.is_ended ≡ false = closed_is ∙ k in
    let size_is : log.whole ≡ length (log_bytes head h.blocks) = size ∙ ap (λ (c : Bool). if c then length bytes else place) k ∙ h.place_is in
    unended h.blocks h.rest h.begun s (same_log head h.blocks log (length (log_bytes head h.blocks)) false who (journal ∙ h.journal) (told ∙ h.told) open_now size_is (sum ∙ h.sum))
read_of_found head bytes end new place log stops.Damaged h s closed k who journal told closed_is size sum = absurd k
read_of_found head bytes end new place log stops.Ending h s closed k who journal told closed_is size sum =
    let closed_now : log.is_ended ≡ true = closed_is ∙ k.0 in
    let size_is : log.whole ≡ length bytes = size ∙ ap (λ (c : Bool). if c then length bytes else place) k.0 in
    let seal = s.0 in
    let all : bytes ≡ before_seal head h.blocks ++ seal = digest_place head bytes h.blocks h.rest seal h.begun s.2 in
    let long : length (before_seal head h.blocks) ≡ place + 8 = place_length head h.blocks place h.place_is in
    let front : take (place + 8) bytes ≡ before_seal head h.blocks = ap (λ (b : List ℕ). take (place + 8) b) all ∙ take_at (before_seal head h.blocks) seal (place + 8) long in
    let back : drop (place + 8) bytes ≡ seal = ap (λ (b : List ℕ). drop (place + 8) b) all ∙ drop_at (before_seal head h.blocks) seal (place + 8) long in
    let digest : seal ≡ sha256 (before_seal head h.blocks) = sym back ∙ k.1 ∙ ap sha256 front in
    let is_ended : bytes ≡ ended_bytes head h.blocks =
    all ∙ ap (λ (d : List ℕ). before_seal head h.blocks ++ d) digest ∙ append_assoc (log_bytes head h.blocks) (size_bytes (last_sum head h.blocks) 0) (sha256 (before_seal head h.blocks)) in
    ended h.blocks h.begun.is_log is_ended (same_log head h.blocks log (length bytes) true who (journal ∙ h.journal) (told ∙ h.told) closed_now size_is (sum ∙ h.sum))

-- what was found is read
pub found_read : (head : LogHead) (bytes : List ℕ) (end : BlocksEnd) (new : List Event) (place : ℕ) (log : Log) → IsFound head bytes end new place → (closed : Bool)
    → IsEnding end.stop bytes (place + 8) closed → log.who ≡ head.who → log.journal ≡ new → log.is_told ≡ end.is_told → log.is_ended ≡ closed
    → log.whole ≡ (if closed then length bytes else place) → log.sum ≡ end.sum → IsRead head bytes log
found_read head bytes end new place log h closed k who journal told closed_is size sum =
    read_of_found head bytes end new place log end.stop h h.is_stop closed k who journal told closed_is size sum

fault_of_found : (head : LogHead) (bytes : List ℕ) (end : BlocksEnd) (new : List Event) (place : ℕ) (stop : Stop) (fault : LogFault) → (h : IsFound head bytes end new place)
    → IsStop (last_sum head h.blocks) h.rest stop → IsNoEnding stop bytes (place + 8) fault → IsFaultBehind head bytes fault
fault_of_found head bytes end new place stops.Torn fault h s k = absurd k
fault_of_found head bytes end new place stops.Damaged fault h s k = subst (IsFaultBehind head bytes) (sym k) (h.blocks, h.rest, h.begun, s)
fault_of_found head bytes end new place stops.Ending fault h s k =
    let seal = s.0 in
    let all : bytes ≡ before_seal head h.blocks ++ seal = digest_place head bytes h.blocks h.rest seal h.begun s.2 in
    let long : length (before_seal head h.blocks) ≡ place + 8 = place_length head h.blocks place h.place_is in
    let front : take (place + 8) bytes ≡ before_seal head h.blocks = ap (λ (b : List ℕ). take (place + 8) b) all ∙ take_at (before_seal head h.blocks) seal (place + 8) long in
    let back : drop (place + 8) bytes ≡ seal = ap (λ (b : List ℕ). drop (place + 8) b) all ∙ drop_at (before_seal head h.blocks) seal (place + 8) long in
    let apart : seal ≢ sha256 (before_seal head h.blocks) = λ same. k.1 (back ∙ same ∙ ap sha256 (sym front)) in
    subst (IsFaultBehind head bytes) (sym k.0) (h.blocks, h.rest, h.begun, (seal, s.1, apart))

pub found_fault : (head : LogHead) (bytes : List ℕ) (end : BlocksEnd) (new : List Event) (place : ℕ) (fault : LogFault) → IsFound head bytes end new place → IsNoEnding end.stop bytes (place + 8) fault
    → IsFaultBehind head bytes fault
found_fault head bytes end new place fault h k = fault_of_found head bytes end new place end.stop fault h h.is_stop k

-- a fault of the blocks is one behind the head
pub fault_behind : (head : LogHead) (bytes front behind : List ℕ) (sum : ℕ) (fault : LogFault) → BeginsHead head bytes → front ≡ take 84 bytes → behind ≡ drop 84 bytes → sum ≡ sum_of (take 76 front)
    → IsBlocksFault sum behind fault → IsFaultBehind head bytes fault
fault_behind head bytes front behind sum (faults.Content fault) b f e s k =
    let first : sum ≡ head_sum head = s ∙ front_sum head bytes front b f in
    let begun : IsBegun head bytes k.0 k.1 = record {
      is_log = record { is_head = b.is_head; are_blocks = k.2 };
      begins = b.begins
          ∙ ap (λ (l : List ℕ). head_bytes head ++ l) (sym (drop_at (head_bytes head) b.rest 84 (head_length head b.is_head)) ∙ ap (λ (l : List ℕ). drop 84 l) (sym b.begins) ∙ sym e ∙ k.3)
          ∙ sym (append_assoc (head_bytes head) (blocks_bytes sum k.0) k.1)
          ∙ ap (λ (n : ℕ). (head_bytes head ++ blocks_bytes n k.0) ++ k.1) first;
    } in
    let w = k.4 in
    let front_is : front_of (last_sum head k.0) k.1 ≡ whole w.0 w.1 = ap (λ (n : ℕ). front_of (sum_behind n k.0) k.1) (sym first) ∙ w.2 in
    (k.0, k.1, begun, (w.0, w.1, front_is, w.3))
fault_behind head bytes front behind sum faults.Memory b f e s k = b
fault_behind head bytes front behind sum faults.NoLog b f e s k = absurd k
fault_behind head bytes front behind sum faults.Damaged b f e s k = absurd k
fault_behind head bytes front behind sum faults.OtherFiles b f e s k = absurd k
fault_behind head bytes front behind sum faults.OtherNode b f e s k = absurd k
fault_behind head bytes front behind sum faults.OtherLog b f e s k = absurd k
fault_behind head bytes front behind sum faults.CutShort b f e s k = absurd k
