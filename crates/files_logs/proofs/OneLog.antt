-- Bytes are one log alone, or have one fault.
use Rattle.std.proofs.Common.{◌≡◌, ℕ, ◌<◌, ◌≤◌, Bool, true, false, List, [], ◌∷◌, ◌++◌, length, Option, Some, None, Ok, Err, refl, sym, ap, ap₂, subst, ◌∙◌, append_assoc, append-nil, arith, inl, inr}
use Rattle.std.specs.Prelude.{◌⊎◌, Result, IfOk, IfErr, MatchResult}
use Rattle.std.specs.List.{AllByRecursion}
use Rattle.std.proofs.lemmas.List.{append_cancel_left}
use Rattle.sha2.specs.Sha256.{sha256}
use Rattle.files_reports.specs.declared.file_digests.FileDigests.{FileDigests}
use Rattle.files_reports.specs.declared.content_fault.ContentFault.{ContentFault}
use Rattle.files_logs.specs.declared.item.Item.{Item}
use Rattle.files_logs.specs.declared.log_head.LogHead.{LogHead}
use Rattle.files_logs.specs.declared.log.Log.{Log}
use Rattle.files_logs.specs.declared.log_fault.LogFault.{LogFault}
use Rattle.files_logs.specs.declared.log_fault.LogFault.TheVariants as faults
use Rattle.files_logs.specs.Sums.{block_sum}
use Rattle.files_logs.specs.Items.{items_bytes, IsItem}
use Rattle.files_logs.specs.Blocks.{size_bytes, block_bytes, IsBlock, blocks_bytes, sum_behind}
use Rattle.files_logs.specs.Log.{head_bytes, head_sum, IsHead, log_bytes, last_sum, end_bytes, ended_bytes, IsLog, log_of}
use Rattle.files_logs.specs.Front.{Front, whole, torn, ending, damaged, front_of}
use Rattle.files_logs.specs.Reading.{IsBegun, IsRead, unended, ended, IsAsked, head_of, IsLogRead, BeginsHead, IsContentFault, IsFaultBehind, IsFaultOfAsked, IsLogFault}
use Rattle.files_logs.proofs.Saying.{one_saying, not_items}
use Rattle.files_logs.proofs.Fronts.{block_front, end_front}
use Rattle.files_logs.proofs.Headed.{one_head}

-- no block of items stands at the front
abbrev pub NoBlock : ℕ → List ℕ → Type 0
NoBlock before bytes = (items : List Item) (behind : List ℕ) → AllByRecursion IsItem items → front_of before bytes ≡ whole (items_bytes items) behind → ⊥

torn_stops : (before : ℕ) (bytes : List ℕ) → front_of before bytes ≡ torn → NoBlock before bytes
torn_stops before bytes t items behind h e =
    let clash : torn ≡ whole (items_bytes items) behind = sym t ∙ e in
    absurd (cc clash)

ending_stops : (before : ℕ) (bytes seal : List ℕ) → front_of before bytes ≡ ending seal → NoBlock before bytes
ending_stops before bytes seal t items behind h e =
    let clash : ending seal ≡ whole (items_bytes items) behind = sym t ∙ e in
    absurd (cc clash)

damaged_stops : (before : ℕ) (bytes : List ℕ) → front_of before bytes ≡ damaged → NoBlock before bytes
damaged_stops before bytes t items behind h e =
    let clash : damaged ≡ whole (items_bytes items) behind = sym t ∙ e in
    absurd (cc clash)

abbrev said_of : Front → List ℕ
said_of (whole said rest) = said
said_of torn = []
said_of (ending seal) = []
said_of damaged = []

abbrev rest_of : Front → List ℕ
rest_of (whole said rest) = rest
rest_of torn = []
rest_of (ending seal) = []
rest_of damaged = []

abbrev seal_in : Front → List ℕ
seal_in (whole said rest) = []
seal_in torn = []
seal_in (ending seal) = seal
seal_in damaged = []

content_stops : (before : ℕ) (bytes said behind : List ℕ) (fault : ContentFault) → front_of before bytes ≡ whole said behind → IsContentFault said fault → NoBlock before bytes
content_stops before bytes said behind fault t f items rest h e = not_items said fault items f h (ap said_of (sym t ∙ e))

-- blocks, with what is behind them
abbrev with_rest : ℕ → List (List Item) → List ℕ → List ℕ
with_rest before blocks rest = blocks_bytes before blocks ++ rest

-- the first of them
first_front : (before : ℕ) (items : List Item) (blocks : List (List Item)) (rest : List ℕ) → IsBlock items
    → front_of before (with_rest before (items ∷ blocks) rest) ≡ whole (items_bytes items) (with_rest (block_sum before (items_bytes items)) blocks rest)
first_front before items blocks rest h =
    let block = block_bytes before (items_bytes items) in
    let others = blocks_bytes (block_sum before (items_bytes items)) blocks in
    ap (λ (b : List ℕ). front_of before b) (append_assoc block others rest) ∙ block_front before (items_bytes items) (others ++ rest) h.sayable

-- blocks up to where none stands are read in one way
pub one_reading : (before : ℕ) (blocks others : List (List Item)) (rest more : List ℕ) → AllByRecursion IsBlock blocks → AllByRecursion IsBlock others
    → with_rest before blocks rest ≡ with_rest before others more → NoBlock (sum_behind before blocks) rest → NoBlock (sum_behind before others) more → (blocks ≡ others) × (rest ≡ more)
one_reading before [] [] rest more h k e s t = (refl, e)
one_reading before [] (other ∷ others) rest more h k e s t =
    absurd (s other (with_rest (block_sum before (items_bytes other)) others more) k.0.each (ap (λ (b : List ℕ). front_of before b) e ∙ first_front before other others more k.0))
one_reading before (items ∷ blocks) [] rest more h k e s t =
    absurd (t items (with_rest (block_sum before (items_bytes items)) blocks rest) h.0.each (ap (λ (b : List ℕ). front_of before b) (sym e) ∙ first_front before items blocks rest h.0))
one_reading before (items ∷ blocks) (other ∷ others) rest more h k e s t =
    let sum = block_sum before (items_bytes items) in
    let fronts : whole (items_bytes items) (with_rest sum blocks rest) ≡ whole (items_bytes other) (with_rest (block_sum before (items_bytes other)) others more) =
    sym (first_front before items blocks rest h.0) ∙ ap (λ (b : List ℕ). front_of before b) e ∙ first_front before other others more k.0 in
    let same : items ≡ other = one_saying items other h.0.each k.0.each (ap said_of fronts) in
    let behind : with_rest sum blocks rest ≡ with_rest sum others more =
    ap rest_of fronts ∙ ap (λ (i : List Item). with_rest (block_sum before (items_bytes i)) others more) (sym same) in
    let stop : NoBlock (sum_behind sum others) more = subst (λ (i : List Item). NoBlock (sum_behind (block_sum before (items_bytes i)) others) more) (sym same) t in
    let all = one_reading sum blocks others rest more h.1 k.1 behind s stop in
    (ap (λ (i : List Item). i ∷ blocks) same ∙ ap (λ (bs : List (List Item)). other ∷ bs) all.0, all.1)

-- the same behind a head
one_stop : (head : LogHead) (bytes : List ℕ) (blocks others : List (List Item)) (rest more : List ℕ) → IsBegun head bytes blocks rest → IsBegun head bytes others more
    → NoBlock (last_sum head blocks) rest → NoBlock (last_sum head others) more → (blocks ≡ others) × (rest ≡ more)
one_stop head bytes blocks others rest more b c s t =
    let sum = head_sum head in
    let same : head_bytes head ++ with_rest sum blocks rest ≡ head_bytes head ++ with_rest sum others more =
    sym (append_assoc (head_bytes head) (blocks_bytes sum blocks) rest) ∙ sym b.begins ∙ c.begins ∙ append_assoc (head_bytes head) (blocks_bytes sum others) more in
    one_reading sum blocks others rest more b.is_log.are_blocks c.is_log.are_blocks (append_cancel_left (head_bytes head) (with_rest sum blocks rest) (with_rest sum others more) same) s t

-- a log with its end begins so too
ended_begun : (head : LogHead) (bytes : List ℕ) (blocks : List (List Item)) → IsLog head blocks → bytes ≡ ended_bytes head blocks
    → IsBegun head bytes blocks (end_bytes (last_sum head blocks) (log_bytes head blocks))
ended_begun head bytes blocks h e = record { is_log = h; begins = e }

-- the digest that belongs behind blocks
abbrev seal_of : LogHead → List (List Item) → List ℕ
seal_of head blocks = sha256 (log_bytes head blocks ++ size_bytes (last_sum head blocks) 0)

-- what is read, with what stands where it stops
pub record IsStopped (head : LogHead) (bytes : List ℕ) (log : Log) : Type 0 where
  pub blocks : List (List Item)
  pub rest : List ℕ
  pub begun : IsBegun head bytes blocks rest
  pub front : ((front_of (last_sum head blocks) rest ≡ torn) × (log ≡ log_of head blocks (length (log_bytes head blocks)) false))
      ⊎ ((front_of (last_sum head blocks) rest ≡ ending (seal_of head blocks)) × (log ≡ log_of head blocks (length bytes) true))

pub stopped : (head : LogHead) (bytes : List ℕ) (log : Log) → IsRead head bytes log → IsStopped head bytes log
stopped head bytes log (unended blocks rest b t l) = record { blocks = blocks; rest = rest; begun = b; front = inl (t, l) }
stopped head bytes log (ended blocks h e l) = record {
  blocks = blocks;
  rest = end_bytes (last_sum head blocks) (log_bytes head blocks);
  begun = ended_begun head bytes blocks h e;
  front = inr (end_front (last_sum head blocks) (log_bytes head blocks), l);
}

no_block : (head : LogHead) (bytes : List ℕ) (log : Log) → (r : IsStopped head bytes log) → NoBlock (last_sum head r.blocks) r.rest
no_block head bytes log r = elim r.front [
  | inl unclosed ↦ torn_stops (last_sum head r.blocks) r.rest unclosed.0
  | inr closed ↦ ending_stops (last_sum head r.blocks) r.rest (seal_of head r.blocks) closed.0
]

front_at : LogHead → List (List Item) → List ℕ → Front
front_at head blocks rest = front_of (last_sum head blocks) rest

one_log_of : (head : LogHead) (bytes : List ℕ) (log other : Log) → IsStopped head bytes log → IsStopped head bytes other → log ≡ other
unfolding front_at
one_log_of head bytes log other r s =
    let same = one_stop head bytes r.blocks s.blocks r.rest s.rest r.begun s.begun (no_block head bytes log r) (no_block head bytes other s) in
    let fronts : front_of (last_sum head r.blocks) r.rest ≡ front_of (last_sum head s.blocks) s.rest = ap₂ (front_at head) same.0 same.1 in
    elim r.front [
      | inl unclosed ↦ elim s.front [
        | inl also ↦ unclosed.1 ∙ ap (λ (bs : List (List Item)). log_of head bs (length (log_bytes head bs)) false) same.0 ∙ sym also.1
        | inr closed ↦
            let clash : torn ≡ ending (seal_of head s.blocks) = sym unclosed.0 ∙ fronts ∙ closed.0 in
            absurd (cc clash)
      ]
      | inr closed ↦ elim s.front [
        | inl unclosed ↦
            let clash : ending (seal_of head r.blocks) ≡ torn = sym closed.0 ∙ fronts ∙ unclosed.0 in
            absurd (cc clash)
        | inr also ↦ closed.1 ∙ ap (λ (bs : List (List Item)). log_of head bs (length bytes) true) same.0 ∙ sym also.1
      ]
    ]

-- ---- the head that is asked for

pub begins_head : (head : LogHead) (bytes : List ℕ) (blocks : List (List Item)) (rest : List ℕ) → IsBegun head bytes blocks rest → BeginsHead head bytes
begins_head head bytes blocks rest b = record {
  is_head = b.is_log.is_head;
  rest = with_rest (head_sum head) blocks rest;
  begins = b.begins ∙ append_assoc (head_bytes head) (blocks_bytes (head_sum head) blocks) rest;
}

read_head : (head : LogHead) (bytes : List ℕ) (log : Log) → IsStopped head bytes log → BeginsHead head bytes
read_head head bytes log r = begins_head head bytes r.blocks r.rest r.begun

-- bytes are one log
pub one_log : (files : FileDigests) (who : Option ℕ) (rules : ℕ) (bytes : List ℕ) (log other : Log) → IsLogRead files who rules bytes log → IsLogRead files who rules bytes other → log ≡ other
one_log files who rules bytes log other r s =
    let mine = stopped (head_of files rules log.who) bytes log r.is_read in
    let theirs = stopped (head_of files rules other.who) bytes other s.is_read in
    let heads : head_of files rules log.who ≡ head_of files rules other.who =
    one_head (head_of files rules log.who) (head_of files rules other.who) bytes (read_head (head_of files rules log.who) bytes log mine) (read_head (head_of files rules other.who) bytes other theirs) in
    one_log_of (head_of files rules other.who) bytes log other (subst (λ (h : LogHead). IsStopped h bytes log) heads mine) theirs

-- ---- what is read has no fault

-- behind its head
none_behind : (head : LogHead) (bytes : List ℕ) (log : Log) (fault : LogFault) → IsStopped head bytes log → IsFaultBehind head bytes fault → fault ≡ faults.Memory
unfolding front_at
none_behind head bytes log faults.Damaged r k =
    let same = one_stop head bytes k.0 r.blocks k.1 r.rest k.2 r.begun (damaged_stops (last_sum head k.0) k.1 k.3) (no_block head bytes log r) in
    let fronts : damaged ≡ front_of (last_sum head r.blocks) r.rest = sym k.3 ∙ ap₂ (front_at head) same.0 same.1 in
    elim r.front [
      | inl unclosed ↦
          let clash : damaged ≡ torn = fronts ∙ unclosed.0 in
          absurd (cc clash)
      | inr closed ↦
          let clash : damaged ≡ ending (seal_of head r.blocks) = fronts ∙ closed.0 in
          absurd (cc clash)
    ]
none_behind head bytes log (faults.Content fault) r k =
    let f = k.3 in
    let same = one_stop head bytes k.0 r.blocks k.1 r.rest k.2 r.begun (content_stops (last_sum head k.0) k.1 f.0 f.1 fault f.2 f.3) (no_block head bytes log r) in
    let fronts : whole f.0 f.1 ≡ front_of (last_sum head r.blocks) r.rest = sym f.2 ∙ ap₂ (front_at head) same.0 same.1 in
    elim r.front [
      | inl unclosed ↦
          let clash : whole f.0 f.1 ≡ torn = fronts ∙ unclosed.0 in
          absurd (cc clash)
      | inr closed ↦
          let clash : whole f.0 f.1 ≡ ending (seal_of head r.blocks) = fronts ∙ closed.0 in
          absurd (cc clash)
    ]
none_behind head bytes log faults.CutShort r k =
    let f = k.3 in
    let same = one_stop head bytes k.0 r.blocks k.1 r.rest k.2 r.begun (ending_stops (last_sum head k.0) k.1 f.0 f.1) (no_block head bytes log r) in
    let fronts : ending f.0 ≡ front_of (last_sum head r.blocks) r.rest = sym f.1 ∙ ap₂ (front_at head) same.0 same.1 in
    elim r.front [
      | inl unclosed ↦
          let clash : ending f.0 ≡ torn = fronts ∙ unclosed.0 in
          absurd (cc clash)
      | inr closed ↦
          let seals : ending f.0 ≡ ending (seal_of head r.blocks) = fronts ∙ closed.0 in
          let found : f.0 ≡ seal_of head r.blocks = ap seal_in seals in
          absurd (f.2 (found ∙ ap (λ (bs : List (List Item)). seal_of head bs) (sym same.0)))
    ]
none_behind head bytes log faults.Memory r k = refl
none_behind head bytes log faults.NoLog r k = absurd k
none_behind head bytes log faults.OtherFiles r k = absurd k
none_behind head bytes log faults.OtherNode r k = absurd k
none_behind head bytes log faults.OtherLog r k = absurd k

-- behind the head that is asked for
none_asked : (files : FileDigests) (who : Option ℕ) (rules : ℕ) (bytes : List ℕ) (log : Log) (fault : LogFault) → IsLogRead files who rules bytes log
    → (k : IsFaultOfAsked files who rules bytes fault) → BeginsHead (head_of files rules k.node) bytes → fault ≡ faults.Memory
none_asked files who rules bytes log fault r k b =
    let mine = stopped (head_of files rules log.who) bytes log r.is_read in
    let heads : head_of files rules k.node ≡ head_of files rules log.who =
    one_head (head_of files rules k.node) (head_of files rules log.who) bytes b (read_head (head_of files rules log.who) bytes log mine) in
    none_behind (head_of files rules log.who) bytes log fault mine (subst (λ (h : LogHead). IsFaultBehind h bytes fault) heads k.is_behind)

pub only_memory : (files : FileDigests) (who : Option ℕ) (rules : ℕ) (bytes : List ℕ) (log : Log) (fault : LogFault) → IsLogRead files who rules bytes log
    → IsLogFault files who rules bytes fault → fault ≡ faults.Memory
only_memory files who rules bytes log faults.NoLog r k =
    let mine = stopped (head_of files rules log.who) bytes log r.is_read in
    absurd (k.0 (head_of files rules log.who) (read_head (head_of files rules log.who) bytes log mine))
only_memory files who rules bytes log faults.Damaged r k =
    let mine = stopped (head_of files rules log.who) bytes log r.is_read in
    elim k [
      | inl none ↦ absurd (none.0 (head_of files rules log.who) (read_head (head_of files rules log.who) bytes log mine))
      | inr asked ↦
          let f = asked.is_behind in
          none_asked files who rules bytes log faults.Damaged r asked (begins_head (head_of files rules asked.node) bytes f.0 f.1 f.2)
    ]
only_memory files who rules bytes log faults.OtherFiles r k =
    let mine = stopped (head_of files rules log.who) bytes log r.is_read in
    let same : k.0 ≡ head_of files rules log.who = one_head k.0 (head_of files rules log.who) bytes k.1 (read_head (head_of files rules log.who) bytes log mine) in
    absurd (k.2 (ap (λ (h : LogHead). h.files) same))
only_memory files who rules bytes log faults.OtherNode r k =
    let mine = stopped (head_of files rules log.who) bytes log r.is_read in
    let same : k.0 ≡ head_of files rules log.who = one_head k.0 (head_of files rules log.who) bytes k.1 (read_head (head_of files rules log.who) bytes log mine) in
    absurd (k.3 (subst (λ (w : ℕ). IsAsked who w) (sym (ap (λ (h : LogHead). h.who) same)) r.is_asked))
only_memory files who rules bytes log faults.OtherLog r k =
    let mine = stopped (head_of files rules log.who) bytes log r.is_read in
    let same : k.0 ≡ head_of files rules log.who = one_head k.0 (head_of files rules log.who) bytes k.1 (read_head (head_of files rules log.who) bytes log mine) in
    absurd (k.4 (ap (λ (h : LogHead). h.rules) same))
only_memory files who rules bytes log (faults.Content fault) r k =
    let f = k.is_behind in
    none_asked files who rules bytes log (faults.Content fault) r k (begins_head (head_of files rules k.node) bytes f.0 f.1 f.2)
only_memory files who rules bytes log faults.CutShort r k =
    let f = k.is_behind in
    none_asked files who rules bytes log faults.CutShort r k (begins_head (head_of files rules k.node) bytes f.0 f.1 f.2)
only_memory files who rules bytes log faults.Memory r k = refl

-- what is answered, where such a log is read of the bytes
pub only_log : (files : FileDigests) (who : Option ℕ) (rules : ℕ) (bytes : List ℕ) (answer : Result Log LogFault) → IfOk answer (IsLogRead files who rules bytes)
    → IfErr answer (IsLogFault files who rules bytes) → (log : Log) → IsLogRead files who rules bytes log → MatchResult answer (λ found. found ≡ log) (λ fault. fault ≡ faults.Memory)
only_log files who rules bytes (Ok found) r k log s = one_log files who rules bytes found log r s
only_log files who rules bytes (Err fault) r k log s = only_memory files who rules bytes log fault s k
