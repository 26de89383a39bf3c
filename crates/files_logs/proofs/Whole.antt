-- Whole logs: written and read, cut, torn, and appended to.
use Rattle.std.proofs.Common.{◌≡◌, ℕ, zero, suc, ◌+◌, ◌-◌, ◌^◌, ◌<◌, ◌≤◌, Bool, true, false, ◌||◌, List, [], ◌∷◌, ◌++◌, length, take, Option, refl, sym, ap, subst, ◌∙◌, append_assoc, append-nil, arith, lit<}
use Rattle.std.specs.List.{AllByRecursion}
use Rattle.std.proofs.lemmas.List.{length-append, length-take}
use Rattle.std.proofs.Math.Bool.{or_assoc}
use Rattle.std.proofs.Math.Seq.{take-append-add}
use Rattle.byteorder.specs.Endian.{big_bytes}
use Rattle.sha2.specs.Sha256.{sha256}
use Rattle.sha2.proofs.Facts256.{length-sha256}
use Rattle.node.specs.declared.event.Event.{Event}
use Rattle.files_reports.specs.declared.file_digests.FileDigests.{FileDigests}
use Rattle.files_logs.specs.declared.item.Item.{Item}
use Rattle.files_logs.specs.declared.log_head.LogHead.{LogHead}
use Rattle.files_logs.specs.declared.log_fault.LogFault.TheVariants.{NoLog, Damaged}
use Rattle.files_logs.specs.Sums.{block_sum}
use Rattle.files_logs.specs.Items.{items_bytes, events_of, is_told_in}
use Rattle.files_logs.specs.Blocks.{size_bytes, block_bytes, IsBlock, blocks_bytes, sum_behind, events_in, is_told_by}
use Rattle.files_logs.specs.Log.{head_bytes, head_sum, log_bytes, ended_bytes, end_bytes, last_sum, IsLog, log_of}
use Rattle.files_logs.specs.Front.{torn, is_size, front_of}
use Rattle.files_logs.specs.Reading.{IsBegun, IsRead, unended, ended, IsFaultBehind, IsLogFault, BeginsHead}
use Rattle.files_logs.specs.Cuts.{whole_within, IsTornTail, front_log}
use Rattle.files_logs.proofs.Sizes.{size_length}
use Rattle.files_logs.proofs.Fronts.{front_short, end_cut}
use Rattle.files_logs.proofs.Beginnings.{size_spoilt}
use Rattle.files_logs.proofs.Cut.{IsCut, cut_blocks, nothing_behind, torn_tail}
use Rattle.files_logs.proofs.Headed.{head_length, long_enough}

-- ---- what was written is read

pub torn_dropped : (head : LogHead) (blocks : List (List Item)) (tail : List ℕ) → IsLog head blocks → IsTornTail (last_sum head blocks) tail
    → IsRead head (log_bytes head blocks ++ tail) (log_of head blocks (length (log_bytes head blocks)) false)
torn_dropped head blocks tail h t = unended blocks tail (record { is_log = h; begins = refl }) (torn_tail (last_sum head blocks) tail t) refl

-- but not where a size was changed before the last block
pub size_changed : (head : LogHead) (blocks : List (List Item)) (tail size said behind : List ℕ) (sum next : ℕ) → IsLog head blocks → is_size (last_sum head blocks) tail ≡ false
    → tail ≡ size ++ (said ++ (big_bytes 8 sum ++ (size_bytes sum next ++ behind))) → length size ≡ 8 → sum < 2 ^ 64 → next ≤ 16_777_216 → IsFaultBehind head (log_bytes head blocks ++ tail) Damaged
size_changed head blocks tail size said behind sum next h wrong e eight fits few =
    (blocks, tail, record { is_log = h; begins = refl }, size_spoilt (last_sum head blocks) tail size said behind sum next wrong e eight fits few)

pub log_read : (head : LogHead) (blocks : List (List Item)) → IsLog head blocks → IsRead head (log_bytes head blocks) (log_of head blocks (length (log_bytes head blocks)) false)
log_read head blocks h =
    unended blocks [] (record { is_log = h; begins = sym (append-nil (log_bytes head blocks)) }) (front_short (last_sum head blocks) [] (lit< tt)) refl

pub ended_read : (head : LogHead) (blocks : List (List Item)) → IsLog head blocks → IsRead head (ended_bytes head blocks) (log_of head blocks (length (ended_bytes head blocks)) true)
ended_read head blocks h = ended blocks h refl refl

-- ---- what is cut

all_taken : {X : Type 0} (P : X → Type 0) (n : ℕ) (xs : List X) → AllByRecursion P xs → AllByRecursion P (take n xs)
all_taken P zero xs h = tt
all_taken P (suc n) [] h = tt
all_taken P (suc n) (x ∷ xs) h = (h.0, all_taken P n xs h.1)

fewer_blocks : (head : LogHead) (blocks : List (List Item)) (n : ℕ) → IsLog head blocks → IsLog head (take n blocks)
fewer_blocks head blocks n h = record { is_head = h.is_head; are_blocks = all_taken IsBlock n blocks h.are_blocks }

-- a log with something behind it none of whose fronts is more than a torn tail
cut_log : (head : LogHead) (blocks : List (List Item)) (tail : List ℕ) (most k : ℕ) → IsLog head blocks → ((j : ℕ) → j ≤ most → front_of (last_sum head blocks) (take j tail) ≡ torn)
    → 84 ≤ k → k ≤ length (log_bytes head blocks) + most → IsRead head (take k (log_bytes head blocks ++ tail)) (front_log head blocks k)
cut_log head blocks tail most k h short past within =
    let sum = head_sum head in
    let behind = blocks_bytes sum blocks in
    let j : ℕ = k - 84 in
    let n : ℕ = whole_within blocks j in
    let room : j ≤ length behind + most = omega (arith, within, length-append (head_bytes head) behind, head_length head h.is_head) in
    let cut : IsCut sum blocks (take j (behind ++ tail)) n = cut_blocks sum blocks tail most j h.are_blocks short room in
    let same : k ≡ length (head_bytes head) + j = omega (arith, head_length head h.is_head) in
    let bytes : take k (log_bytes head blocks ++ tail) ≡ head_bytes head ++ take j (behind ++ tail) =
    ap (λ (b : List ℕ). take k b) (append_assoc (head_bytes head) behind tail)
    ∙ ap (λ (m : ℕ). take m (head_bytes head ++ (behind ++ tail))) same ∙ take-append-add (head_bytes head) (behind ++ tail) j in
    let begun : IsBegun head (take k (log_bytes head blocks ++ tail)) (take n blocks) cut.rest = record {
      is_log = fewer_blocks head blocks n h;
      begins = bytes ∙ ap (λ (b : List ℕ). head_bytes head ++ b) cut.begins ∙ sym (append_assoc (head_bytes head) (blocks_bytes sum (take n blocks)) cut.rest);
    } in
    unended (take n blocks) cut.rest begun cut.torn_behind refl

pub cut_unended : (head : LogHead) (blocks : List (List Item)) (k : ℕ) → IsLog head blocks → 84 ≤ k → IsRead head (take k (log_bytes head blocks)) (front_log head blocks k)
cut_unended head blocks k h past =
    subst (λ (b : List ℕ). IsRead head (take k b) (front_log head blocks k)) (append-nil (log_bytes head blocks))
    (cut_log head blocks [] k k h (nothing_behind (last_sum head blocks) k) past (omega arith))

pub ended_length : (head : LogHead) (blocks : List (List Item)) → length (ended_bytes head blocks) ≡ length (log_bytes head blocks) + 40
ended_length head blocks =
    let all = log_bytes head blocks in
    let size = size_bytes (last_sum head blocks) 0 in
    omega (arith, length-append all (end_bytes (last_sum head blocks) all), length-append size (sha256 (all ++ size)), size_length (last_sum head blocks) 0, length-sha256 (all ++ size))

pub cut_ended : (head : LogHead) (blocks : List (List Item)) (k : ℕ) → IsLog head blocks → 84 ≤ k → k < length (ended_bytes head blocks)
    → IsRead head (take k (ended_bytes head blocks)) (front_log head blocks k)
cut_ended head blocks k h past within =
    cut_log head blocks (end_bytes (last_sum head blocks) (log_bytes head blocks)) 39 k h
    (λ j few. end_cut (last_sum head blocks) j (log_bytes head blocks) (omega (arith, few))) past (omega (arith, within, ended_length head blocks))

pub cut_head : (files : FileDigests) (who : Option ℕ) (rules : ℕ) (bytes : List ℕ) (k : ℕ) → k < 84 → IsLogFault files who rules (take k bytes) NoLog
cut_head files who rules bytes k cut =
    let few : length (take k bytes) < 84 = omega (arith, length-take k bytes, cut) in
    (λ head b. absurd (omega (arith, long_enough head (take k bytes) b, few)), λ named. omega (arith, few))

-- ---- what is appended

pub more_bytes : (before : ℕ) (blocks more : List (List Item)) → blocks_bytes before (blocks ++ more) ≡ blocks_bytes before blocks ++ blocks_bytes (sum_behind before blocks) more
more_bytes before [] more = refl
more_bytes before (items ∷ blocks) more =
    let block = block_bytes before (items_bytes items) in
    let sum = block_sum before (items_bytes items) in
    ap (λ (b : List ℕ). block ++ b) (more_bytes sum blocks more) ∙ sym (append_assoc block (blocks_bytes sum blocks) (blocks_bytes (sum_behind sum blocks) more))

pub more_sum : (before : ℕ) (blocks more : List (List Item)) → sum_behind before (blocks ++ more) ≡ sum_behind (sum_behind before blocks) more
more_sum before [] more = refl
more_sum before (items ∷ blocks) more = more_sum (block_sum before (items_bytes items)) blocks more

pub appended_events : (blocks more : List (List Item)) → events_in (blocks ++ more) ≡ events_in blocks ++ events_in more
appended_events [] more = refl
appended_events (items ∷ blocks) more =
    ap (λ (es : List Event). events_of items ++ es) (appended_events blocks more) ∙ sym (append_assoc (events_of items) (events_in blocks) (events_in more))

pub appended_told : (blocks more : List (List Item)) → is_told_by (blocks ++ more) ≡ (is_told_by blocks || is_told_by more)
appended_told [] more = refl
appended_told (items ∷ blocks) more =
    ap (λ (b : Bool). is_told_in items || b) (appended_told blocks more) ∙ sym (or_assoc (is_told_in items) (is_told_by blocks) (is_told_by more))

pub all_appended : {X : Type 0} (P : X → Type 0) (xs ys : List X) → AllByRecursion P xs → AllByRecursion P ys → AllByRecursion P (xs ++ ys)
all_appended P [] ys h k = k
all_appended P (x ∷ xs) ys h k = (h.0, all_appended P xs ys h.1 k)

pub appended_log : (head : LogHead) (blocks more : List (List Item)) → IsLog head blocks → AllByRecursion IsBlock more → IsLog head (blocks ++ more)
appended_log head blocks more h k = record { is_head = h.is_head; are_blocks = all_appended IsBlock blocks more h.are_blocks k }

pub appended_bytes : (head : LogHead) (blocks more : List (List Item)) → log_bytes head (blocks ++ more) ≡ log_bytes head blocks ++ blocks_bytes (last_sum head blocks) more
appended_bytes head blocks more =
    ap (λ (b : List ℕ). head_bytes head ++ b) (more_bytes (head_sum head) blocks more)
    ∙ sym (append_assoc (head_bytes head) (blocks_bytes (head_sum head) blocks) (blocks_bytes (last_sum head blocks) more))

pub appended_sum : (head : LogHead) (blocks more : List (List Item)) → last_sum head (blocks ++ more) ≡ sum_behind (last_sum head blocks) more
appended_sum head blocks more = more_sum (head_sum head) blocks more
