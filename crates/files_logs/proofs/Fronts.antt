-- What stands at the front of bytes behind a sum.
use Rattle.std.proofs.Common.{◌≡◌, ℕ, ◌+◌, ◌-◌, ◌<◌, ◌≤◌, true, false, eqb, ltb, List, [], ◌++◌, length, take, drop, refl, sym, ap, ◌∙◌, arith, lit<, inl, inr}
use Rattle.std.specs.Prelude.{◌≢◌}
use Rattle.std.specs.List.{AllByRecursion}
use Rattle.std.proofs.lemmas.Bool.{cases_lt, lt-ltb, le-ltb, eq-eqb, ne_eqb}
use Rattle.std.proofs.lemmas.List.{length-append, length-take, append_cancel_left}
use Rattle.std.proofs.Math.Seq.{take-append_seam, drop-append_seam, take-append-add, drop-append-add}
use Rattle.byteorder.specs.Endian.{big_bytes, big_number}
use Rattle.byteorder.specs.Numbers.{big_number-reads_back, length-bytes_high_first}
use Rattle.sha2.specs.Sha256.{sha256}
use Rattle.sha2.proofs.Facts256.{length-sha256}
use Rattle.files_logs.specs.declared.item.Item.{Item}
use Rattle.files_logs.specs.Sums.{block_sum}
use Rattle.files_logs.specs.Items.{items_bytes, IsItem}
use Rattle.files_logs.specs.Blocks.{size_bytes, block_bytes, IsSayable}
use Rattle.files_logs.specs.Log.{end_bytes}
use Rattle.files_logs.specs.Front.{Front, whole, torn, ending, damaged, is_size, has_block, unsized, front_behind, end_behind, front_of}
use Rattle.files_logs.proofs.Sizes.{drop_number, number_length, block_sum_fits, size_length, sized_length, behind_size, size_read, is_right, block_length, block_apart}

-- ---- what it is, case by case

pub front_short : (before : ℕ) (bytes : List ℕ) → length bytes < 8 → front_of before bytes ≡ torn
unfolding front_of
front_short before bytes few =
    let short : ltb (length bytes) 8 ≡ true = lt-ltb _ _ few in
    rw short refl

front_unsized : (before : ℕ) (bytes : List ℕ) → 8 ≤ length bytes → is_size before bytes ≡ false → front_of before bytes ≡ unsized bytes
unfolding front_of
front_unsized before bytes many wrong =
    let long : ltb (length bytes) 8 ≡ false = le-ltb _ _ many in
    rw (long, wrong) refl

unsized_torn : (bytes : List ℕ) → length bytes ≤ 16_777_232 → has_block (drop 8 bytes) ≡ false → unsized bytes ≡ torn
unfolding unsized
unsized_torn bytes few none =
    let tail : ltb 16_777_232 (length bytes) ≡ false = le-ltb _ _ few in
    rw (tail, none) refl

unsized_long : (bytes : List ℕ) → 16_777_232 < length bytes → unsized bytes ≡ damaged
unfolding unsized
unsized_long bytes past =
    let tail : ltb 16_777_232 (length bytes) ≡ true = lt-ltb _ _ past in
    rw tail refl

unsized_spoilt : (bytes : List ℕ) → length bytes ≤ 16_777_232 → has_block (drop 8 bytes) ≡ true → unsized bytes ≡ damaged
unfolding unsized
unsized_spoilt bytes few some =
    let tail : ltb 16_777_232 (length bytes) ≡ false = le-ltb _ _ few in
    rw (tail, some) refl

pub front_wrong : (before : ℕ) (bytes : List ℕ) → 8 ≤ length bytes → is_size before bytes ≡ false → length bytes ≤ 16_777_232 → has_block (drop 8 bytes) ≡ false → front_of before bytes ≡ torn
front_wrong before bytes many wrong few none = front_unsized before bytes many wrong ∙ unsized_torn bytes few none

pub front_damaged : (before : ℕ) (bytes : List ℕ) → 8 ≤ length bytes → is_size before bytes ≡ false → 16_777_232 < length bytes → front_of before bytes ≡ damaged
front_damaged before bytes many wrong past = front_unsized before bytes many wrong ∙ unsized_long bytes past

pub front_spoilt : (before : ℕ) (bytes : List ℕ) → 8 ≤ length bytes → is_size before bytes ≡ false → has_block (drop 8 bytes) ≡ true → front_of before bytes ≡ damaged
front_spoilt before bytes many wrong some = elim (cases_lt 16_777_232 (length bytes)) [
  | inl past ↦ front_damaged before bytes many wrong past
  | inr few ↦ front_unsized before bytes many wrong ∙ unsized_spoilt bytes few some
]

pub front_end : (before : ℕ) (bytes : List ℕ) → 8 ≤ length bytes → is_size before bytes ≡ true → big_number 4 bytes ≡ 0 → front_of before bytes ≡ end_behind (drop 8 bytes)
unfolding front_of
front_end before bytes many fits none =
    let long : ltb (length bytes) 8 ≡ false = le-ltb _ _ many in
    let zero_size : eqb (big_number 4 bytes) 0 ≡ true = eq-eqb _ _ none in
    rw (long, fits, zero_size) refl

pub front_sized : (before size : ℕ) (bytes : List ℕ) → 8 ≤ length bytes → is_size before bytes ≡ true → big_number 4 bytes ≡ size → 0 < size
    → front_of before bytes ≡ front_behind before size (drop 8 bytes)
unfolding front_of
front_sized before size bytes many fits e some =
    let long : ltb (length bytes) 8 ≡ false = le-ltb _ _ many in
    let block : eqb (big_number 4 bytes) 0 ≡ false = ne_eqb _ _ (λ z. absurd (omega (arith, some, e, z))) in
    let test : front_of before bytes ≡ front_behind before (big_number 4 bytes) (drop 8 bytes) = rw (long, fits, block) refl in
    test ∙ ap (λ (n : ℕ). front_behind before n (drop 8 bytes)) e

pub end_short : (bytes : List ℕ) → length bytes < 32 → end_behind bytes ≡ torn
unfolding end_behind
end_short bytes few =
    let short : ltb (length bytes) 32 ≡ true = lt-ltb _ _ few in
    rw short refl

pub end_long : (bytes : List ℕ) → 32 ≤ length bytes → end_behind bytes ≡ ending bytes
unfolding end_behind
end_long bytes many =
    let long : ltb (length bytes) 32 ≡ false = le-ltb _ _ many in
    rw long refl

pub block_short : (before size : ℕ) (bytes : List ℕ) → length bytes < size + 8 → front_behind before size bytes ≡ torn
unfolding front_behind
block_short before size bytes few =
    let short : ltb (length bytes) (size + 8) ≡ true = lt-ltb _ _ few in
    rw short refl

pub block_good : (before size : ℕ) (bytes : List ℕ) → size + 8 ≤ length bytes → big_number 8 (drop size bytes) ≡ block_sum before (take size bytes)
    → front_behind before size bytes ≡ whole (take size bytes) (drop (size + 8) bytes)
unfolding front_behind
block_good before size bytes many e =
    let long : ltb (length bytes) (size + 8) ≡ false = le-ltb _ _ many in
    let same : eqb (big_number 8 (drop size bytes)) (block_sum before (take size bytes)) ≡ true = eq-eqb _ _ e in
    rw (long, same) refl

pub block_last : (before size : ℕ) (bytes : List ℕ) → length bytes ≡ size + 8 → big_number 8 (drop size bytes) ≢ block_sum before (take size bytes) → front_behind before size bytes ≡ torn
unfolding front_behind
block_last before size bytes all apart =
    let long : ltb (length bytes) (size + 8) ≡ false = le-ltb _ _ (omega arith) in
    let other : eqb (big_number 8 (drop size bytes)) (block_sum before (take size bytes)) ≡ false = ne_eqb _ _ apart in
    let last : eqb (length bytes) (size + 8) ≡ true = eq-eqb _ _ all in
    rw (long, other, last) refl

pub block_bad : (before size : ℕ) (bytes : List ℕ) → size + 8 < length bytes → big_number 8 (drop size bytes) ≢ block_sum before (take size bytes) → front_behind before size bytes ≡ damaged
unfolding front_behind
block_bad before size bytes past apart =
    let long : ltb (length bytes) (size + 8) ≡ false = le-ltb _ _ (omega arith) in
    let other : eqb (big_number 8 (drop size bytes)) (block_sum before (take size bytes)) ≡ false = ne_eqb _ _ apart in
    let more : eqb (length bytes) (size + 8) ≡ false = ne_eqb _ _ (λ z. absurd (omega (arith, past, z))) in
    rw (long, other, more) refl

-- ---- behind a size that is spelled

pub spelled_size : (before size : ℕ) (rest : List ℕ) → 0 < size → size ≤ 16_777_216 → front_of before (size_bytes before size ++ rest) ≡ front_behind before size rest
spelled_size before size rest some few =
    front_sized before size (size_bytes before size ++ rest) (omega (arith, sized_length before size rest)) (is_right before size rest few) (size_read before size rest (omega arith)) some
    ∙ ap (λ (b : List ℕ). front_behind before size b) (behind_size before size rest)

pub spelled_end : (before : ℕ) (rest : List ℕ) → front_of before (size_bytes before 0 ++ rest) ≡ end_behind rest
spelled_end before rest =
    let few : 0 ≤ 16_777_216 = omega arith in
    front_end before (size_bytes before 0 ++ rest) (omega (arith, sized_length before 0 rest)) (is_right before 0 rest few) (size_read before 0 rest (lit< tt))
    ∙ ap end_behind (behind_size before 0 rest)

-- ---- a block

behind_said : (before : ℕ) (said rest : List ℕ) → front_behind before (length said) (said ++ (big_bytes 8 (block_sum before said) ++ rest)) ≡ whole said rest
behind_said before said rest =
    let sum = big_bytes 8 (block_sum before said) in
    let all = said ++ (sum ++ rest) in
    let many : length said + 8 ≤ length all = omega (arith, length-append said (sum ++ rest), number_length 8 (block_sum before said) rest) in
    let front : take (length said) all ≡ said = take-append_seam said (sum ++ rest) in
    let back : drop (length said) all ≡ sum ++ rest = drop-append_seam said (sum ++ rest) in
    let after : drop (length said + 8) all ≡ rest = drop-append-add said (sum ++ rest) 8 ∙ drop_number 8 (block_sum before said) rest in
    let read : big_number 8 (drop (length said) all) ≡ block_sum before said =
    ap (λ (b : List ℕ). big_number 8 b) back ∙ big_number-reads_back 8 (block_sum before said) rest (block_sum_fits before said) in
    block_good before (length said) all many (read ∙ ap (λ (b : List ℕ). block_sum before b) (sym front))
    ∙ ap (λ (b : List ℕ). whole b (drop (length said + 8) all)) front ∙ ap (λ (b : List ℕ). whole said b) after

-- a block is whole, whatever is behind it
pub block_front : (before : ℕ) (said rest : List ℕ) → IsSayable said → front_of before (block_bytes before said ++ rest) ≡ whole said rest
block_front before said rest h =
    ap (λ (b : List ℕ). front_of before b) (block_apart before said rest)
    ∙ spelled_size before (length said) (said ++ (big_bytes 8 (block_sum before said) ++ rest)) h.some h.not_too_long
    ∙ behind_said before said rest

-- behind the size of a block that is cut
cut_behind : (before size n : ℕ) (bytes : List ℕ) → 8 ≤ n → take n (size_bytes before size ++ bytes) ≡ size_bytes before size ++ take (n - 8) bytes
cut_behind before size n bytes many =
    let same : n ≡ length (size_bytes before size) + (n - 8) = omega (arith, size_length before size) in
    ap (λ (k : ℕ). take k (size_bytes before size ++ bytes)) same ∙ take-append-add (size_bytes before size) bytes (n - 8)

taken_few : (n : ℕ) (bytes : List ℕ) → length (take n bytes) ≤ n
taken_few n bytes = omega (arith, length-take n bytes)

-- a block that isn't whole
pub block_cut : (before n : ℕ) (said : List ℕ) → IsSayable said → n < 8 + (length said + 8) → front_of before (take n (block_bytes before said)) ≡ torn
block_cut before n said h cut = elim (cases_lt n 8) [
  | inl short ↦ front_short before (take n (block_bytes before said)) (omega (arith, taken_few n (block_bytes before said)))
  | inr long ↦
      let behind = said ++ big_bytes 8 (block_sum before said) in
      ap (λ (b : List ℕ). front_of before b) (cut_behind before (length said) n behind long)
      ∙ spelled_size before (length said) (take (n - 8) behind) h.some h.not_too_long
      ∙ block_short before (length said) (take (n - 8) behind) (omega (arith, taken_few (n - 8) behind))
]

-- an end that isn't whole
pub end_cut : (before n : ℕ) (all : List ℕ) → n < 40 → front_of before (take n (end_bytes before all)) ≡ torn
end_cut before n all cut = elim (cases_lt n 8) [
  | inl short ↦ front_short before (take n (end_bytes before all)) (omega (arith, taken_few n (end_bytes before all)))
  | inr long ↦
      let digest = sha256 (all ++ size_bytes before 0) in
      ap (λ (b : List ℕ). front_of before b) (cut_behind before 0 n digest long)
      ∙ spelled_end before (take (n - 8) digest) ∙ end_short (take (n - 8) digest) (omega (arith, taken_few (n - 8) digest))
]

-- and one that is
pub end_front : (before : ℕ) (all : List ℕ) → front_of before (end_bytes before all) ≡ ending (sha256 (all ++ size_bytes before 0))
end_front before all =
    let digest = sha256 (all ++ size_bytes before 0) in
    spelled_end before digest ∙ end_long digest (omega (arith, length-sha256 (all ++ size_bytes before 0)))
