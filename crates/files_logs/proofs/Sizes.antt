-- Numbers and sizes at the front of bytes.
use Rattle.std.proofs.Common.{◌≡◌, ℕ, ◌+◌, ◌^◌, ◌<◌, ◌≤◌, true, false, not, ◌&&◌, eqb, ltb, List, ◌++◌, length, drop, refl, sym, ap, ◌∙◌, append_assoc, arith, lit<, mod-lt}
use Rattle.std.proofs.lemmas.Bool.{le-ltb, eq-eqb}
use Rattle.std.proofs.lemmas.List.{drop_at, length-append}
use Rattle.byteorder.specs.Endian.{big_bytes, big_number}
use Rattle.byteorder.specs.Numbers.{big_number-reads_back, length-bytes_high_first}
use Rattle.files_logs.specs.Sums.{sum_of, size_check, block_sum}
use Rattle.files_logs.specs.Blocks.{size_bytes, block_bytes}
use Rattle.files_logs.specs.Front.{is_size}

-- ---- sums have room in their bytes

pub sum_fits : (bytes : List ℕ) → sum_of bytes < 2 ^ 64
unfolding sum_of
sum_fits bytes = mod-lt _ (lit< tt)

pub check_fits : (before size : ℕ) → size_check before size < 2 ^ 32
unfolding size_check
check_fits before size = mod-lt _ (lit< tt)

pub block_sum_fits : (before : ℕ) (said : List ℕ) → block_sum before said < 2 ^ 64
unfolding block_sum
block_sum_fits before said = sum_fits (big_bytes 8 before ++ (big_bytes 4 (length said) ++ said))

-- ---- a number, and what is behind it

pub drop_number : (n x : ℕ) (rest : List ℕ) → drop n (big_bytes n x ++ rest) ≡ rest
drop_number n x rest = drop_at (big_bytes n x) rest n (length-bytes_high_first n x)

pub number_length : (n x : ℕ) (rest : List ℕ) → length (big_bytes n x ++ rest) ≡ n + length rest
number_length n x rest = omega (arith, length-append (big_bytes n x) rest, length-bytes_high_first n x)

-- ---- a size with its check

pub size_length : (before size : ℕ) → length (size_bytes before size) ≡ 8
size_length before size =
    omega (arith, length-append (big_bytes 4 size) (big_bytes 4 (size_check before size)), length-bytes_high_first 4 size, length-bytes_high_first 4 (size_check before size))

pub sized_length : (before size : ℕ) (rest : List ℕ) → length (size_bytes before size ++ rest) ≡ 8 + length rest
sized_length before size rest = omega (arith, length-append (size_bytes before size) rest, size_length before size)

pub behind_size : (before size : ℕ) (rest : List ℕ) → drop 8 (size_bytes before size ++ rest) ≡ rest
behind_size before size rest = drop_at (size_bytes before size) rest 8 (size_length before size)

pub size_read : (before size : ℕ) (rest : List ℕ) → size < 2 ^ 32 → big_number 4 (size_bytes before size ++ rest) ≡ size
size_read before size rest fits =
    ap (λ (b : List ℕ). big_number 4 b) (append_assoc (big_bytes 4 size) (big_bytes 4 (size_check before size)) rest)
    ∙ big_number-reads_back 4 size (big_bytes 4 (size_check before size) ++ rest) fits

check_read : (before size : ℕ) (rest : List ℕ) → big_number 4 (drop 4 (size_bytes before size ++ rest)) ≡ size_check before size
check_read before size rest =
    ap (λ (b : List ℕ). big_number 4 (drop 4 b)) (append_assoc (big_bytes 4 size) (big_bytes 4 (size_check before size)) rest)
    ∙ ap (λ (b : List ℕ). big_number 4 b) (drop_number 4 size (big_bytes 4 (size_check before size) ++ rest))
    ∙ big_number-reads_back 4 (size_check before size) rest (check_fits before size)

-- a size that is small enough, with its check behind it
right : (before size found check : ℕ) → found ≡ size → check ≡ size_check before size → size ≤ 16_777_216 → (not (ltb 16_777_216 found) && eqb check (size_check before found)) ≡ true
right before size found check a b few =
    let small : ltb 16_777_216 size ≡ false = le-ltb _ _ few in
    let same : eqb check (size_check before size) ≡ true = eq-eqb _ _ b in
    rw (a, small, same) refl

pub is_right : (before size : ℕ) (rest : List ℕ) → size ≤ 16_777_216 → is_size before (size_bytes before size ++ rest) ≡ true
unfolding is_size
is_right before size rest few =
    right before size (big_number 4 (size_bytes before size ++ rest)) (big_number 4 (drop 4 (size_bytes before size ++ rest)))
    (size_read before size rest (omega arith)) (check_read before size rest) few

-- ---- a block

pub block_length : (before : ℕ) (said : List ℕ) → length (block_bytes before said) ≡ 8 + (length said + 8)
block_length before said =
    omega (
      arith,
      sized_length before (length said) (said ++ big_bytes 8 (block_sum before said)),
      length-append said (big_bytes 8 (block_sum before said)),
      length-bytes_high_first 8 (block_sum before said),
    )

-- with something behind it
pub block_apart : (before : ℕ) (said rest : List ℕ)
    → block_bytes before said ++ rest ≡ size_bytes before (length said) ++ (said ++ (big_bytes 8 (block_sum before said) ++ rest))
block_apart before said rest =
    append_assoc (size_bytes before (length said)) (said ++ big_bytes 8 (block_sum before said)) rest
    ∙ ap (λ (b : List ℕ). size_bytes before (length said) ++ b) (append_assoc said (big_bytes 8 (block_sum before said)) rest)
