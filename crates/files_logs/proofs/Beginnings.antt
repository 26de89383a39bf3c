-- Blocks and ends that begin behind the sum of another block.
use Rattle.std.proofs.Common.{◌≡◌, ℕ, ◌^◌, ◌<◌, ◌≤◌, Bool, true, false, ◌||◌, ltb, List, [], ◌∷◌, ◌++◌, length, drop, refl, sym, ap, ap₂, ◌∙◌, arith}
use Rattle.std.proofs.lemmas.Bool.{lt-ltb, le-ltb}
use Rattle.std.proofs.lemmas.List.{length-append, drop_at}
use Rattle.byteorder.specs.Endian.{big_bytes, big_number}
use Rattle.byteorder.specs.Numbers.{big_number-reads_back}
use Rattle.files_logs.specs.Blocks.{size_bytes}
use Rattle.files_logs.specs.Front.{is_size, begins_block, has_block, damaged, front_of}
use Rattle.files_logs.proofs.Sizes.{drop_number, number_length, sized_length, is_right}
use Rattle.files_logs.proofs.Fronts.{front_spoilt}

-- ---- at the front of bytes

-- too few bytes
pub none_begins : (bytes : List ℕ) → length bytes < 16 → false ≡ begins_block bytes
unfolding begins_block
none_begins bytes few =
    let short : ltb (length bytes) 16 ≡ true = lt-ltb _ _ few in
    rw short refl

-- a size with its check, or none, behind a sum
pub some_begins : (sum : ℕ) (bytes behind : List ℕ) → 16 ≤ length bytes → sum ≡ big_number 8 bytes → behind ≡ drop 8 bytes → is_size sum behind ≡ begins_block bytes
unfolding begins_block
some_begins sum bytes behind many s b =
    let long : ltb (length bytes) 16 ≡ false = le-ltb _ _ many in
    let same : is_size (big_number 8 bytes) (drop 8 bytes) ≡ is_size sum behind = ap₂ (λ (n : ℕ) (l : List ℕ). is_size n l) (sym s) (sym b) in
    rw (long, same) refl

-- the sum of a block, with a size and its check behind it
next_begins : (sum next : ℕ) (behind : List ℕ) → sum < 2 ^ 64 → next ≤ 16_777_216 → begins_block (big_bytes 8 sum ++ (size_bytes sum next ++ behind)) ≡ true
next_begins sum next behind fits few =
    let sized = size_bytes sum next ++ behind in
    let many : 16 ≤ length (big_bytes 8 sum ++ sized) = omega (arith, number_length 8 sum sized, sized_length sum next behind) in
    sym (some_begins sum (big_bytes 8 sum ++ sized) sized many (sym (big_number-reads_back 8 sum sized fits)) (sym (drop_number 8 sum sized))) ∙ is_right sum next behind few

-- ---- somewhere among bytes

none_there : begins_block [] ≡ true → false ≡ true
unfolding begins_block
none_there here = here

pub first_block : (bytes : List ℕ) → begins_block bytes ≡ true → has_block bytes ≡ true
first_block [] here = none_there here
first_block (byte ∷ bytes) here = ap (λ (b : Bool). b || has_block bytes) here

pub later_block : (bytes : List ℕ) → begins_block bytes ≡ false → has_block (drop 1 bytes) ≡ has_block bytes
later_block [] other = refl
later_block (byte ∷ bytes) other = sym (ap (λ (b : Bool). b || has_block bytes) other)

or_true : (a : Bool) → (a || true) ≡ true
or_true true = refl
or_true false = refl

behind_others : (front bytes : List ℕ) → has_block bytes ≡ true → has_block (front ++ bytes) ≡ true
behind_others [] bytes some = some
behind_others (byte ∷ front) bytes some =
    let first = begins_block (byte ∷ (front ++ bytes)) in
    ap (λ (b : Bool). first || b) (behind_others front bytes some) ∙ or_true first

-- ---- behind what isn't a size

-- there is one where a size isn't right, and the rest of its block is there with more behind it
has_next : (tail size said behind : List ℕ) (sum next : ℕ) → tail ≡ size ++ (said ++ (big_bytes 8 sum ++ (size_bytes sum next ++ behind))) → length size ≡ 8 → sum < 2 ^ 64 → next ≤ 16_777_216
    → has_block (drop 8 tail) ≡ true
has_next tail size said behind sum next e eight fits few =
    let after = big_bytes 8 sum ++ (size_bytes sum next ++ behind) in
    ap (λ (b : List ℕ). has_block (drop 8 b)) e ∙ ap has_block (drop_at size (said ++ after) 8 eight)
    ∙ behind_others said after (first_block after (next_begins sum next behind fits few))

pub size_spoilt : (before : ℕ) (tail size said behind : List ℕ) (sum next : ℕ) → is_size before tail ≡ false → tail ≡ size ++ (said ++ (big_bytes 8 sum ++ (size_bytes sum next ++ behind)))
    → length size ≡ 8 → sum < 2 ^ 64 → next ≤ 16_777_216 → front_of before tail ≡ damaged
size_spoilt before tail size said behind sum next wrong e eight fits few =
    let after = said ++ (big_bytes 8 sum ++ (size_bytes sum next ++ behind)) in
    let many : 8 ≤ length tail = omega (arith, ap length e, length-append size after, eight) in
    front_spoilt before tail many wrong (has_next tail size said behind sum next e eight fits few)
