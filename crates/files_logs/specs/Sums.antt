-- Sums of bytes: SipHash-1-3 with both keys 0. A sum finds what chance does to bytes, and no forgery.
use Rattle.std.specs.Prelude.{ℕ, ◌%◌, ◌^◌, List, ◌++◌, length}
use Rattle.std.specs.Hash.DefaultHasher as sip
use Rattle.byteorder.specs.Endian.{big_bytes}

-- the sum of some bytes, a number of eight bytes
unfoldable pub sum_of : List ℕ → ℕ
sum_of bytes = sip.finish (sip.write sip.initial bytes) % 2 ^ 64

-- the check of a size that stands behind this sum: four bytes of the sum of both
unfoldable pub size_check : ℕ → ℕ → ℕ
size_check before size = sum_of (big_bytes 8 before ++ big_bytes 4 size) % 2 ^ 32

-- the sum of a block that says this, behind this sum: that of the earlier sum, its size, and what it says
unfoldable pub block_sum : ℕ → List ℕ → ℕ
block_sum before said = sum_of (big_bytes 8 before ++ (big_bytes 4 (length said) ++ said))
