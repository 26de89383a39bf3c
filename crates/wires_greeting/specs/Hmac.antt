-- HMAC-SHA-256 on lists of bytes, as RFC 2104 has it over SHA-256.
use Rattle.std.specs.Prelude.{ℕ, ◌-◌, List, ◌++◌, length, map, replicate, bit_xor, nat_lt, if◌then◌else◌}
use Rattle.sha2.specs.Sha256.{sha256}
use Rattle.wires_greeting.specs.declared.hmac.TheConstants.{BLOCK_SIZE, INNER_PAD, OUTER_PAD}

-- filled up with zeros to a block
abbrev pub filled : List ℕ → List ℕ
filled key = key ++ replicate (BLOCK_SIZE - length key) 0

-- a key in a block's bytes: hashed where it is longer, and filled up with zeros
abbrev pub key_block : List ℕ → List ℕ
key_block key = filled (if nat_lt BLOCK_SIZE (length key) then sha256 key else key)

-- a block with each byte changed by a pad
abbrev pub padded : ℕ → List ℕ → List ℕ
padded pad block = map (λ byte. bit_xor byte pad) block

-- HMAC-SHA-256 of a message by the block of a key
abbrev pub hmac_by : List ℕ → List ℕ → List ℕ
hmac_by block message = sha256 (padded OUTER_PAD block ++ sha256 (padded INNER_PAD block ++ message))

-- HMAC-SHA-256 of a message by a key
abbrev pub hmac : List ℕ → List ℕ → List ℕ
hmac key message = hmac_by (key_block key) message
