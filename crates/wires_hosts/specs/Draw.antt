-- What is drawn at random.
use Rattle.std.specs.Prelude.{ℕ, List, ◌%◌, nat_eq, if◌then◌else◌, Option, None, Some}
use Rattle.std.specs.Int.{w64, from_be_bytes}

-- the place among so many that these random bytes draw: each of them is as good as fair, since 2^64 is so much more;
-- none among none
abbrev pub drawn : (bytes : List ℕ) (count : ℕ) → Option ℕ
drawn bytes count = if nat_eq count 0 then None else Some (from_be_bytes w64 bytes % count)
