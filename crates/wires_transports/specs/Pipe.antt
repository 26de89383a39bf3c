-- Bytes on their way in one direction.
use Rattle.std.specs.Prelude.{Bool, not, ◌&&◌, nat_eq, ℕ, List, length}

-- the bytes that were sent and not yet taken, oldest first, and whether no more come
pub record Pipe : Type 0 where
  pub bytes : List ℕ
  pub ended : Bool

-- whether a reader has to wait: there are no bytes, and more may come
abbrev pub must_wait : Pipe → Bool
must_wait p = nat_eq (length p.bytes) 0 && not p.ended
