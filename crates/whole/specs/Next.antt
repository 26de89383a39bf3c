-- Of each federate the tag of its next event, and which of them comes first. `renewed` and what stands below it are for
-- proofs about `nexts`: how it keeps the first of each block.
use Rattle.std.specs.Prelude.{◌≡◌, ℕ, ◌<◌, ◌≤◌, ◌+◌, ◌*◌, Bool, false, ◌&&◌, ◌||◌, nat_lt, if◌then◌else◌, List, length}
use Rattle.std.specs.Prelude.{slice_get, Some}
use Rattle.tag.specs.LogicalTime.{is_before, is_same}
use Rattle.reactor_agenda.specs.Agenda.{Agenda}
use Rattle.whole.specs.declared.nexts.Next.{Next}
use Rattle.whole.specs.Construction.{least_on}

-- the first is before the second: by tag, then by rank
abbrev pub is_earlier : Next → Next → Bool
is_earlier a b = is_before a.tag b.tag || (is_same a.tag b.tag && nat_lt a.rank b.rank)

-- the one at this place is there, and none before `count` is earlier
pub record IsFirstAt (nexts : List Next) (count place : ℕ) : Type 0 where
  pub there : place < length nexts
  pub first : (other : ℕ) (a b : Next) → other < count → slice_get nexts other ≡ Some a → slice_get nexts place ≡ Some b
      → is_earlier a b ≡ false

-- for the loops of `nexts`: with the least tag of the federate's agenda, if the test passes
abbrev pub renewed : List Agenda → Bool → ℕ → Next → Next
renewed agendas test federate next =
    if test then record {
      federate = next.federate;
      tag = least_on (slice_get agendas federate);
      rank = next.rank;
    } else next

-- this one stands from one place on and before another, and none that stands there is earlier
pub record IsFirstAmong (nexts : List Next) (low high : ℕ) (next : Next) : Type 0 where
  pub place : ℕ
  pub not_below : low ≤ place
  pub below : place < high
  pub there : slice_get nexts place ≡ Some next
  pub first : (other : ℕ) (a : Next) → low ≤ other → other < high → slice_get nexts other ≡ Some a
      → is_earlier a next ≡ false

-- the first one of each block, of all of them. The 8 is `BLOCK` of `nexts`
pub record AreFirsts (nexts firsts : List Next) : Type 0 where
  pub cover : length nexts ≤ length firsts * 8
  pub each : (block : ℕ) (first : Next) → slice_get firsts block ≡ Some first
      → IsFirstAmong nexts (block * 8) (block * 8 + 8) first
