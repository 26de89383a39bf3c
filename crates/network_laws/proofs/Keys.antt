-- Turns as numbers: by tag, then by rank.
use Rattle.std.proofs.Common.{◌≡◌, ℕ, ◌+◌, ◌*◌, ◌^◌, ◌<◌, ◌↔◌, ◌&&◌, ◌||◌, IsTrue, arith}
use Rattle.network.specs.Undivided.{comes_before}
use Rattle.std.specs.Prelude.{nat_lt}
use Rattle.std.proofs.lemmas.Bool.Decides.{nat_tests}
use Rattle.tag.specs.LogicalTime.{LogicalTime, IsFinite, is_before, is_same, place}
use Rattle.network.specs.Network.{Network}
use Rattle.network.specs.Lawful.{IsLawful}

-- the number of a reactor's turn at a tag
abbrev pub key : Network → ℕ → LogicalTime → ℕ
key n reactor tag = place tag * 64 + n.rank reactor

numbers_before : (g h : LogicalTime) (r s : ℕ) → g.microstep < 2 ^ 32 → h.microstep < 2 ^ 32 → r < 64 → s < 64 → IsTrue (is_before g h || (is_same g h && nat_lt r s)) ↔ (place g * 64 + r < place h * 64 + s)
unfolding place
numbers_before g h r s a b c d = grind (arith, nat_tests)

pub low_rank : (n : Network) → IsLawful n → (i : ℕ) → i < n.reactors → n.rank i < 64
low_rank n L i h = omega (arith, L.ranks i h, L.few_reactors)

pub key-before : (n : Network) → IsLawful n → (i j : ℕ) (g h : LogicalTime) → i < n.reactors → j < n.reactors → IsFinite g → IsFinite h → IsTrue (comes_before n.rank i g j h) ↔ (key n i g < key n j h)
key-before n L i j g h a b p q = numbers_before g h (n.rank i) (n.rank j) p.microstep q.microstep (low_rank n L i a) (low_rank n L j b)

-- one turn has one number
same_tag : (g h : LogicalTime) (r s : ℕ) → g.microstep < 2 ^ 32 → h.microstep < 2 ^ 32 → r < 64 → s < 64 → place g * 64 + r ≡ place h * 64 + s → (g ≡ h) × (r ≡ s)
unfolding place
same_tag g h r s a b c d e = grind arith

pub key_injective : (n : Network) → IsLawful n → (i j : ℕ) (g h : LogicalTime) → i < n.reactors → j < n.reactors → IsFinite g → IsFinite h → key n i g ≡ key n j h → (i ≡ j) × (g ≡ h)
key_injective n L i j g h a b p q e =
    let both = same_tag g h (n.rank i) (n.rank j) p.microstep q.microstep (low_rank n L i a) (low_rank n L j b) e in
    (L.ranks_apart i j a b both.1, both.0)
