-- Runs that are computed: after each move the first members are written out, so that what follows reads them off.
use Rattle.std.proofs.Common.{◌≡◌, ℕ, zero, suc, ◌+◌, List, [], ◌∷◌, length, refl, sym, ap, ◌∙◌, arith, Option, None, Some}
use Rattle.std.specs.Prelude.{slice_get}
use Rattle.std.proofs.Math.Path.{fun_ext}
use Rattle.network.specs.Network.{Network}
use Rattle.protocol.specs.Outcome.{made_or}
use Rattle.protocol.specs.Grant.{Rule}
use Rattle.protocol.specs.Machine.{Member, Move, initial_member, outcome_of, after_moves}

-- the first members from `first` on
abbrev pub written_from : (ℕ → Member) → ℕ → ℕ → List Member
written_from members first zero = []
written_from members first (suc count) = members first ∷ written_from members (first + 1) count

abbrev pub read_or : Option Member → (ℕ → Member) → ℕ → Member
read_or None members j = members j
read_or (Some m) members j = m

-- those that were written out, and the others as they are
abbrev pub read_from : List Member → (ℕ → Member) → ℕ → Member
read_from written members j = read_or (slice_get written j) members j

abbrev pub after_one : ℕ → Network → Rule → Move → (ℕ → Member) → ℕ → Member
after_one count n rule move members = made_or members (outcome_of n rule members move)

abbrev pub frozen : ℕ → (ℕ → Member) → ℕ → Member
frozen count members = read_from (written_from members 0 count) members

abbrev pub frozen_moves : ℕ → Network → (ℕ → Rule) → List Move → ℕ → Member
frozen_moves count n rules [] = initial_member n
frozen_moves count n rules (move ∷ earlier) = frozen count (after_one count n (rules (length earlier)) move (frozen_moves count n rules earlier))

written_at : (members : ℕ → Member) (first count j : ℕ) (others : ℕ → Member) → (k : ℕ) → k ≡ first + j → others k ≡ members k → read_or (slice_get (written_from members first count) j) others k ≡ members k
written_at members first zero j others k e o = o
written_at members first (suc count) zero others k e o = ap members (let f : first ≡ k = omega arith in f)
written_at members first (suc count) (suc j) others k e o = written_at members (first + 1) count j others k (omega arith) o

pub frozen_is : (count : ℕ) (members : ℕ → Member) → frozen count members ≡ members
frozen_is count members = fun_ext (λ j. written_at members 0 count j members j (omega arith) refl)

pub frozen_run : (count : ℕ) (n : Network) (rules : ℕ → Rule) (moves : List Move) → frozen_moves count n rules moves ≡ after_moves n rules moves
frozen_run count n rules [] = refl
frozen_run count n rules (move ∷ earlier) =
    frozen_is count (after_one count n (rules (length earlier)) move (frozen_moves count n rules earlier)) ∙
    ap (after_one count n (rules (length earlier)) move) (frozen_run count n rules earlier)

-- what a run gives, read off the frozen one
pub frozen_gives : {A : Type 0} (count : ℕ) (n : Network) (rules : ℕ → Rule) (moves : List Move) (f : (ℕ → Member) → A) → f (after_moves n rules moves) ≡ f (frozen_moves count n rules moves)
frozen_gives count n rules moves f = ap f (sym (frozen_run count n rules moves))
