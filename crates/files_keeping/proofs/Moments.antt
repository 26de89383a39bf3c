-- How the moments of several calls follow each other.
use Rattle.std.proofs.Common.{◌≡◌, ◌⊎◌, inl, inr, ⊎_elim, ℕ, ◌≤◌, List, arith}
use Rattle.files_keeping.specs.Disk.{Passes, LeavesOnly}

module _ {D : Type 0} (moment : D → ℕ) (Left : D → ℕ → List ℕ → Type 0) where
  -- before the first call there is one moment
  pub begins : (device : D) (Now IsSo : List ℕ → Type 0) → ((left : List ℕ) → Left device (moment device) left → Now left) → ((left : List ℕ) → Now left → IsSo left) → LeavesOnly moment Left device device IsSo
  begins device Now IsSo alone here = record {
    later = omega arith;
    each = λ left since. here left (alone left since);
    earlier = λ t left le since. inl since;
  }

  -- one call more
  pub goes_on : (old mid new : D) (IsSo Now : List ℕ → Type 0) → LeavesOnly moment Left old mid IsSo → Passes (moment mid) (moment new) (Left mid) (Left new) Now → ((left : List ℕ) → Now left → IsSo left) → LeavesOnly moment Left old new IsSo
  goes_on old mid new IsSo Now so_far time here = record {
    later = omega (arith, so_far.later, time.later);
    each = λ left since. ⊎_elim (so_far.each left) (here left) (time.no_other (moment old) left so_far.later since);
    earlier = λ t left le since. ⊎_elim (so_far.earlier t left le) (λ now. inr (here left now)) (time.no_other t left (omega (arith, le, so_far.later)) since);
  }

  -- what is so is so in another way
  pub weaker : (old new : D) (IsSo IsAlso : List ℕ → Type 0) → LeavesOnly moment Left old new IsSo → ((left : List ℕ) → IsSo left → IsAlso left) → LeavesOnly moment Left old new IsAlso
  weaker old new IsSo IsAlso so also = record {
    later = so.later;
    each = λ left since. also left (so.each left since);
    earlier = λ t left le since. ⊎_elim (λ before. inl before) (λ is. inr (also left is)) (so.earlier t left le since);
  }

  -- one run of calls behind another
  pub joined : (old mid new : D) (First Second IsSo : List ℕ → Type 0) → LeavesOnly moment Left old mid First → LeavesOnly moment Left mid new Second → ((left : List ℕ) → First left → IsSo left) → ((left : List ℕ) → Second left → IsSo left) → LeavesOnly moment Left old new IsSo
  joined old mid new First Second IsSo first second of_first of_second = record {
    later = omega (arith, first.later, second.later);
    each = λ left since. ⊎_elim (λ before. of_first left (first.each left before)) (of_second left) (second.earlier (moment old) left first.later since);
    earlier = λ t left le since. ⊎_elim (λ before. ⊎_elim (λ past. inl past) (λ is. inr (of_first left is)) (first.earlier t left le before)) (λ is. inr (of_second left is)) (second.earlier t left (omega (arith, le, first.later)) since);
  }
