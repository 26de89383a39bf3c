-- What is left of files that are cut and appended to.
use Rattle.std.proofs.Common.{◌≡◌, ℕ, ◌≤◌, min, List, [], ◌++◌, length, sym, ◌∙◌, ap, subst, arith}
use Rattle.std.proofs.lemmas.List.{append-nil}
use Rattle.files_keeping.specs.Disk.{IsFrontOf, HasTail, IsCut, LeavesJust}

pub front_of_itself : (bytes : List ℕ) → IsFrontOf bytes bytes
front_of_itself bytes = ([], sym (append-nil bytes))

-- what isn't cut yet
pub not_cut : (n : ℕ) (bytes : List ℕ) → IsCut n bytes bytes
not_cut n bytes = record { front = front_of_itself bytes; no_shorter = omega arith }

-- before anything is appended
pub no_tail : (Tears : List ℕ → List ℕ → Type 0) (bytes appended left : List ℕ) → Tears appended [] → left ≡ bytes → HasTail Tears bytes appended left
no_tail Tears bytes appended left none is = ([], is ∙ sym (append-nil bytes), none)

-- behind what was left, which were these bytes
pub tail_behind : (Tears : List ℕ → List ℕ → Type 0) (bytes appended was left : List ℕ) → was ≡ bytes → HasTail Tears was appended left → HasTail Tears bytes appended left
tail_behind Tears bytes appended was left is tail = (tail.0, tail.1 ∙ ap (λ (l : List ℕ). l ++ tail.0) is, tail.2)
