-- What a file is read as that a stop leaves.
use Rattle.std.proofs.Common.{◌≡◌, ◌⊎◌, ⊎_elim, inl, inr, ℕ, List, ◌++◌, ◌∙◌, ap}
use Rattle.files_keeping.specs.Disk.{HasTail, LeavesOnly}
use Rattle.files_keeping.specs.Reading.{ReadsAllOrNone, IsReadAs}
use Rattle.files_keeping.proofs.Moments.{weaker}

pub read_so : {S : Type 0} (Tears : List ℕ → List ℕ → Type 0) (read : List ℕ → S) (kept bytes left : List ℕ) → ReadsAllOrNone Tears read kept bytes → HasTail Tears kept bytes left → IsReadAs read kept bytes left
read_so Tears read kept bytes left reads tail =
    let same : read left ≡ read (kept ++ tail.0) = ap read tail.1 in
    ⊎_elim (λ none. inl (same ∙ none)) (λ all. inr (same ∙ all)) (reads tail.0 tail.2)
