-- Texts one after the other.
use Rattle.std.specs.Prelude.{ℕ, ◌+◌, ◌-◌, List}
use Rattle.files_text.specs.PlanText.{printed_each}

-- those of the numbers from `first` to before `end`
abbrev pub each_from : (ℕ → List ℕ) → (first end : ℕ) → List ℕ
each_from text first end = printed_each (λ i. text (first + i)) (end - first)
