-- How often federates are looked at: each test whether one is eligible counts. A flag changes only by a counted test.
-- So the count is no less than what changed, and a bound of the count is a bound of the work.
use Rattle.std.specs.Prelude.{ℕ, zero, suc, ◌+◌, ◌-◌, ◌^◌, min, Bool, not, is_some, if◌then◌else◌}
use Rattle.grants.specs.Wiring.{Wiring, least_by}
use Rattle.grants.specs.Records.{Records, is_eligible_in}

-- the count stays there once it is reached
abbrev pub most_looks : ℕ
most_looks = 2 ^ 64 - 1

-- after this many more
abbrev pub counted : ℕ → ℕ → ℕ
counted looks more = min most_looks (looks + more)

-- how many of the first `count` numbers pass a test
abbrev pub count_below : ℕ → (ℕ → Bool) → ℕ
count_below zero test = 0
count_below (suc count) test = count_below count test + (if test count then 1 else 0)

-- there is a path from i to j
abbrev pub has_path : Wiring → ℕ → ℕ → Bool
has_path w i j = is_some (least_by w i j)

-- how many federates a path leads to from i
abbrev pub reached_from : Wiring → ℕ → ℕ
reached_from w i = count_below w.federates (has_path w i)

-- one holds and the other doesn't
abbrev pub differ : Bool → Bool → Bool
differ a b = if a then not b else b

-- how many federates are eligible in one and not in the other
abbrev pub changed_between : Records → Records → ℕ
changed_between before after =
    count_below before.wiring.federates (λ j. differ (is_eligible_in before j) (is_eligible_in after j))
