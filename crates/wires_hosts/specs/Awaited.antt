-- Who is there of those that are awaited.
use Rattle.std.specs.Prelude.{ℕ, ◌+◌, ◌-◌, ◌^◌, min, Bool, true, false, not, List, length, count_by, position}
use Rattle.std.specs.Prelude.{Option, None, Some, option_map}
use Rattle.wires_hosts.specs.declared.awaited.Awaited.{Awaited}

-- a count, as far as a number of 16 bits goes
abbrev pub counted : ℕ → ℕ
counted count = min (2 ^ 16 - 1) count

-- of federates that are there or not, by number: how many are, how many there are in all, the first that isn't, and how
-- many aren't besides that one
abbrev pub awaited_of : (are_there : List Bool) → Awaited
awaited_of are_there = record {
  present = counted (count_by (λ is_there. is_there) are_there);
  federates = counted (length are_there);
  first = option_map counted (position not are_there);
  more = counted (count_by not are_there - 1);
}

-- one more, as far as a number of 16 bits goes
abbrev pub one_more : ℕ → ℕ
one_more count = counted (count + 1)

-- with one federate more that isn't there, by who was the first
abbrev pub without : Awaited → Option ℕ → Awaited
without awaited None = record awaited { federates = one_more awaited.federates; first = Some awaited.federates }
without awaited (Some first) =
    record awaited { federates = one_more awaited.federates; more = one_more awaited.more }

-- with one federate more, whose number is the next one
abbrev pub with_one : Awaited → (is_there : Bool) → Awaited
with_one awaited true =
    record awaited { present = one_more awaited.present; federates = one_more awaited.federates }
with_one awaited false = without awaited awaited.first
