-- All multiples are taken off.
use Rattle.std.proofs.Common.{◌≡◌, ℕ, zero, suc, ◌+◌, ◌-◌, ◌*◌, ◌/◌, ◌%◌, ◌^◌, ◌<◌, ◌≤◌, ℤ, pos, Bool, true, false, cond, List, [], ◌++◌, length, Option, refl, sym, ap, subst, arith}
use Rattle.std.specs.Prelude.{nat_le}
use Rattle.network.specs.Network.{Effect}
use Rattle.reactor_program.specs.declared.program.Line.{Line}
use Rattle.expand_expressions.specs.Division.{taken_off, all_taken_off}
use Rattle.expand_expressions.specs.Laws.{after_lines}
use Rattle.expand_expressions.proofs.Keeping.{after_both}
use Rattle.expand_expressions.proofs.DividedStates.{Room, Dividing, taken}
use Rattle.expand_expressions.proofs.DividedNumbers.{lowered, part_in, rest_less, quotient_more, step_div, step_mod, none_div, none_mod, doubled, weight_fits}

-- the same, with other words for its numbers
with_numbers : (free : ℕ) (q : Bool) (begin e : Effect) (number rest rest' quotient quotient' : ℤ) → rest ≡ rest' → quotient ≡ quotient' → Dividing free q begin e number rest quotient → Dividing free q begin e number rest' quotient'
with_numbers free q begin e number rest rest' quotient quotient' r x d =
    subst (λ rest. Dividing free q begin e number rest quotient') r (subst (λ quotient. Dividing free q begin e number rest quotient) x d)

module _ (present : ℕ → Option ℤ) (free : ℕ) (q : Bool) (begin : Effect) (number : ℤ) (size : ℕ) (some : 0 < size) (room : Room free q (length begin.states)) where
  -- a multiple that is there, or one that isn't
  taken_there : (e : Effect) (r x bit : ℕ) → size * 2 ^ bit ≤ r → r ≤ 2 ^ 63 → x + 2 ^ bit ≤ 2 ^ 63 → bit < 63 → Dividing free q begin e number (lowered r) (lowered x) →
      Dividing free q begin (after_lines present e (taken_off free q (lowered (size * 2 ^ bit)) (pos (2 ^ bit)))) number (lowered (r - size * 2 ^ bit)) (lowered (x + 2 ^ bit))
  taken_there e r x bit there most fits below d =
      let p = size * 2 ^ bit in
      let is : nat_le p r ≡ true = grind arith in
      let h = taken present free q begin e number (lowered r) (lowered x) (lowered p) (pos (2 ^ bit)) true room (part_in r p true is) d in
      with_numbers free q begin _ number _ _ _ _ (rest_less r p most there) (quotient_more x (2 ^ bit) fits (weight_fits bit below)) h

  taken_not : (e : Effect) (r x bit : ℕ) → r < size * 2 ^ bit → Dividing free q begin e number (lowered r) (lowered x) →
      Dividing free q begin (after_lines present e (taken_off free q (lowered (size * 2 ^ bit)) (pos (2 ^ bit)))) number (lowered r) (lowered x)
  taken_not e r x bit above d =
      let p = size * 2 ^ bit in
      let is : nat_le p r ≡ false = grind arith in
      taken present free q begin e number (lowered r) (lowered x) (lowered p) (pos (2 ^ bit)) false room (part_in r p false is) d

  abbrev Done : Effect → List Line → ℕ → ℕ → Type 0
  Done e lines r x = Dividing free q begin (after_lines present e lines) number (lowered (r % size)) (lowered (x + r / size))

  abbrev Takes : ℕ → Type 0
  Takes bit = (e : Effect) (r x : ℕ) → r < size * 2 ^ bit → r ≤ 2 ^ 63 → x + r / size ≤ 2 ^ 63 → Dividing free q begin e number (lowered r) (lowered x) → Done e (all_taken_off free q size bit) r x

  chosen : (bit : ℕ) (fits here : Bool) (e : Effect) (r x : ℕ) → Takes bit → nat_le (size * 2 ^ bit) (2 ^ 63) ≡ fits → nat_le (size * 2 ^ bit) r ≡ here → bit < 63 → r < size * 2 ^ suc bit → r ≤ 2 ^ 63 →
      x + r / size ≤ 2 ^ 63 → Dividing free q begin e number (lowered r) (lowered x) →
      Done e (cond fits (taken_off free q (lowered (size * 2 ^ bit)) (pos (2 ^ bit))) [] ++ all_taken_off free q size bit) r x
  chosen bit false true e r x next f h few below most fits d =
      let above : 2 ^ 63 < size * 2 ^ bit = grind arith in
      let there : size * 2 ^ bit ≤ r = grind arith in
      absurd (omega arith)
  chosen bit false false e r x next f h few below most fits d =
      let less : r < size * 2 ^ bit = grind arith in
      next e r x less most fits d
  chosen bit true false e r x next f h few below most fits d =
      let less : r < size * 2 ^ bit = grind arith in
      let lines = taken_off free q (lowered (size * 2 ^ bit)) (pos (2 ^ bit)) in
      let first = after_lines present e lines in
      subst (λ e. Dividing free q begin e number (lowered (r % size)) (lowered (x + r / size))) (sym (after_both present e lines (all_taken_off free q size bit)))
      (next first r x less most fits (taken_not e r x bit less d))
  chosen bit true true e r x next f h few below most fits d =
      let p = size * 2 ^ bit in
      let there : p ≤ r = grind arith in
      let lines = taken_off free q (lowered p) (pos (2 ^ bit)) in
      let first = after_lines present e lines in
      let div = step_div size (2 ^ bit) r some there in
      let less : r - p < p = omega (arith, doubled size bit, below, there) in
      let room_x : x + 2 ^ bit ≤ 2 ^ 63 = omega (arith, div, fits) in
      let total : x + 2 ^ bit + (r - p) / size ≡ x + r / size = omega (arith, div) in
      let rest_fits : x + 2 ^ bit + (r - p) / size ≤ 2 ^ 63 = omega (arith, total, fits) in
      let h = next first (r - p) (x + 2 ^ bit) less (omega arith) rest_fits (taken_there e r x bit there most room_x few d) in
      subst (λ e. Dividing free q begin e number (lowered (r % size)) (lowered (x + r / size))) (sym (after_both present e lines (all_taken_off free q size bit)))
      (with_numbers free q begin _ number _ _ _ _ (ap lowered (step_mod size (2 ^ bit) r some there)) (ap lowered total) h)

  pub all_taken : (bit : ℕ) → bit ≤ 63 → Takes bit
  unfolding all_taken_off
  all_taken zero few e r x below most fits d =
      let less : r < size = omega arith in
      let total : x ≡ x + r / size = omega (arith, none_div size r less) in
      with_numbers free q begin e number (lowered r) (lowered (r % size)) (lowered x) (lowered (x + r / size)) (ap lowered (sym (none_mod size r less))) (ap lowered total) d
  all_taken (suc bit) few e r x below most fits d =
      chosen bit (nat_le (size * 2 ^ bit) (2 ^ 63)) (nat_le (size * 2 ^ bit) r) e r x (all_taken bit (omega arith)) refl refl (omega arith) below most fits d
