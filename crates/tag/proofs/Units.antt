-- The greatest unit that divides a time, found from the least.
use Rattle.std.proofs.Common.{◌≡◌, ◌≢◌, ℕ, ◌/◌, ◌%◌, ◌++◌, arith}
use Rattle.std.specs.Prelude.{codes}
use Rattle.std.specs.Fmt.{decimal}
use Rattle.std.proofs.lemmas.Bool.Decides.{nat_tests}
use Rattle.tag.specs.Printed.{printed_time}

-- what a unit doesn't divide, no greater one does
not_us : (time : ℕ) → time % 1_000 ≢ 0 → time % 1_000_000 ≢ 0
not_us time h = λ e. h (omega arith)

not_ms : (time : ℕ) → time % 1_000_000 ≢ 0 → time % 1_000_000_000 ≢ 0
not_ms time h = λ e. h (omega arith)

pub in_ns : (time : ℕ) → time ≢ 0 → time % 1_000 ≢ 0 → printed_time time ≡ decimal time ++ codes " ns"
in_ns time some ns =
    let us = not_us time ns in
    let ms = not_ms time us in
    grind (arith, nat_tests)

pub in_us : (time : ℕ) → time ≢ 0 → time % 1_000 ≡ 0 → time % 1_000_000 ≢ 0 → printed_time time ≡ decimal (time / 1_000) ++ codes " us"
in_us time some ns us =
    let ms = not_ms time us in
    grind (arith, nat_tests)

pub in_ms : (time : ℕ) → time ≢ 0 → time % 1_000_000 ≡ 0 → time % 1_000_000_000 ≢ 0 → printed_time time ≡ decimal (time / 1_000_000) ++ codes " ms"
in_ms time some us ms = grind (arith, nat_tests)
