-- Truths that are multiplied and subtracted.
use Rattle.std.proofs.Common.{◌≡◌, Bool, true, false, ◌&&◌, refl}
use Rattle.std.specs.Prelude.{not}
use Rattle.std.specs.Int.{w64, int_wrapping_sub, int_wrapping_mul}
use Rattle.reactor.specs.Effect.{truth_value}

pub times : (condition around : Bool) → int_wrapping_mul w64 (truth_value condition) (truth_value around) ≡ truth_value (condition && around)
times true true = refl
times true false = refl
times false true = refl
times false false = refl

pub minus : (condition before : Bool) → int_wrapping_sub w64 (truth_value before) (truth_value (condition && before)) ≡ truth_value (not condition && before)
minus true true = refl
minus true false = refl
minus false true = refl
minus false false = refl
