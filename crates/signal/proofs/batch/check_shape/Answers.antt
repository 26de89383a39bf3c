use Rattle.std.proofs.Common.{◌≡◌, ◌<◌, ◌-◌, true, false, length, ap, sym, ◌∙◌, arith}
use Rattle.std.specs.Prelude.{slice_index, drop}
use Rattle.std.proofs.lemmas.Bool.Decides.{nat_tests}
use Rattle.signal.specs.Fault.{is_kind, shape_fault}
use Rattle.signal.proofs.Checking.{no_bytes, no_kind, too_short, shape_step}
use Rattle.signal.proofs.batch.check_shape.Goals as goal

pub returns-then-is_empty : goal.returns-then-is_empty
returns-then-is_empty c =
    let rest = c.loop-left.rest.now in
    let empty : length rest ≡ 0 = grind (arith, nat_tests) in
    c.loop-left.invariant ∙ no_bytes c.loop-left.left rest c.loop-left-test.true empty

pub returns-then-kind-eq0 : goal.returns-then-kind-eq0
returns-then-kind-eq0 c =
    let rest = c.loop-left.rest.now in
    let some : 0 < length rest = grind (arith, nat_tests) in
    let kind : is_kind 4 (slice_index rest 0) ≡ false = let e = c.then-kind-eq0.either in grind (arith, nat_tests) in
    c.loop-left.invariant ∙ no_kind c.loop-left.left rest c.loop-left-test.true some kind

pub returns-then-rest-size : goal.returns-then-rest-size
returns-then-rest-size c =
    let rest = c.loop-left.rest.now in
    let some : 0 < length rest = grind (arith, nat_tests) in
    let kind : is_kind 4 (slice_index rest 0) ≡ true = grind (arith, nat_tests) in
    c.loop-left.invariant ∙ too_short c.loop-left.left rest c.loop-left-test.true some kind (omega (arith, c.signal_size-size.ensures))

pub loop-left-preserved : goal.loop-left-preserved
loop-left-preserved c =
    let rest = c.loop-left.rest.now in
    let left = c.loop-left.left in
    let some : 0 < length rest = grind (arith, nat_tests) in
    let kind : is_kind 4 (slice_index rest 0) ≡ true = grind (arith, nat_tests) in
    c.loop-left.invariant ∙ shape_step left rest c.loop-left-test.true some kind (omega (arith, c.signal_size-size.ensures))
    ∙ ap (λ n. shape_fault (left - 1) (drop n rest)) (sym c.signal_size-size.ensures) ∙ ap (λ b. shape_fault (left - 1) b) (sym c.split_at.ensures.back)
