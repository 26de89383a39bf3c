-- The count stands at place 13, and the signals from place 14 on.
use Rattle.std.proofs.Common.{◌+◌, ◌<◌, ◌≤◌, ◌^◌, ◌∷◌, ◌++◌, length, sym, ap, ◌∙◌, arith, ◌⊎◌, inl, inr}
use Rattle.std.specs.List.{flat_map}
use Rattle.byteorder.specs.Endian.{big_bytes}
use Rattle.signal.specs.Signal.{signal_bytes}
use Rattle.std.proofs.lemmas.List.{length-drop}
use Rattle.std.proofs.lemmas.Result.{err_from_is_err_and}
use Rattle.signal.proofs.Batches.{Places, places, number_place, batch_parts, short_batch, bad_count, bad_last, bad_signals}
use Rattle.signal.proofs.batch.batch_of.Goals as goal
use Rattle.signal.proofs.batch.batch_of.Goals.{After-take_u64-number}

place : (c : After-take_u64-number) → Places c.args.body.now c.take_u64-number.result.1.now
place c = places c.args.body.now c.take_u32-incarnation.result.1.now c.take_u64-number.result.1.now c.take_u32-incarnation.ensures.rest c.take_u64-number.ensures.rest

pub returns-then-body-lt-BEFORE_SIGNALS-clause-fault : goal.returns-then-body-lt-BEFORE_SIGNALS-clause-fault
returns-then-body-lt-BEFORE_SIGNALS-clause-fault c = short_batch c.args.body.now c.requires.kind c.if-body-lt-BEFORE_SIGNALS.true

pub returns-then-count-lt-LEAST_SIGNALS-clause-fault : goal.returns-then-count-lt-LEAST_SIGNALS-clause-fault
returns-then-count-lt-LEAST_SIGNALS-clause-fault c =
    let count = c.from-count.result in
    let at = place (goal.at.returns-then-count-lt-LEAST_SIGNALS-clause-fault c).After-take_u64-number in
    let bad : (count < 2) ⊎ (64 < count) = elim c.then-count-lt-LEAST_SIGNALS.either [ inl few ↦ inl few | inr many ↦ inr many.1 ] in
    bad_count c.args.body.now count c.requires.kind (omega arith) (c.from-count.ensures ∙ at.count_is) bad

pub returns-in_default-clause-fault : goal.returns-in_default-clause-fault
returns-in_default-clause-fault c =
    let count = c.from-count.result in
    let number = c.take_u64-number.result.0 in
    let at = place (goal.at.returns-in_default-clause-fault c).After-take_u64-number in
    let over : 2 ^ 64 < number + count = omega (arith, c.in_default.ensures) in
    bad_last c.args.body.now number count c.requires.kind (omega arith) (c.from-count.ensures ∙ at.count_is)
    (c.take_u64-number.ensures.value ∙ number_place c.args.body.now c.take_u32-incarnation.result.1.now c.take_u32-incarnation.ensures.rest) (omega arith) (omega arith) over

pub returns-in_err-check_signals-clause-fault : goal.returns-in_err-check_signals-clause-fault
returns-in_err-check_signals-clause-fault c =
    let p = err_from_is_err_and c.from_residual.result c.from_residual.ensures.1 in
    let count = c.from-count.result in
    let number = c.take_u64-number.result.0 in
    let at = place (goal.at.returns-in_err-check_signals-clause-fault c).After-take_u64-number in
    let under : number + count ≤ 2 ^ 64 = omega (arith, c.in-Some.ensures) in
    rw (p.1, p.2) (bad_signals c.args.body.now _ number count c.in_err-check_signals.field-0.0 c.requires.kind (omega arith) (c.from-count.ensures ∙ at.count_is)
    (c.take_u64-number.ensures.value ∙ number_place c.args.body.now c.take_u32-incarnation.result.1.now c.take_u32-incarnation.ensures.rest) (omega arith) (omega arith) under at.signals_is c.in_err-check_signals.ensures.fault)

pub returns-clause-spelled : goal.returns-clause-spelled
returns-clause-spelled c =
    let count = c.from-count.result in
    let number = c.take_u64-number.result.0 in
    let rest = c.take_u64-number.result.1.now in
    let filled = c.in_ok-check_signals.ensures.filled in
    let at = place (goal.at.returns-clause-spelled c).After-take_u64-number in
    let some : 0 < length rest = omega (arith, ap length at.rest_is, length-drop 13 c.args.body.now) in
    record {
      first = number;
      signals = filled.signals;
      several = omega arith;
      few = omega arith;
      incarnation_fits = omega (arith, c.take_u32-incarnation.type_inv);
      last_fits = omega (arith, c.in-Some.ensures);
      last_is = omega (arith, c.in-Some.ensures);
      count_is = filled.count_is;
      size_is = sym (ap length filled.filled);
      each = filled.each;
      is_body = batch_parts c.args.body.now c.take_u32-incarnation.result.1.now rest _ c.take_u32-incarnation.result.0 number count (omega arith) c.requires.kind
          c.take_u32-incarnation.ensures.parts c.take_u64-number.ensures.parts some (sym c.from-count.ensures) filled.filled
          ∙ ap (λ n. 5 ∷ big_bytes 4 c.take_u32-incarnation.result.0 ++ big_bytes 8 number ++ n ∷ flat_map signal_bytes filled.signals) (sym filled.count_is);
    }
