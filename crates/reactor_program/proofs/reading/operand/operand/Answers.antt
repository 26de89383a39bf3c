use Rattle.std.proofs.Common.{Ok, Err, sym, ◌∙◌}
use Rattle.std.specs.Prelude.{FitsSigned}
use Rattle.std.specs.Int.{w64}
use Rattle.std.proofs.lemmas.Int.{to_z-of_z}
use Rattle.std.proofs.lemmas.Result.{err_from_is_err_and}
use Rattle.reactor_program.proofs.Readings.{value_reading, presence_reading, state_reading, number_reading}
use Rattle.reactor_program.proofs.reading.operand.operand.Goals as goal

pub returns-in_err-slot : goal.returns-in_err-slot
returns-in_err-slot c =
    let p = err_from_is_err_and c.from_residual.result c.from_residual.ensures.1 in
    let dotted = c.in-Some.ensures in
    rw (p.1, p.2) (value_reading c.args.slots.now c.args.states.now c.args.token.now c.in-Some.name.now dotted (Err c.in_err-slot.field-0.0) c.in_err-slot.ensures)

pub returns-in-Some : goal.returns-in-Some
returns-in-Some c =
    let dotted = c.in-Some.ensures in
    rw c.value_at_slot.ensures (value_reading c.args.slots.now c.args.states.now c.args.token.now c.in-Some.name.now dotted (Ok c.in_ok-slot.field-0) c.in_ok-slot.ensures)

pub returns-in_err-slot-2 : goal.returns-in_err-slot-2
returns-in_err-slot-2 c =
    let p = err_from_is_err_and c.from_residual-in_err-slot-2.result c.from_residual-in_err-slot-2.ensures.1 in
    let dotted = c.in-Some-after.ensures in
    rw (p.1, p.2) (presence_reading c.args.slots.now c.args.states.now c.args.token.now c.in-Some-after.name.now dotted (Err c.in_err-slot-2.field-0.0) c.in_err-slot-2.ensures)

pub returns-in-Some-after : goal.returns-in-Some-after
returns-in-Some-after c =
    let dotted = c.in-Some-after.ensures in
    presence_reading c.args.slots.now c.args.states.now c.args.token.now c.in-Some-after.name.now dotted (Ok c.in_ok-slot-2.field-0) c.in_ok-slot-2.ensures

pub returns-in_err-numbered : goal.returns-in_err-numbered
returns-in_err-numbered c =
    let p = err_from_is_err_and c.from_residual-in_err-numbered.result c.from_residual-in_err-numbered.ensures.1 in
    rw (p.1, p.2) (state_reading c.args.slots.now c.args.states.now c.args.token.now (sym c.is_name.ensures ∙ c.if-is_name.true) c.place_of.result c.place_of.ensures.value (Err c.in_err-numbered.field-0.0) c.in_err-numbered.ensures)

pub returns-then-is_name : goal.returns-then-is_name
returns-then-is_name c =
    state_reading c.args.slots.now c.args.states.now c.args.token.now (sym c.is_name.ensures ∙ c.if-is_name.true) c.place_of.result c.place_of.ensures.value (Ok c.in_ok-numbered.field-0) c.in_ok-numbered.ensures

pub returns-in-Some-number : goal.returns-in-Some-number
returns-in-Some-number c =
    let here = c.in-Some-number.ensures in
    let fits : FitsSigned w64 c.in-Some-number.number = rw here.1 here.0.fits in
    rw (to_z-of_z w64 c.in-Some-number.number fits) (number_reading c.args.slots.now c.args.states.now c.args.token.now c.in-Some-number.number here.0 (sym here.1))
