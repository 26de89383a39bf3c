use Rattle.std.proofs.Common.{◌≡◌, rules}
use Rattle.std.proofs.lemmas.Result.{err_from_is_err_and}
use Rattle.tag.specs.LogicalTime.{delay_of}
use Rattle.plan_names.specs.Spelling.{is_name}
use Rattle.reactor_program.specs.Reading.{IsReading, name_read}
use Rattle.reactor_program.specs.Grammar.{WrittenOperand, SpellsOperand}
use Rattle.reactor_program.specs.Resolution.{operand_of}
use Rattle.reactor_program.specs.declared.program.Statement.TheVariants.{Schedule}
use Rattle.reactor_program.proofs.Readings.{read_of, paired_ok, paired_err}
use Rattle.reactor_program.proofs.StatementReadings.{slot_in, schedule_reading, no_scheduling}
use Rattle.reactor_program.proofs.reading.schedule.schedule.Goals as goal

pub returns-in_default-timed : goal.returns-in_default-timed
returns-in_default-timed c = no_scheduling c.args.text.now c.in-Some.action.now c.in-Some.rest.now c.in-Some.ensures.tokens c.in_default-timed.ensures

pub returns-in_err-action : goal.returns-in_err-action
returns-in_err-action c =
    let read : IsReading {W = WrittenOperand} (λ w. SpellsOperand w c.in-Some-timed.value.now) (operand_of c.args.slots.now c.args.states.now) c.operand-value.result = search rules in
    let p = err_from_is_err_and c.from_residual.result c.from_residual.ensures.1 in
    let named : c.numbered-action.result ≡ name_read (is_name c.in-Some.action.now) (slot_in c.args.slots.now c.in-Some.action.now) = read_of c.numbered-action.ensures c.is_name.ensures c.action_slot.ensures in
    let whole = schedule_reading c.args.slots.now c.args.states.now c.args.text.now c.in-Some.action.now c.in-Some.rest.now c.in-Some-timed.value.now c.in-Some-timed.time
    c.in-Some.ensures.tokens c.in-Some-timed.ensures c.numbered-action.result c.operand-value.result named read in
    rw (p.1, p.2) (rw (paired_err (λ slot a. Schedule slot (delay_of c.in-Some-timed.time) a) c.numbered-action.result c.operand-value.result c.in_err-action.field-0.0 c.in_err-action.ensures) at whole)

pub returns : goal.returns
returns c =
    let read : IsReading {W = WrittenOperand} (λ w. SpellsOperand w c.in-Some-timed.value.now) (operand_of c.args.slots.now c.args.states.now) c.operand-value.result = search rules in
    let named : c.numbered-action.result ≡ name_read (is_name c.in-Some.action.now) (slot_in c.args.slots.now c.in-Some.action.now) = read_of c.numbered-action.ensures c.is_name.ensures c.action_slot.ensures in
    let whole = schedule_reading c.args.slots.now c.args.states.now c.args.text.now c.in-Some.action.now c.in-Some.rest.now c.in-Some-timed.value.now c.in-Some-timed.time
    c.in-Some.ensures.tokens c.in-Some-timed.ensures c.numbered-action.result c.operand-value.result named read in
    let delay : c.after.result ≡ delay_of c.in-Some-timed.time = search rules in
    rw delay (rw (paired_ok (λ slot a. Schedule slot (delay_of c.in-Some-timed.time) a) c.numbered-action.result c.operand-value.result c.in_ok-action.action c.in_ok-action.value c.in_ok-action.ensures) at whole)
