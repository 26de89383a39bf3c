use Rattle.std.proofs.Common.{◌≡◌}
use Rattle.std.proofs.lemmas.Result.{err_from_is_err_and}
use Rattle.plan_names.specs.Naming.{place_of}
use Rattle.reactor_program.specs.Tokens.{tokens_of}
use Rattle.plan_names.specs.Spelling.{is_name}
use Rattle.reactor_program.specs.Reading.{name_read}
use Rattle.reactor_program.specs.declared.program.Statement.TheVariants.{Output}
use Rattle.reactor_program.proofs.Readings.{read_of, paired_ok, paired_err}
use Rattle.reactor_program.proofs.StatementReadings.{output_reading}
use Rattle.reactor_program.proofs.reading.statement.output.Goals as goal

pub returns-in_err-port : goal.returns-in_err-port
returns-in_err-port c =
    let p = err_from_is_err_and c.from_residual.result c.from_residual.ensures.1 in
    let named : c.numbered-port.result ≡ name_read (is_name c.args.port.now) (place_of c.args.slots.now.outputs c.args.port.now) = read_of c.numbered-port.ensures c.is_name.ensures c.place_of.ensures.value in
    let whole = output_reading c.args.slots.now c.args.states.now c.args.port.now (tokens_of c.args.rest.now) c.in-Some.value.now c.in-Some.ensures c.numbered-port.result c.operand-value.result named c.operand-value.ensures in
    rw (p.1, p.2) (rw (paired_err Output c.numbered-port.result c.operand-value.result c.in_err-port.field-0.0 c.in_err-port.ensures) at whole)

pub returns : goal.returns
returns c =
    let named : c.numbered-port.result ≡ name_read (is_name c.args.port.now) (place_of c.args.slots.now.outputs c.args.port.now) = read_of c.numbered-port.ensures c.is_name.ensures c.place_of.ensures.value in
    let whole = output_reading c.args.slots.now c.args.states.now c.args.port.now (tokens_of c.args.rest.now) c.in-Some.value.now c.in-Some.ensures c.numbered-port.result c.operand-value.result named c.operand-value.ensures in
    rw (paired_ok Output c.numbered-port.result c.operand-value.result c.in_ok-port.port c.in_ok-port.value c.in_ok-port.ensures) at whole
