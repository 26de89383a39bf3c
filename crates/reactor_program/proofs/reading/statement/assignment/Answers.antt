use Rattle.std.proofs.Common.{◌≡◌}
use Rattle.std.proofs.lemmas.Result.{err_from_is_err_and}
use Rattle.plan_names.specs.Naming.{place_of}
use Rattle.reactor_program.specs.Tokens.{tokens_of}
use Rattle.plan_names.specs.Spelling.{is_name}
use Rattle.reactor_program.specs.Resolution.{state_names}
use Rattle.reactor_program.specs.Reading.{name_read}
use Rattle.reactor_program.specs.declared.program.Statement.TheVariants.{Assign}
use Rattle.reactor_program.proofs.Readings.{read_of, paired_ok, paired_err}
use Rattle.reactor_program.proofs.StatementReadings.{assign_reading}
use Rattle.reactor_program.proofs.reading.statement.assignment.Goals as goal

pub returns-in_err-state : goal.returns-in_err-state
returns-in_err-state c =
    let p = err_from_is_err_and c.from_residual.result c.from_residual.ensures.1 in
    let named : c.numbered-state.result ≡ name_read (is_name c.args.state.now) (place_of (state_names c.args.states.now) c.args.state.now) = read_of c.numbered-state.ensures c.is_name.ensures c.place_of.ensures.value in
    let whole = assign_reading c.args.slots.now c.args.states.now c.args.state.now (tokens_of c.args.rest.now) c.requires.no_output c.numbered-state.result c.expression-value.result named c.expression-value.ensures in
    rw (p.1, p.2) (rw (paired_err Assign c.numbered-state.result c.expression-value.result c.in_err-state.field-0.0 c.in_err-state.ensures) at whole)

pub returns : goal.returns
returns c =
    let named : c.numbered-state.result ≡ name_read (is_name c.args.state.now) (place_of (state_names c.args.states.now) c.args.state.now) = read_of c.numbered-state.ensures c.is_name.ensures c.place_of.ensures.value in
    let whole = assign_reading c.args.slots.now c.args.states.now c.args.state.now (tokens_of c.args.rest.now) c.requires.no_output c.numbered-state.result c.expression-value.result named c.expression-value.ensures in
    rw (paired_ok Assign c.numbered-state.result c.expression-value.result c.in_ok-state.state c.in_ok-state.value c.in_ok-state.ensures) at whole
