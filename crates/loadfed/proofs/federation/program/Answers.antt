use Rattle.loadfed.proofs.Planned.{program_told}
use Rattle.loadfed.proofs.federation.program.Goals as goal

pub parse-requires : goal.parse-requires
parse-requires c =
    rw (c.as_slice.ensures.value, c.into_parts-states.ensures.reactions, c.into_parts-states.ensures.states) c.requires

pub returns-in-Ok-clause-ok : goal.returns-in-Ok-clause-ok
returns-in-Ok-clause-ok c =
    rw (c.as_slice.ensures.value, c.into_parts-states.ensures.reactions, c.into_parts-states.ensures.states) at c.in-Ok.ensures.spelled

pub returns-clause-refused : goal.returns-clause-refused
returns-clause-refused c =
    program_told c.args.federate.now c.args.shape c.in-Err.fault c.of_program.result (rw (c.as_slice.ensures.value, c.into_parts-states.ensures.reactions, c.into_parts-states.ensures.states) at c.in-Err.ensures.refused)
    (λ b says. c.in-Err.ensures.accepts b (rw (c.as_slice.ensures.value, c.into_parts-states.ensures.reactions, c.into_parts-states.ensures.states) says)) c.of_program.ensures.fault c.of_program.ensures.memory
