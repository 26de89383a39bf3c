-- Why a connection that came to the coordinator isn't let in.
use Rattle.std.specs.Prelude.{Option, Some, None}
use Rattle.wires_greeting.specs.declared.answer.Answer.{Answer}
use Rattle.wires_greeting.specs.declared.answer.Answer.TheVariants as answers
use Rattle.wires_greeting.specs.declared.coordinator_side.CoordinatorState.{CoordinatorState}
use Rattle.wires_greeting.specs.declared.coordinator_side.CoordinatorState.TheVariants as states
use Rattle.wires_hosts.specs.declared.happening.NotLetIn.{NotLetIn}
use Rattle.wires_hosts.specs.declared.happening.NotLetIn.TheVariants.{NoGreeting, OtherProtocol, OtherFiles}
use Rattle.wires_hosts.specs.declared.happening.NotLetIn.TheVariants.{NoSuchFederate, NotAllowed, NoProof, NotProved}
use Rattle.wires_hosts.specs.declared.happening.NotLetIn.TheVariants.{NoHello}

-- by what the coordinator answered; none where it answered that the connection may go on
abbrev pub by_answer : Answer → Option NotLetIn
by_answer answers.GoOn = None
by_answer answers.OtherFiles = Some OtherFiles
by_answer answers.NoSuchFederate = Some NoSuchFederate
by_answer answers.Finished = None
by_answer answers.NotAllowed = Some NotAllowed

-- by where the coordinator's side of its greeting came to before it was closed; none where its federate was told that
-- the run is finished, for which it was made
abbrev pub by_state : CoordinatorState → Option NotLetIn
by_state states.Waiting = Some NoGreeting
by_state (states.Challenged greeting challenge) = Some NoProof
by_state (states.LetIn greeting challenge) = Some NoHello
by_state (states.Finishing greeting challenge) = Some NoProof
by_state (states.Told greeting challenge) = None
by_state (states.Refused answer) = by_answer answer
by_state states.OtherProtocol = Some OtherProtocol
by_state states.NotProved = Some NotProved
