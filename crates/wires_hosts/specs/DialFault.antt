-- Why an attempt to connect came to nothing, and whether another one makes sense.
use Rattle.std.specs.Prelude.{Bool, true, false, Option, Some, None}
use Rattle.wires_greeting.specs.declared.answer.Answer.{Answer}
use Rattle.wires_greeting.specs.declared.answer.Answer.TheVariants as answers
use Rattle.wires_greeting.specs.declared.federate_side.FederateState.{FederateState}
use Rattle.wires_greeting.specs.declared.federate_side.FederateState.TheVariants as states
use Rattle.wires_hosts.specs.declared.dial_fault.DialFault.{DialFault}
use Rattle.wires_hosts.specs.declared.dial_fault.DialFault.TheVariants.{NotConnected, NoRandom, NoAnswer, NotProved}
use Rattle.wires_hosts.specs.declared.dial_fault.DialFault.TheVariants.{OtherFiles, NoSuchFederate, Finished}
use Rattle.wires_hosts.specs.declared.dial_fault.DialFault.TheVariants.{NotAllowed}

-- the fault by a refusal that is proved; one that says to go on is none, and isn't believed
abbrev pub by_refusal : Answer → DialFault
by_refusal answers.GoOn = NotProved
by_refusal answers.OtherFiles = OtherFiles
by_refusal answers.NoSuchFederate = NoSuchFederate
by_refusal answers.Finished = Finished
by_refusal answers.NotAllowed = NotAllowed

-- the fault by where a federate's side of a greeting came to, if it didn't come to go on
abbrev pub by_state : FederateState → Option DialFault
by_state states.Greeted = Some NoAnswer
by_state (states.Proved challenge) = None
by_state (states.Refused answer) = Some (by_refusal answer)
by_state states.NotProved = Some NotProved

-- whether no other attempt makes sense: the coordinator proved that it has the secret, and refused
abbrev pub is_final : DialFault → Bool
is_final (NotConnected reason) = false
is_final NoRandom = false
is_final NoAnswer = false
is_final NotProved = false
is_final OtherFiles = true
is_final NoSuchFederate = true
is_final Finished = true
is_final NotAllowed = true
