-- What is to come next on a connection that came to the coordinator.
use Rattle.std.specs.Prelude.{Option, Some, None}
use Rattle.wires_greeting.specs.declared.coordinator_side.CoordinatorState.{CoordinatorState}
use Rattle.wires_greeting.specs.declared.coordinator_side.CoordinatorState.TheVariants as states
use Rattle.wires_hosts.specs.declared.next.Next.{Next}
use Rattle.wires_hosts.specs.declared.next.Next.TheVariants.{Greeting, Proof, Hello}

-- what is next by where the coordinator's side of a greeting came to: frames only where a federate is let in, and
-- nothing behind a refusal or where a federate was told that the run is finished
abbrev pub next_by : CoordinatorState → Option Next
next_by states.Waiting = Some Greeting
next_by (states.Challenged greeting challenge) = Some Proof
next_by (states.LetIn greeting challenge) = Some Hello
next_by (states.Finishing greeting challenge) = Some Proof
next_by (states.Told greeting challenge) = None
next_by (states.Refused answer) = None
next_by states.OtherProtocol = None
next_by states.NotProved = None
