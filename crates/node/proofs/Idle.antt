-- Events of turns for which the node has nothing to do.
use Rattle.std.proofs.Common.{◌≡◌, Bool, ap}
use Rattle.protocol.specs.Outcome.{Outcome}
use Rattle.node.specs.declared.event.Event.{Event}
use Rattle.node.specs.declared.event.Event.TheVariants as event
use Rattle.node.specs.Core.{Core, Made, ending_of}
use Rattle.node.specs.Step.{Station, Silent, IsIdle, acts, unsent, same, step_of}

-- nothing changes, and nothing is said
pub idle_is_silent : {View Row : Type 0} (core : Core View Row) (is_coordinator : Bool) (s : Station View) (e : Event) → IsIdle core s e → step_of core is_coordinator s e ≡ same s Silent
idle_is_silent core is_coordinator s event.Announce idle = ap (λ (o : Outcome (Made _)). acts s (ending_of (unsent s) o)) idle
idle_is_silent core is_coordinator s event.Advance idle = ap (λ (o : Outcome (Made _)). acts s (ending_of (unsent s) o)) idle
idle_is_silent core is_coordinator s (event.Frame peer frame) idle = absurd idle
idle_is_silent core is_coordinator s (event.Resend peer) idle = absurd idle
idle_is_silent core is_coordinator s (event.Hello peer) idle = absurd idle
