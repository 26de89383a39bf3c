-- What an attempt to connect comes to, by the federate's side of its greeting.
use Rattle.std.specs.Prelude.{◌≡◌, ℕ, List, Bool, true, false, IsTrue, ◌⊎◌, Option, Some, None, Result, Ok, Err}
use Rattle.wires_greeting.specs.Federate.{Federate, begun, after_challenge}
use Rattle.wires_hosts.specs.declared.host_dial.FederateHost.{FederateHost}
use Rattle.wires_hosts.specs.declared.dial_fault.DialFault.{DialFault}
use Rattle.wires_hosts.specs.declared.dial_fault.DialFault.TheVariants.{NotConnected, NoRandom, NoAnswer, NotProved}
use Rattle.wires_hosts.specs.declared.dial_fault.DialFault.TheVariants.{OtherFiles, NoSuchFederate, Finished}
use Rattle.wires_hosts.specs.declared.dial_fault.DialFault.TheVariants.{NotAllowed}
use Rattle.wires_hosts.specs.DialFault.{by_state}

-- the side of a federate's process that greets with these random bytes, if there are some
abbrev pub side_by : FederateHost → Option (List ℕ) → Result Federate DialFault
side_by host None = Err NoRandom
side_by host (Some random) =
    Ok (begun host.key (record { federate = host.federate; files = host.files; random = random }))

-- a side before and after its greeting: nothing came, or these bytes came as the challenge
abbrev pub Heard : Federate → Federate → Type 0
Heard old new = (new ≡ old) ⊎ ((challenge : List ℕ) × (new ≡ after_challenge old challenge))

-- whether a fault says that there was no connection, or none for long enough
abbrev pub is_loss : DialFault → Bool
is_loss (NotConnected why) = true
is_loss NoRandom = false
is_loss NoAnswer = true
is_loss NotProved = false
is_loss OtherFiles = false
is_loss NoSuchFederate = false
is_loss Finished = false
is_loss NotAllowed = false

-- the greeting failed by what its side came to; or the connection was lost before the challenge came, or behind a
-- challenge that says to go on
abbrev pub FailedBy : Federate → Federate → DialFault → Type 0
FailedBy old new fault =
    (by_state new.state ≡ Some fault)
    ⊎ (IsTrue (is_loss fault) × ((new ≡ old) ⊎ (by_state new.state ≡ None)))
