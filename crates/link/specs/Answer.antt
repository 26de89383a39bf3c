-- Signals are numbered from 1 on, in the order in which they are offered.
use Rattle.std.specs.Prelude.{ℕ, ◌+◌, Bool, ◌&&◌, if◌then◌else◌, nat_lt, nat_le, nat_eq, Ok, Err, Result}
use Rattle.signal.specs.declared.frame.Frame.{Frame}
use Rattle.signal.specs.declared.frame.Frame.TheVariants.{Hello, Data, Ack, Refuse}
use Rattle.link.specs.declared.arrival.Arrival.{Arrival}
use Rattle.link.specs.declared.fault.LinkFault.{LinkFault}

-- whether a frame is of this link: of its incarnation, and a Hello of its federate
abbrev pub is_own : (federate incarnation : ℕ) → Frame → Bool
is_own federate incarnation (Hello hello) = nat_eq hello.incarnation incarnation && nat_eq hello.federate federate
is_own federate incarnation (Data i _ _) = nat_eq i incarnation
is_own federate incarnation (Ack i _) = nat_eq i incarnation
is_own federate incarnation (Refuse i _) = nat_eq i incarnation

-- what an open end answers to a frame of its link, by the number that it offered last and the number that it took last
abbrev pub answer_when_open : (offered taken : ℕ) → Frame → Result Arrival LinkFault
answer_when_open offered taken (Hello hello) =
    if nat_lt offered hello.last_taken then Err LinkFault.AckOfUnsent else Ok Arrival.Resume
answer_when_open offered taken (Data _ n _) =
    if nat_le n taken then Ok Arrival.Repeated
    else if nat_eq n (taken + 1) then Ok Arrival.Signal
    else Err LinkFault.Gap
answer_when_open offered taken (Ack _ n) = if nat_lt offered n then Err LinkFault.AckOfUnsent else Ok Arrival.Acked
answer_when_open offered taken (Refuse _ _) = Ok Arrival.Closed
