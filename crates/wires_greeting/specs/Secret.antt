-- Which secrets there are, and which addresses do without.
use Rattle.std.specs.Prelude.{ℕ, ◌-◌, List, length, drop, nat_eq, nat_lt, not, if◌then◌else◌, Option, Some, None}
use Rattle.std.specs.List.{list_any}
use Rattle.std.specs.Net.Addr.{MatchIp, IsLoopbackV4, IsLoopbackV6}
use Rattle.std.specs.declared.net.ip_addr.IpAddr.{IpAddr}
use Rattle.wires_greeting.specs.declared.key.TheConstants.{LEAST_SECRET, MOST_SECRET}
use Rattle.wires_greeting.specs.declared.key.SecretFault.{SecretFault}
use Rattle.wires_greeting.specs.declared.key.SecretFault.TheVariants.{TooShort, TooLong}

-- why these bytes are no secret, if they are none. Zeros at the end aren't counted: a key has the same proofs with and
-- without them
abbrev pub secret_fault : List ℕ → Option SecretFault
secret_fault secret =
    if nat_lt (length secret) LEAST_SECRET then Some TooShort
    else if nat_lt MOST_SECRET (length secret) then Some TooLong
    else if list_any (λ byte. not (nat_eq byte 0)) (drop (LEAST_SECRET - 1) secret) then None
    else Some TooShort

-- an address of the machine itself: 127.0.0.0/8, or ::1
abbrev pub IsLoopback : IpAddr → Type 0
IsLoopback address = MatchIp address IsLoopbackV4 IsLoopbackV6
