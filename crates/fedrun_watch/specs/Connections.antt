-- How connections begin and end, and attempts to make one come to nothing.
use Rattle.std.specs.Prelude.{ℕ, List, [], ◌++◌, codes, Option, None, Some, nat_eq}
use Rattle.std.specs.Prelude.{Bool, nat_lt, if◌then◌else◌}
use Rattle.std.specs.Fmt.{decimal}
use Rattle.std.specs.Net.Text.{socket_text}
use Rattle.std.specs.declared.net.socket_addr.SocketAddr.{SocketAddr}
use Rattle.wires_hosts.specs.declared.host_address.HostAddress.{HostAddress}
use Rattle.wires_hosts.specs.declared.host_address.HostAddress.TheVariants.{At, Named}
use Rattle.wires_hosts.specs.declared.happening.Replaced.{Replaced}
use Rattle.wires_hosts.specs.declared.happening.Disconnection.{Disconnection}
use Rattle.wires_hosts.specs.declared.happening.Failure.{Failure}
use Rattle.wires_hosts.specs.declared.happening.Loss.{Loss}
use Rattle.fedrun_watch.specs.Seconds.{tenths_text}
use Rattle.fedrun_watch.specs.Awaited.{federate_text, awaited_text}
use Rattle.fedrun_watch.specs.Causes.{failed_text}

-- where a coordinator is: its address, or its host's name and the port
abbrev pub place_text : HostAddress → List ℕ
place_text (At address) = socket_text address
place_text (Named host port) = host.bytes ++ (codes ":" ++ decimal port)

-- how often, where it is more than once
abbrev pub times_text : ℕ → List ℕ
times_text count = if nat_eq count 1 then [] else codes ", " ++ (decimal count ++ codes " times")

-- how long before a federate was heard last, where it is a second or more
abbrev pub last_heard_text : ℕ → List ℕ
last_heard_text millis =
    if nat_lt millis 1000 then [] else codes ", last heard " ++ (tenths_text millis ++ codes " before")

-- a federate's connection that has ended, and who is awaited then
abbrev pub loss_text : List (List ℕ) → Loss → List ℕ
loss_text names loss =
    federate_text names loss.federate ++ (codes " has lost its connection from " ++ (socket_text loss.address
    ++ (last_heard_text loss.quiet_ms ++ (codes ", " ++ awaited_text names loss.connected))))

-- a question, where two processes of a federate may run
abbrev pub two_text : Bool → List ℕ
two_text may_be_two = if may_be_two then codes ": do two of it run?" else []

-- the connection whose place another one took
abbrev pub in_place_text : Replaced → List ℕ
in_place_text replaced =
    codes ", in place of " ++ (socket_text replaced.before ++ (last_heard_text replaced.quiet_ms
    ++ (times_text replaced.times ++ two_text replaced.may_be_two)))

-- a federate's connection that took another one's place
abbrev pub replaced_text : List (List ℕ) → Replaced → List ℕ
replaced_text names replaced =
    federate_text names replaced.federate ++ (codes " is connected, from " ++ (socket_text replaced.now
    ++ in_place_text replaced))

-- where a connection to a host's name leads
abbrev pub found_text : Option SocketAddr → List ℕ
found_text None = []
found_text (Some address) = codes ", which is " ++ socket_text address

-- how often in a row a connection stood for a moment alone, where it is more than once
abbrev pub quick_text : ℕ → List ℕ
quick_text times =
    if nat_eq times 1 then []
    else codes ", " ++ (decimal times ++ codes " times in a row within 2 s: does this federate run twice?")

-- how a federate's connection ended
abbrev pub disconnection_text : Disconnection → List ℕ
disconnection_text ended =
    if ended.is_closed then codes " was closed there" ++ quick_text ended.times
    else codes " is lost" ++ quick_text ended.times

-- an attempt to connect that came to nothing
abbrev pub failure_text : Failure → List ℕ
failure_text failure =
    codes "no connection to " ++ (place_text failure.address ++ (found_text failure.tried
    ++ (times_text failure.times ++ (codes ": " ++ failed_text failure.fault))))
