-- Where a federate stands, and how far a run is.
use Rattle.std.specs.Prelude.{ℕ, ◌-◌, ◌^◌, List, [], ◌++◌, codes, Option, None, Some, nat_eq}
use Rattle.std.specs.Prelude.{Bool, if◌then◌else◌}
use Rattle.std.specs.Fmt.{decimal}
use Rattle.tag.specs.LogicalTime.{LogicalTime, successor_of}
use Rattle.tag.specs.Printed.{printed_tag, printed_time}
use Rattle.wires_hosts.specs.declared.awaited.Awaited.{Awaited}
use Rattle.wires_hosts.specs.declared.standing.Standing.{Standing}
use Rattle.wires_hosts.specs.declared.standing.Reached.{Reached}
use Rattle.wires_hosts.specs.declared.standing.HowFar.{HowFar}
use Rattle.wires_hosts.specs.Standing.{unheard_ms}
use Rattle.fedrun_watch.specs.Seconds.{tenths_text}
use Rattle.fedrun_watch.specs.Awaited.{federate_text, first_text}

-- whether a federate is connected, and for how long
abbrev pub connected_text : Standing → List ℕ
connected_text standing =
    if standing.is_connected then codes ": connected for " ++ tenths_text standing.lasting_ms
    else codes ": no connection for " ++ tenths_text standing.lasting_ms

-- when a federate was heard last
abbrev pub heard_text : Option ℕ → List ℕ
heard_text None = codes ", never heard"
heard_text (Some millis) = codes ", heard " ++ (tenths_text millis ++ codes " ago")

-- a tag, where there is one; the last one of its time, as grants have it, as what it is: just before the next time
abbrev pub tag_text : Option LogicalTime → List ℕ
tag_text None = codes "nothing"
tag_text (Some tag) =
    if nat_eq tag.microstep (2 ^ 32 - 1) then codes "just before " ++ printed_tag (successor_of tag) else printed_tag tag

-- how many signals aren't acknowledged
abbrev pub unacked_text : ℕ → List ℕ
unacked_text count =
    if nat_eq count 1 then codes "1 signal not acknowledged" else decimal count ++ codes " signals not acknowledged"

-- how far a federate is
abbrev pub reached_text : Reached → List ℕ
reached_text reached =
    codes ", completed " ++ (tag_text reached.completed ++ (codes ", granted " ++ (tag_text reached.granted
    ++ (codes ", " ++ unacked_text reached.unacked))))

-- whether a run goes on
abbrev pub going_text : (is_going_on : Bool) → List ℕ
going_text is_going_on = if is_going_on then codes "it runs" else codes "it stands"

-- how many federates are connected, at a coordinator; a federate knows of none
abbrev pub present_text : Awaited → List ℕ
present_text connected =
    if nat_eq connected.federates 0 then []
    else codes ", " ++ (decimal connected.present ++ (codes " of " ++ (decimal connected.federates ++ codes " connected")))

-- how many are, in a run that goes on
abbrev pub present_going_text : (is_going_on : Bool) → Awaited → List ℕ
present_going_text is_going_on connected = if is_going_on then present_text connected else []

-- how far a run is, how many federates are connected where it goes on, and who is awaited
abbrev pub how_far_text : List (List ℕ) → HowFar → Awaited → List ℕ
how_far_text names how_far awaited =
    going_text how_far.is_going_on ++ (codes ": completed " ++ (tag_text how_far.completed ++ (codes " of "
    ++ (printed_time how_far.stop ++ (present_going_text how_far.is_going_on awaited
    ++ first_text names (codes ", waits for ") (codes "") awaited.first awaited.more)))))

-- where a federate stands
abbrev pub standing_text : List (List ℕ) → Standing → List ℕ
standing_text names standing =
    federate_text names standing.federate ++ (connected_text standing ++ (heard_text standing.quiet_ms
    ++ reached_text standing.reached))

-- how a federate is missing for which the run waits: nothing comes of it, or it isn't connected
abbrev pub missing_front_text : Standing → List ℕ
missing_front_text standing =
    if standing.is_connected
    then codes " wasn't heard for " ++ (tenths_text (unheard_ms standing) ++ (codes ": connected for "
    ++ tenths_text standing.lasting_ms))
    else codes " is awaited for " ++ (tenths_text standing.lasting_ms ++ heard_text standing.quiet_ms)

-- a federate that is missing, and how far it is
abbrev pub missing_text : List (List ℕ) → Standing → List ℕ
missing_text names standing =
    federate_text names standing.federate ++ (missing_front_text standing ++ reached_text standing.reached)

-- why a coordinator may be silent, by what its federate knows: it acknowledged all, and then waits itself; or it didn't
abbrev pub silent_text : (unacked : ℕ) → List ℕ
silent_text unacked =
    if nat_eq unacked 0 then codes ", and has acknowledged all: another federate may be awaited"
    else codes ": " ++ unacked_text unacked

-- the same, where there may be no connection
abbrev pub unheard_why_text : Standing → List ℕ
unheard_why_text standing =
    if standing.is_connected then silent_text standing.reached.unacked else codes ": there is no connection"
