-- The lines of what happens at a node, for whoever watches it.
use Rattle.std.specs.Prelude.{ℕ, List, [], ◌++◌, codes, nat_eq, if◌then◌else◌}
use Rattle.std.specs.Fmt.{decimal}
use Rattle.std.specs.Net.Text.{socket_text}
use Rattle.wires_hosts.specs.Standing.{unheard_ms}
use Rattle.wires_hosts.specs.declared.happening.Happening.{Happening}
use Rattle.wires_hosts.specs.declared.happening.Happening.TheVariants as happens
use Rattle.wires_hosts.specs.declared.teller.Happened.{Happened}
use Rattle.fedrun_watch.specs.Seconds.{seconds_text, tenths_text, day_text}
use Rattle.fedrun_watch.specs.Awaited.{federate_text, first_text, awaited_text}
use Rattle.fedrun_watch.specs.Causes.{not_let_in_text, given_up_text}
use Rattle.fedrun_watch.specs.Connections.{place_text, times_text, found_text, loss_text, replaced_text}
use Rattle.fedrun_watch.specs.Connections.{disconnection_text, failure_text}
use Rattle.fedrun_watch.specs.Standings.{how_far_text, standing_text, missing_text, unheard_why_text}

-- what of its log a node has at its begin
abbrev pub logged_text : ℕ → List ℕ
logged_text count =
    if nat_eq count 0 then codes "its log has nothing so far: the run begins"
    else codes "its log has " ++ (decimal count ++ codes " events: it goes on behind them")

-- what happened, at a node whose federates have these names
abbrev pub what_text : List (List ℕ) → Happening → List ℕ
what_text names (happens.Begins seconds) = codes "it begins, at " ++ day_text seconds
what_text names (happens.Logged count) = logged_text count
what_text names (happens.Awaits awaited) = awaited_text names awaited
what_text names (happens.LetIn number address) =
    federate_text names number ++ (codes " is connected, from " ++ socket_text address)
what_text names (happens.Replaced replaced) = replaced_text names replaced
what_text names (happens.Lost loss) = loss_text names loss
what_text names (happens.Closed address why count) =
    codes "refused, from " ++ (socket_text address ++ (times_text count ++ (codes ": " ++ not_let_in_text why)))
what_text names (happens.Tells millis awaited) =
    codes "tells for up to " ++ (tenths_text millis ++ (codes " that the run is finished"
    ++ first_text names (codes ": waits for ") (codes ": all have heard so") awaited.first awaited.more))
what_text names (happens.Told number) = federate_text names number ++ codes " has heard that the run is finished"
what_text names (happens.Untold number) =
    codes "nobody knows whether " ++ (federate_text names number
    ++ codes " has heard that the run is finished, and nobody tells it any more")
what_text names (happens.Connects place) = codes "connects to " ++ place_text place
what_text names (happens.Connected place found) =
    codes "connected to " ++ (place_text place ++ found_text found)
what_text names (happens.Disconnected place ended) =
    codes "the connection to " ++ (place_text place ++ disconnection_text ended)
what_text names (happens.Failed failure) = failure_text failure
what_text names (happens.Missing standing) = missing_text names standing
what_text names (happens.HeardAgain number millis) =
    federate_text names number ++ (codes " was heard again, after " ++ tenths_text millis)
what_text names (happens.Still millis awaited) =
    codes "nobody was heard for " ++ (tenths_text millis ++ (codes ": it stands still"
    ++ first_text names (codes ", waits for ") (codes "") awaited.first awaited.more))
what_text names (happens.Unheard standing) =
    codes "the coordinator wasn't heard for " ++ (tenths_text (unheard_ms standing) ++ unheard_why_text standing)
what_text names (happens.CoordinatorHeard millis) =
    codes "the coordinator was heard again, after " ++ tenths_text millis
what_text names (happens.Ungranted millis) =
    codes "the coordinator is heard, and has granted nothing for " ++ (tenths_text millis
    ++ codes ": another federate may be awaited")
what_text names (happens.Runs how_far awaited) = how_far_text names how_far awaited
what_text names (happens.GoesOn millis) = codes "it goes on: a tag was completed, after " ++ tenths_text millis
what_text names (happens.Stands standing) = standing_text names standing
what_text names (happens.Others count) = codes "and " ++ (decimal count ++ codes " more")
what_text names happens.Finished = codes "the run is finished"
what_text names (happens.GaveUp why) = codes "it gives up: " ++ given_up_text why

-- the line of what was left out before, if something was
abbrev pub left_out_line : ℕ → List ℕ
left_out_line count =
    if nat_eq count 0 then [] else codes "(" ++ (decimal count ++ codes " more happened, and are left out)\n")

-- when it happened and what; and before that a line of what was left out
abbrev pub happened_lines : List (List ℕ) → Happened → List ℕ
happened_lines names happened =
    left_out_line happened.left_out ++ (seconds_text happened.millis ++ (codes ": "
    ++ (what_text names happened.what ++ codes "\n")))
