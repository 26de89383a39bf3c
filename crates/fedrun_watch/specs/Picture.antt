-- The lines on a terminal, one for each federate, which are drawn over those of the look before.
use Rattle.std.specs.Prelude.{ℕ, List, [], ◌++◌, codes, flat_map, take, Option, None, Some, nat_eq, if◌then◌else◌}
use Rattle.std.specs.Fmt.{decimal}
use Rattle.tag.specs.Printed.{printed_time}
use Rattle.wires_hosts.specs.declared.standing.Standing.{Standing}
use Rattle.wires_hosts.specs.declared.standing.Reached.{Reached}
use Rattle.fedrun_watch.specs.Seconds.{tenths_text}
use Rattle.fedrun_watch.specs.Awaited.{federate_text}
use Rattle.fedrun_watch.specs.Standings.{tag_text}
use Rattle.fedrun_watch.specs.declared.picture.TheConstants.{COLUMNS, CUT, UNCUT, WIPED, UP}

-- when a federate was heard last that is connected
abbrev pub quiet_text : Option ℕ → List ℕ
quiet_text None = codes "never heard"
quiet_text (Some millis) = codes "heard " ++ (tenths_text millis ++ codes " ago")

-- the same, or for how long it has no connection
abbrev pub there_text : Standing → List ℕ
there_text standing =
    if standing.is_connected then quiet_text standing.quiet_ms
    else codes "no connection for " ++ tenths_text standing.lasting_ms

-- how many signals aren't acknowledged, if some aren't
abbrev pub open_text : ℕ → List ℕ
open_text count = if nat_eq count 0 then [] else codes ", " ++ (decimal count ++ codes " unacked")

-- when the run is over, where that is known
abbrev pub stop_text : Option ℕ → List ℕ
stop_text None = []
stop_text (Some stop) = codes " of " ++ printed_time stop

-- how far a federate is, and may go
abbrev pub far_text : (stop : Option ℕ) → Reached → List ℕ
far_text stop reached =
    codes ", at " ++ (tag_text reached.completed ++ (stop_text stop ++ (codes ", to " ++ tag_text reached.granted)))

-- where a federate stands, of those with these names: what matters most comes first
abbrev pub row_text : (names : List (List ℕ)) → (stop : Option ℕ) → Standing → List ℕ
row_text names stop standing =
    federate_text names standing.federate ++ (codes ": " ++ (there_text standing
    ++ (open_text standing.reached.unacked ++ far_text stop standing.reached)))

-- its line, as far as there is room
abbrev pub row_line : (names : List (List ℕ)) → (stop : Option ℕ) → Standing → List ℕ
row_line names stop standing = codes "  " ++ (take COLUMNS (row_text names stop standing) ++ codes "\n")

-- the way back over lines, which are wiped
abbrev pub wiped_text : ℕ → List ℕ
wiped_text count = if nat_eq count 0 then [] else UP.now ++ (decimal count ++ (codes "A" ++ WIPED.now))

-- how many federates have no line, if some have none
abbrev pub more_line : ℕ → List ℕ
more_line count = if nat_eq count 0 then [] else codes "  and " ++ (decimal count ++ codes " more\n")

-- the lines of federates with these names, in place of so many, and of how many there is none
abbrev pub picture_text : (before : ℕ) → (names : List (List ℕ)) → (stop : Option ℕ) → List Standing → (more : ℕ)
    → List ℕ
picture_text before names stop rows more =
    wiped_text before ++ (CUT.now ++ (flat_map (row_line names stop) rows ++ (more_line more ++ UNCUT.now)))
