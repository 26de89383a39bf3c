-- A report worked by hand: federate 0, which a timer at slot 1 woke twice, 10 ms apart, and which set its output to 1
-- and to 2. It announced, was granted the first tag, and advanced.
use Rattle.std.specs.Prelude.{ℕ, pos, List, [], ◌∷◌, ◌++◌}
use Rattle.network.specs.Event.{Entry}
use Rattle.network.specs.Undivided.{Row}
use Rattle.tag.specs.LogicalTime.{logical_time}
use Rattle.signal.specs.declared.signal.Signal.TheVariants.{Tag}
use Rattle.signal.specs.declared.frame.Frame.TheVariants.{Data}
use Rattle.node.specs.declared.event.Event.TheVariants.{Frame, Announce, Advance}
use Rattle.files_reports.specs.Said.{Said, by_federate}

-- the value at a slot or an output port
abbrev one_entry : ℕ → ℕ → Entry
one_entry place value = record { place = place; value = pos value }

-- at this time the timer was present, and the output was set to this
abbrev one_row : ℕ → ℕ → Row
one_row time value =
    record { reactor = 0; tag = logical_time time 0; inputs = one_entry 1 0 ∷ []; outputs = one_entry 0 value ∷ [] }

abbrev pub counted_twice : Said
counted_twice =
    by_federate 0 (one_row 0 1 ∷ one_row 10_000_000 2 ∷ [])
    (Announce ∷ Frame 0 (Data 1 1 (Tag (logical_time 0 0))) ∷ Advance ∷ [])

abbrev pub its_bytes : List ℕ
its_bytes =
    -- federate 0, and two rows
    (0 ∷ 0 ∷ 0 ∷ 0 ∷ 0 ∷ 0 ∷ 0 ∷ 0 ∷ 0 ∷ 2 ∷ [])
    -- the first: at the time 0, microstep 0
    ++ (0 ∷ 0 ∷ 0 ∷ 0 ∷ 0 ∷ 0 ∷ 0 ∷ 0 ∷ 0 ∷ 0 ∷ 0 ∷ 0 ∷ [])
    -- one input: at slot 1 the value 0
    ++ (0 ∷ 0 ∷ 0 ∷ 0 ∷ 0 ∷ 0 ∷ 0 ∷ 1 ∷ 0 ∷ 0 ∷ 0 ∷ 0 ∷ 0 ∷ 0 ∷ 0 ∷ 1 ∷ 0 ∷ 0 ∷ 0 ∷ 0 ∷ 0 ∷ 0 ∷ 0 ∷ 0 ∷ [])
    -- one output: at port 0 the value 1
    ++ (0 ∷ 0 ∷ 0 ∷ 0 ∷ 0 ∷ 0 ∷ 0 ∷ 1 ∷ 0 ∷ 0 ∷ 0 ∷ 0 ∷ 0 ∷ 0 ∷ 0 ∷ 0 ∷ 0 ∷ 0 ∷ 0 ∷ 0 ∷ 0 ∷ 0 ∷ 0 ∷ 1 ∷ [])
    -- the second: at 10,000,000 ns, microstep 0
    ++ (0 ∷ 0 ∷ 0 ∷ 0 ∷ 0 ∷ 0x98 ∷ 0x96 ∷ 0x80 ∷ 0 ∷ 0 ∷ 0 ∷ 0 ∷ [])
    -- one input: at slot 1 the value 0
    ++ (0 ∷ 0 ∷ 0 ∷ 0 ∷ 0 ∷ 0 ∷ 0 ∷ 1 ∷ 0 ∷ 0 ∷ 0 ∷ 0 ∷ 0 ∷ 0 ∷ 0 ∷ 1 ∷ 0 ∷ 0 ∷ 0 ∷ 0 ∷ 0 ∷ 0 ∷ 0 ∷ 0 ∷ [])
    -- one output: at port 0 the value 2
    ++ (0 ∷ 0 ∷ 0 ∷ 0 ∷ 0 ∷ 0 ∷ 0 ∷ 1 ∷ 0 ∷ 0 ∷ 0 ∷ 0 ∷ 0 ∷ 0 ∷ 0 ∷ 0 ∷ 0 ∷ 0 ∷ 0 ∷ 0 ∷ 0 ∷ 0 ∷ 0 ∷ 2 ∷ [])
    -- three events: an announcement
    ++ (0 ∷ 0 ∷ 0 ∷ 0 ∷ 0 ∷ 0 ∷ 0 ∷ 3 ∷ 4 ∷ [])
    -- a frame of 26 bytes from peer 0: a Data of incarnation 1, number 1
    ++ (1 ∷ 0 ∷ 0 ∷ 0 ∷ 0 ∷ 0 ∷ 0 ∷ 0 ∷ 0 ∷ 0 ∷ 0 ∷ 0 ∷ 26 ∷ 2 ∷ 0 ∷ 0 ∷ 0 ∷ 1 ∷ 0 ∷ 0 ∷ 0 ∷ 0 ∷ 0 ∷ 0 ∷ 0 ∷ 1 ∷ [])
    -- with a TAG of the time 0, microstep 0
    ++ (3 ∷ 0 ∷ 0 ∷ 0 ∷ 0 ∷ 0 ∷ 0 ∷ 0 ∷ 0 ∷ 0 ∷ 0 ∷ 0 ∷ 0 ∷ [])
    -- an advance
    ++ (5 ∷ [])
