-- Rows as text: who, when, what was present, and what was set.
use Rattle.std.specs.Prelude.{ℕ, if◌then◌else◌, List, [], ◌++◌, slice_get, slice_index_or, Option, None, Some, codes}
use Rattle.std.specs.List.{flat_map, join_by}
use Rattle.std.specs.Fmt.{signed_decimal}
use Rattle.tag.specs.LogicalTime.{LogicalTime}
use Rattle.tag.specs.Printed.{printed_tag}
use Rattle.network.specs.Event.{Entry}
use Rattle.network.specs.Undivided.{Row}
use Rattle.plan_slots.specs.declared.slots.Slots.{Slots}
use Rattle.plan.specs.declared.draft.Federate.{Federate}
use Rattle.plan_slots.specs.Numbering.{is_bare}
use Rattle.reactor_program.specs.Resolution.{slot_names}

-- the name at this place of these
abbrev pub name_at : List (List ℕ) → ℕ → List ℕ
name_at names place = slice_index_or names place []

-- a name with a value, as `total=3`
abbrev pub valued : List (List ℕ) → Entry → List ℕ
valued names e = name_at names e.place ++ (codes "=" ++ signed_decimal e.value)

-- a slot that was present
unfoldable pub printed_input : Slots → Entry → List ℕ
printed_input s e = if is_bare s e.place then name_at (slot_names s) e.place else valued (slot_names s) e

-- an output that was set
unfoldable pub printed_output : Slots → Entry → List ℕ
printed_output s e = valued s.outputs e

-- entries in brackets, parted by one space
abbrev pub bracketed : (Entry → List ℕ) → List Entry → List ℕ
bracketed printed entries = codes "[" ++ (join_by printed (codes " ") entries ++ codes "]")

-- a tag between spaces
unfoldable pub spaced_tag : LogicalTime → List ℕ
spaced_tag g = codes " " ++ (printed_tag g ++ codes " ")

-- what was present, and the arrow after it
unfoldable pub printed_inputs : Slots → List Entry → List ℕ
printed_inputs s entries = bracketed (printed_input s) entries ++ codes " -> "

-- what was set, and the end of the line
unfoldable pub printed_outputs : Slots → List Entry → List ℕ
printed_outputs s entries = bracketed (printed_output s) entries ++ codes "\n"

-- a row of this federate
unfoldable pub printed_turn : Federate → Row → List ℕ
printed_turn f row =
    f.name ++ (codes " " ++ (printed_tag row.tag ++ (codes " " ++ (bracketed (printed_input f.slots) row.inputs
    ++ (codes " -> " ++ bracketed (printed_output f.slots) row.outputs)))))

abbrev pub printed_by : Option Federate → Row → List ℕ
printed_by None row = []
printed_by (Some f) row = printed_turn f row

-- a row of one of these federates
abbrev pub printed_row : List Federate → Row → List ℕ
printed_row federates row = printed_by (slice_get federates row.reactor) row

-- a row with the end of its line
abbrev pub printed_line : List Federate → Row → List ℕ
printed_line federates row = printed_row federates row ++ codes "\n"

-- rows, one a line
abbrev pub printed_rows : List Federate → List Row → List ℕ
printed_rows federates rows = flat_map (printed_line federates) rows
