-- Rows as comma-separated values: a line for each input and each output of a row, and one for a row that has neither.
use Rattle.std.specs.Prelude.{ℕ, ℤ, if◌then◌else◌, ◌&&◌, ◌==◌, List, [], ◌++◌, length, slice_get, Option, None, Some}
use Rattle.std.specs.Prelude.{codes}
use Rattle.std.specs.List.{flat_map}
use Rattle.std.specs.Fmt.{decimal, signed_decimal}
use Rattle.tag.specs.LogicalTime.{LogicalTime}
use Rattle.network.specs.Event.{Entry}
use Rattle.network.specs.Undivided.{Row}
use Rattle.plan_slots.specs.declared.slots.Slots.{Slots}
use Rattle.plan.specs.declared.draft.Federate.{Federate}
use Rattle.plan_slots.specs.Numbering.{is_bare}
use Rattle.reactor_program.specs.Resolution.{slot_names}
use Rattle.files_text.specs.RowText.{name_at}

-- the header: what the cells of each line are
abbrev pub csv_header : List ℕ
csv_header = codes "federate,time_ns,microstep,kind,name,value\n"

-- a cell, and the comma after it
unfoldable pub csv_cell : List ℕ → List ℕ
csv_cell text = text ++ codes ","

-- the cells of whose turn it is and when: the time in nanoseconds
unfoldable pub csv_turn_cells : Federate → LogicalTime → List ℕ
csv_turn_cells f g = csv_cell f.name ++ (csv_cell (decimal g.time) ++ csv_cell (decimal g.microstep))

-- the last cell: a value, where there is one
abbrev pub csv_value : Option ℤ → List ℕ
csv_value None = []
csv_value (Some value) = signed_decimal value

-- a line of this kind, of what has this name and maybe a value
unfoldable pub csv_line : Federate → LogicalTime → List ℕ → List ℕ → Option ℤ → List ℕ
csv_line f g kind name value =
    csv_turn_cells f g ++ (csv_cell kind ++ (csv_cell name ++ (csv_value value ++ codes "\n")))

-- the value of a slot that was present; startup and timers have none
abbrev pub value_at : Slots → Entry → Option ℤ
value_at s e = if is_bare s e.place then None else Some e.value

-- the line of a slot that was present
unfoldable pub csv_input : Federate → LogicalTime → Entry → List ℕ
csv_input f g e = csv_line f g (codes "in") (name_at (slot_names f.slots) e.place) (value_at f.slots e)

-- the line of an output that was set
unfoldable pub csv_output : Federate → LogicalTime → Entry → List ℕ
csv_output f g e = csv_line f g (codes "out") (name_at f.slots.outputs e.place) (Some e.value)

-- the lines of a row of this federate
unfoldable pub csv_turn : Federate → Row → List ℕ
csv_turn f row =
    if length row.inputs == 0 && length row.outputs == 0
    then csv_line f row.tag (codes "row") [] None
    else flat_map (csv_input f row.tag) row.inputs ++ flat_map (csv_output f row.tag) row.outputs

abbrev pub csv_by : Option Federate → Row → List ℕ
csv_by None row = []
csv_by (Some f) row = csv_turn f row

-- the lines of a row of one of these federates
abbrev pub csv_row : List Federate → Row → List ℕ
csv_row federates row = csv_by (slice_get federates row.reactor) row
