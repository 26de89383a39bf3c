-- Rows as members of a JSON object: the tag, what was present, and what was set.
use Rattle.std.specs.Prelude.{if◌then◌else◌, ℕ, ℤ, List, [], ◌∷◌, ◌++◌, slice_get, Option, None, Some, codes}
use Rattle.std.specs.List.{join_by}
use Rattle.std.specs.Fmt.{signed_decimal}
use Rattle.json.specs.Print.{escape}
use Rattle.network.specs.Event.{Entry}
use Rattle.network.specs.Undivided.{Row}
use Rattle.plan_slots.specs.declared.slots.Slots.{Slots}
use Rattle.plan_slots.specs.Numbering.{is_bare}
use Rattle.plan.specs.declared.draft.Federate.{Federate}
use Rattle.plan.specs.declared.draft.Draft.{Draft}
use Rattle.reactor_program.specs.Resolution.{slot_names}
use Rattle.files_text.specs.RowText.{name_at}
use Rattle.fedrun_trace.specs.Frames.{tag_member}

-- a name with its value, as `"total":3`
unfoldable pub valued_member : (name : List ℕ) → (value : ℤ) → List ℕ
valued_member name value = codes "\"" ++ (escape name ++ (codes "\":" ++ signed_decimal value))

-- the name of what has no value
unfoldable pub bare_member : (name : List ℕ) → List ℕ
bare_member name = codes "\"" ++ (escape name ++ codes "\":true")

-- a slot that was present
unfoldable pub present_member : Slots → Entry → List ℕ
present_member s e =
    if is_bare s e.place then bare_member (name_at (slot_names s) e.place)
    else valued_member (name_at (slot_names s) e.place) e.value

-- an output that was set
unfoldable pub set_member : Slots → Entry → List ℕ
set_member s e = valued_member (name_at s.outputs e.place) e.value

-- entries as members of an object
unfoldable pub object_text : (Entry → List ℕ) → List Entry → List ℕ
object_text member entries = codes "{" ++ (join_by member (codes ",") entries ++ codes "}")

-- what was present
unfoldable pub inputs_member : Slots → List Entry → List ℕ
inputs_member s entries = codes ",\"inputs\":" ++ object_text (present_member s) entries

-- what was set
unfoldable pub outputs_member : Slots → List Entry → List ℕ
outputs_member s entries = codes ",\"outputs\":" ++ object_text (set_member s) entries

-- a row of this federate
abbrev pub turn_members : Option Federate → Row → List ℕ
turn_members None row = []
turn_members (Some f) row =
    tag_member row.tag ++ (inputs_member f.slots row.inputs ++ outputs_member f.slots row.outputs)

-- the row of a step, if it made one
abbrev pub row_members : Draft → List Row → List ℕ
row_members d [] = []
row_members d (row ∷ rest) = turn_members (slice_get d.federates row.reactor) row
