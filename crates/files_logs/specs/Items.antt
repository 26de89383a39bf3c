-- What a block says: which events came, oldest first, and among them that the run is finished.
use Rattle.std.specs.Prelude.{◌≡◌, ℕ, ◌==◌, if◌then◌else◌, Bool, true, false, List, [], ◌∷◌, ◌++◌, map, Ok, Err}
use Rattle.std.specs.List.{flat_map}
use Rattle.node.specs.declared.event.Event.{Event}
use Rattle.files_reports.specs.declared.content_fault.ContentFault.TheVariants.{Short}
use Rattle.files_reports.specs.Said.{IsEvent}
use Rattle.files_reports.specs.Spelling.{event_bytes}
use Rattle.files_reports.specs.Reading.{Part, ◌>>=◌, event_of_kind}
use Rattle.files_logs.specs.declared.layout.TheConstants.{TOLD_KIND}
use Rattle.files_logs.specs.declared.item.Item.{Item}
use Rattle.files_logs.specs.declared.item.Item.TheVariants.{Came, Told}

-- an event as in a report, or one byte
abbrev pub item_bytes : Item → List ℕ
item_bytes (Came event) = event_bytes event
item_bytes Told = TOLD_KIND ∷ []

-- all of them, one behind the other
abbrev pub items_bytes : List Item → List ℕ
items_bytes items = flat_map item_bytes items

-- what has a spelling
abbrev pub IsItem : Item → Type 0
IsItem (Came event) = IsEvent event
IsItem Told = Unit {0}

-- the events among them
abbrev pub events_of : List Item → List Event
events_of [] = []
events_of (Came event ∷ items) = event ∷ events_of items
events_of (Told ∷ items) = events_of items

-- whether one of them says that the run is finished
abbrev pub is_told_in : List Item → Bool
is_told_in [] = false
is_told_in (Came event ∷ items) = is_told_in items
is_told_in (Told ∷ items) = true

-- these events, and behind them, if so, that the run is finished
abbrev pub items_for : List Event → Bool → List Item
items_for events told = map Came events ++ (if told then Told ∷ [] else [])

-- what is read at the front of what a block says
abbrev pub item_part : List ℕ → Part Item
item_part [] = Err Short
item_part (kind ∷ bytes) =
    if kind == TOLD_KIND then Ok (Told, bytes)
    else (event_of_kind kind bytes >>= λ event. Ok (Came event.0, event.1))
