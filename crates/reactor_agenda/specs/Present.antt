-- What is present at a tag, found slot by slot.
use Rattle.std.specs.Prelude.{◌<◌, if◌then◌else◌, nat_lt, nat_eq, List, [], ◌∷◌}
use Rattle.network.specs.Event.{Entry}
use Rattle.network.specs.Undone.{PendingEvent}
use Rattle.reactor_agenda.specs.Invariant.{EachBefore}

-- an event, where its tag is known
abbrev pub entry_of : PendingEvent → Entry
entry_of e = record { place = e.slot; value = e.value }

-- with one more entry, which replaces an older one for its slot
abbrev pub set_entry : Entry → List Entry → List Entry
set_entry e [] = e ∷ []
set_entry e (x ∷ rest) =
    if nat_lt e.place x.place then e ∷ x ∷ rest else (if nat_eq e.place x.place then e ∷ rest else x ∷ set_entry e rest)

-- each is for a lower slot than all that follow
abbrev pub AreInPlace : List Entry → Type 0
AreInPlace entries = EachBefore (λ e later. e.place < later.place) entries

-- with these entries, one after the other
abbrev pub set_entries : List Entry → List Entry → List Entry
set_entries [] entries = entries
set_entries (e ∷ rest) entries = set_entries rest (set_entry e entries)
