-- What a node says, as bytes. All numbers have their highest byte first; tags and frames look as on the wire, a Hello
-- as one of the first version.
use Rattle.std.specs.Prelude.{ℕ, List, [], ◌∷◌, ◌++◌, length}
use Rattle.std.specs.List.{flat_map}
use Rattle.std.specs.Int.{w64, cast_unsigned}
use Rattle.byteorder.specs.Endian.{big_bytes}
use Rattle.network.specs.Event.{Entry}
use Rattle.network.specs.Undivided.{Row}
use Rattle.signal.specs.Signal.{tag_bytes}
use Rattle.signal.specs.Frame.{frame_bytes}
use Rattle.node.specs.declared.event.Event.{Event}
use Rattle.node.specs.declared.event.Event.TheVariants.{Frame, Resend, Hello, Announce, Advance}
use Rattle.files_reports.specs.declared.layout.TheConstants.{COORDINATOR, FRAME_KIND, RESEND_KIND, HELLO_KIND}
use Rattle.files_reports.specs.declared.layout.TheConstants.{ANNOUNCE_KIND, ADVANCE_KIND}
use Rattle.files_reports.specs.Said.{Said, by_coordinator, by_federate}

-- a list: how many there are, in eight bytes, and each of them
abbrev pub counted : {X : Type 0} → (X → List ℕ) → List X → List ℕ
counted spelling xs = big_bytes 8 (length xs) ++ flat_map spelling xs

-- an entry: the slot or the output port, and its value as two's complement
abbrev pub entry_bytes : Entry → List ℕ
entry_bytes entry = big_bytes 8 entry.place ++ big_bytes 8 (cast_unsigned w64 entry.value)

-- a row: its tag, what was present, and which outputs were set
abbrev pub row_bytes : Row → List ℕ
row_bytes row = tag_bytes row.tag ++ (counted entry_bytes row.inputs ++ counted entry_bytes row.outputs)

-- an event: its kind, and what it needs
abbrev pub event_bytes : Event → List ℕ
event_bytes (Frame peer frame) = FRAME_KIND ∷ big_bytes 8 peer ++ frame_bytes frame
event_bytes (Resend peer) = RESEND_KIND ∷ big_bytes 8 peer
event_bytes (Hello peer) = HELLO_KIND ∷ big_bytes 8 peer
event_bytes Announce = ANNOUNCE_KIND ∷ []
event_bytes Advance = ADVANCE_KIND ∷ []

-- who says it, in two bytes; then its rows, if it is a federate; then its journal
abbrev pub said_bytes : Said → List ℕ
said_bytes (by_coordinator journal) = big_bytes 2 COORDINATOR ++ counted event_bytes journal
said_bytes (by_federate federate rows journal) =
    big_bytes 2 federate ++ (counted row_bytes rows ++ counted event_bytes journal)
