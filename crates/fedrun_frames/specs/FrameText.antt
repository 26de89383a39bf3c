-- Signals and frames as text.
use Rattle.std.specs.Prelude.{ℕ, ◌-◌, if◌then◌else◌, nat_eq, List, [], ◌++◌, slice_get, Option, None, Some, codes}
use Rattle.std.specs.Fmt.{decimal, signed_decimal}
use Rattle.tag.specs.Printed.{printed_tag}
use Rattle.network.specs.Connection.{Connection}
use Rattle.signal.specs.declared.signal.Signal.{Signal}
use Rattle.signal.specs.declared.signal.Signal.TheVariants.{Net, Ltc, Tag, Msg}
use Rattle.signal.specs.declared.frame.Frame.{Frame}
use Rattle.signal.specs.declared.frame.Frame.TheVariants.{Hello, Data, Ack, Refuse}
use Rattle.plan_slots.specs.Numbering.{first_input}
use Rattle.plan.specs.declared.draft.Federate.{Federate}
use Rattle.plan.specs.declared.draft.Draft.{Draft}
use Rattle.plan.specs.Federation.{connections_of}
use Rattle.files_text.specs.RowText.{name_at}
use Rattle.files_text.specs.PlanText.{federate_name}

-- the name of the input at this slot
abbrev pub input_name : Option Federate → (slot : ℕ) → List ℕ
input_name None slot = []
input_name (Some f) slot = name_at f.slots.inputs (slot - first_input)

-- the input at which a connection ends, as `snk.x`
abbrev pub input_text : Draft → Option Connection → List ℕ
input_text d None = codes "."
input_text d (Some c) = federate_name d c.target ++ (codes "." ++ input_name (slice_get d.federates c.target) c.slot)

-- a signal: its name and its tag; of a message also the input to which it goes, and the value there
abbrev pub signal_text : Draft → Signal → List ℕ
signal_text d (Net tag) = codes "NET " ++ printed_tag tag
signal_text d (Ltc tag) = codes "LTC " ++ printed_tag tag
signal_text d (Tag tag) = codes "TAG " ++ printed_tag tag
signal_text d (Msg connection tag value) =
    codes "MSG " ++ (printed_tag tag
    ++ (codes " " ++ (input_text d (slice_get (connections_of d) connection)
    ++ (codes "=" ++ signed_decimal value))))

-- an incarnation, where it isn't the first
abbrev pub incarnation_text : ℕ → List ℕ
incarnation_text incarnation = if nat_eq incarnation 1 then [] else codes ", incarnation " ++ decimal incarnation

-- a frame: its name, its number, and what it carries
abbrev pub frame_text : Draft → Frame → List ℕ
frame_text d (Hello hello) = codes "Hello taken " ++ (decimal hello.last_taken ++ incarnation_text hello.incarnation)
frame_text d (Data incarnation number signal) =
    codes "Data " ++ (decimal number ++ (codes " " ++ (signal_text d signal ++ incarnation_text incarnation)))
frame_text d (Ack incarnation last_taken) = codes "Ack " ++ (decimal last_taken ++ incarnation_text incarnation)
frame_text d (Refuse incarnation refusal) = codes "Refuse " ++ (decimal refusal ++ incarnation_text incarnation)
