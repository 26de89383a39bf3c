-- Frames by their names, and what they carry as members of a JSON object, each behind its comma. Names of federates and
-- of their inputs are escaped as the kit's JSON writer escapes texts.
use Rattle.std.specs.Prelude.{ℕ, ℤ, List, [], ◌++◌, slice_get, Option, None, Some, codes}
use Rattle.std.specs.Fmt.{decimal, signed_decimal}
use Rattle.json.specs.Print.{escape}
use Rattle.tag.specs.LogicalTime.{LogicalTime}
use Rattle.tag.specs.Printed.{printed_tag}
use Rattle.network.specs.Connection.{Connection}
use Rattle.signal.specs.declared.signal.Signal.{Signal}
use Rattle.signal.specs.declared.signal.Signal.TheVariants.{Net, Ltc, Tag, Msg}
use Rattle.signal.specs.declared.frame.Frame.{Frame}
use Rattle.signal.specs.declared.frame.Frame.TheVariants.{Hello, Data, Ack, Refuse}
use Rattle.plan.specs.declared.draft.Draft.{Draft}
use Rattle.plan.specs.Federation.{connections_of}
use Rattle.world_stations.specs.declared.dir.Dir.{Dir}
use Rattle.world_stations.specs.World.{federate_of}
use Rattle.files_text.specs.PlanText.{federate_name}
use Rattle.files_record.specs.StepText.{way_of}
use Rattle.fedrun_frames.specs.FrameText.{input_name}

-- a signal's name
abbrev pub signal_name : Signal → List ℕ
signal_name (Net tag) = codes "NET"
signal_name (Ltc tag) = codes "LTC"
signal_name (Tag tag) = codes "TAG"
signal_name (Msg connection tag value) = codes "MSG"

-- a frame's name: that of the signal that it carries, if it carries one
abbrev pub frame_name : Frame → List ℕ
frame_name (Hello hello) = codes "Hello"
frame_name (Data incarnation number signal) = signal_name signal
frame_name (Ack incarnation last_taken) = codes "Ack"
frame_name (Refuse incarnation refusal) = codes "Refuse"

-- a federate's name, escaped
abbrev pub name_text : Draft → ℕ → List ℕ
name_text d j = escape (federate_name d j)

-- one direction of a link, as in a schedule
abbrev pub way_text : Draft → Dir → List ℕ
way_text d dir = way_of dir ++ (codes " " ++ name_text d (federate_of dir))

-- the k-th frame there, by the words that `deliver` names it with
abbrev pub sent_name : Draft → Dir → (k : ℕ) → List ℕ
sent_name d dir k = way_text d dir ++ (codes " " ++ decimal k)

-- a tag
unfoldable pub tag_member : LogicalTime → List ℕ
tag_member tag = codes ",\"tag\":\"" ++ (printed_tag tag ++ codes "\"")

-- the input at a slot of a federate, as `snk.x`
unfoldable pub port_text : Draft → (federate slot : ℕ) → List ℕ
port_text d federate slot =
    name_text d federate ++ (codes "." ++ escape (input_name (slice_get d.federates federate) slot))

-- the same, as a member
unfoldable pub port_member : Draft → (federate slot : ℕ) → List ℕ
port_member d federate slot = codes ",\"input\":\"" ++ (port_text d federate slot ++ codes "\"")

-- the input at which a connection ends
abbrev pub input_member : Draft → Option Connection → List ℕ
input_member d None = []
input_member d (Some c) = port_member d c.target c.slot

-- the value of a message
unfoldable pub value_member : ℤ → List ℕ
value_member value = codes ",\"value\":" ++ signed_decimal value

-- what a signal says: its tag; a message also its input, and the value there
abbrev pub signal_members : Draft → Signal → List ℕ
signal_members d (Net tag) = tag_member tag
signal_members d (Ltc tag) = tag_member tag
signal_members d (Tag tag) = tag_member tag
signal_members d (Msg connection tag value) =
    tag_member tag ++ (input_member d (slice_get (connections_of d) connection) ++ value_member value)

-- the incarnation of the frame's sender
unfoldable pub incarnation_member : ℕ → List ℕ
incarnation_member incarnation = codes ",\"incarnation\":" ++ decimal incarnation

-- the number of the signal that its sender took last
unfoldable pub taken_members : (last_taken incarnation : ℕ) → List ℕ
taken_members last_taken incarnation = codes ",\"taken\":" ++ (decimal last_taken ++ incarnation_member incarnation)

-- why it refuses frames of an incarnation
unfoldable pub refusal_members : (refusal incarnation : ℕ) → List ℕ
refusal_members refusal incarnation = codes ",\"refusal\":" ++ (decimal refusal ++ incarnation_member incarnation)

-- the number of a signal
unfoldable pub number_member : ℕ → List ℕ
number_member number = codes ",\"number\":" ++ decimal number

-- what a frame carries
unfoldable pub frame_members : Draft → Frame → List ℕ
frame_members d (Hello hello) = taken_members hello.last_taken hello.incarnation
frame_members d (Data incarnation number signal) =
    number_member number ++ (signal_members d signal ++ incarnation_member incarnation)
frame_members d (Ack incarnation last_taken) = taken_members last_taken incarnation
frame_members d (Refuse incarnation refusal) = refusal_members refusal incarnation

-- which frame it is, and what it carries
unfoldable pub sent_members : Draft → Dir → (k : ℕ) → Frame → List ℕ
sent_members d dir k frame = codes "\"frame\":\"" ++ (sent_name d dir k ++ (codes "\"" ++ frame_members d frame))
