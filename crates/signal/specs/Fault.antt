-- What is wrong with the bytes that stand where a frame should begin, and how each fault is printed.
use Rattle.std.specs.Prelude.{ℕ, zero, suc, ◌+◌, ◌^◌, List, ◌++◌, codes, length, take, drop, slice_index, Bool, nat_lt}
use Rattle.std.specs.Prelude.{nat_le, ◌==◌, ◌&&◌, ◌||◌, not, if◌then◌else◌, Option, Some, None, is_some}
use Rattle.std.specs.Fmt.{decimal}
use Rattle.byteorder.specs.Endian.{big_number}
use Rattle.tag.specs.LogicalTime.{forever}
use Rattle.signal.specs.declared.wire.TheConstants.{LENGTH_SIZE, LONGEST_BODY, HELLO_KIND, HELLO_SIZE, DATA_KIND}
use Rattle.signal.specs.declared.wire.TheConstants.{BEFORE_SIGNAL, ACK_KIND, ACK_SIZE, REFUSE_KIND, REFUSE_SIZE}
use Rattle.signal.specs.declared.wire.TheConstants.{BATCH_KIND, BEFORE_SIGNALS, LEAST_SIGNALS, MOST_SIGNALS, NET_KIND}
use Rattle.signal.specs.declared.wire.TheConstants.{MSG_KIND, TAG_SIZE, MSG_SIZE, FOREVER_TIME, FOREVER_MICROSTEP}
use Rattle.signal.specs.declared.fault.FrameFault.{FrameFault}
use Rattle.signal.specs.declared.fault.FrameFault.TheVariants.{BadLength, BadKind, BadTag, Trailing}

-- the number by which a fault is printed
abbrev pub number_of : FrameFault → ℕ
number_of BadLength = 40
number_of BadKind = 41
number_of BadTag = 42
number_of Trailing = 43

-- the name by which a fault is printed
abbrev pub name_of : FrameFault → List ℕ
name_of BadLength = codes "BadLength"
name_of BadKind = codes "BadKind"
name_of BadTag = codes "BadTag"
name_of Trailing = codes "Trailing"

-- the number of the out-of-memory fault
abbrev pub memory_number : ℕ
memory_number = 44

-- a number, a space and a name
abbrev pub printed_fault : ℕ → List ℕ → List ℕ
printed_fault number name = decimal number ++ (codes " " ++ name)

-- what is printed of a fault
abbrev pub text_of : FrameFault → List ℕ
text_of fault = printed_fault (number_of fault) (name_of fault)

-- what is printed of the out-of-memory fault
abbrev pub memory_text : List ℕ
memory_text = printed_fault memory_number (codes "Memory")

-- kinds of frames and kinds of signals are numbered from 1 to the last
abbrev pub is_kind : (last kind : ℕ) → Bool
is_kind last kind = nat_lt 0 kind && nat_le kind last

-- the number of n bytes at a place
abbrev pub number_at : ℕ → ℕ → List ℕ → ℕ
number_at place n bytes = big_number n (drop place bytes)

-- a time before FOREVER's; twelve bytes ff are FOREVER, which only a NET may say
abbrev pub is_tag : Bool → ℕ → ℕ → Bool
is_tag is_net time microstep =
    nat_lt time forever.time || (is_net && time == FOREVER_TIME && microstep == FOREVER_MICROSTEP)

abbrev pub signal_size : ℕ → ℕ
signal_size kind = if kind == MSG_KIND then MSG_SIZE else TAG_SIZE

-- where the tag of a signal stands: in a MSG behind its connection
abbrev pub tag_place : ℕ → ℕ
tag_place kind = if kind == MSG_KIND then 3 else 1

-- whether the tag of the signal at the front is one
abbrev pub has_tag : List ℕ → Bool
has_tag bytes =
    let kind = slice_index bytes 0 in
    is_tag (kind == NET_KIND) (number_at (tag_place kind) 8 bytes) (number_at (tag_place kind + 8) 4 bytes)

-- the first fault of a signal, of which at least the first byte is there
abbrev pub signal_fault : List ℕ → Option FrameFault
signal_fault bytes =
    let kind = slice_index bytes 0 in
    if not (is_kind MSG_KIND kind) then Some BadKind
    else if nat_lt (length bytes) (signal_size kind) then Some BadLength
    else if nat_lt (signal_size kind) (length bytes) then Some Trailing
    else if not (has_tag bytes) then Some BadTag
    else None

-- the first fault of n signals that should fill the bytes, whatever their tags are
abbrev pub shape_fault : ℕ → List ℕ → Option FrameFault
shape_fault zero bytes = if nat_lt 0 (length bytes) then Some Trailing else None
shape_fault (suc n) bytes =
    let kind = slice_index bytes 0 in
    if nat_lt (length bytes) 1 then Some BadLength
    else if not (is_kind MSG_KIND kind) then Some BadKind
    else if nat_lt (length bytes) (signal_size kind) then Some BadLength
    else shape_fault n (drop (signal_size kind) bytes)

-- the fault of n signals of which one has no tag
abbrev pub tags_fault : ℕ → List ℕ → Option FrameFault
tags_fault zero bytes = None
tags_fault (suc n) bytes =
    if not (has_tag bytes) then Some BadTag else tags_fault n (drop (signal_size (slice_index bytes 0)) bytes)

-- the first fault of n signals that should fill the bytes
abbrev pub signals_fault : ℕ → List ℕ → Option FrameFault
signals_fault n bytes = if is_some (shape_fault n bytes) then shape_fault n bytes else tags_fault n bytes

-- the first fault of a Batch, of which all is there that stands before its signals
abbrev pub batch_fault : List ℕ → Option FrameFault
batch_fault body =
    let count = slice_index body 13 in
    if nat_lt count LEAST_SIGNALS || nat_lt MOST_SIGNALS count then Some BadKind
    else if nat_lt (2 ^ 64) (number_at 5 8 body + count) then Some BadKind
    else signals_fault count (drop BEFORE_SIGNALS body)

-- the least body of each kind: of a Data up to the first byte of its signal, of a Batch what stands before its signals
abbrev pub least_size : ℕ → ℕ
least_size kind =
    if kind == HELLO_KIND then HELLO_SIZE
    else if kind == DATA_KIND then BEFORE_SIGNAL + 1
    else if kind == ACK_KIND then ACK_SIZE
    else if kind == REFUSE_KIND then REFUSE_SIZE
    else BEFORE_SIGNALS

-- the first fault of a whole body
abbrev pub body_fault : List ℕ → Option FrameFault
body_fault body =
    let kind = slice_index body 0 in
    if not (is_kind BATCH_KIND kind) then Some BadKind
    else if nat_lt (length body) (least_size kind) then Some BadLength
    else if kind == DATA_KIND then signal_fault (drop BEFORE_SIGNAL body)
    else if kind == BATCH_KIND then batch_fault body
    else if nat_lt (least_size kind) (length body) then Some Trailing
    else if kind == HELLO_KIND && slice_index body 1 == 0 then Some BadKind
    else None

-- a frame's body has one byte at least, and no more than the longest
abbrev pub is_length : ℕ → Bool
is_length n = nat_lt 0 n && nat_le n LONGEST_BODY

-- the length that stands in front
abbrev pub length_at : List ℕ → ℕ
length_at bytes = big_number LENGTH_SIZE bytes

-- the bytes end before the frame's length is there, or before all of its body is
abbrev pub is_partial : List ℕ → Bool
is_partial bytes =
    nat_lt (length bytes) LENGTH_SIZE
    || (is_length (length_at bytes) && nat_lt (length bytes) (LENGTH_SIZE + length_at bytes))

-- the fault of the frame that should begin here, as far as the bytes decide it
abbrev pub fault_at : List ℕ → Option FrameFault
fault_at bytes =
    if is_partial bytes then None
    else if not (is_length (length_at bytes)) then Some BadLength
    else body_fault (take (length_at bytes) (drop LENGTH_SIZE bytes))
