-- A body put together again from the parts that were read one after the other.
use Rattle.std.proofs.Common.{◌≡◌, ℕ, ◌+◌, ◌-◌, ◌<◌, ◌≤◌, List, [], ◌∷◌, ◌++◌, length, get_or, take, drop, false, ltb, Some, refl, sym, ap, ◌∙◌, arith}
use Rattle.std.proofs.lemmas.List.{nil_from_length, length-drop, length-append, drop_more, drop-drop, take_rest, take_all, take-append-drop}
use Rattle.std.proofs.lemmas.Bool.{le-ltb}
use Rattle.byteorder.specs.Endian.{big_bytes}
use Rattle.signal.specs.declared.fault.FrameFault.{FrameFault}
use Rattle.signal.specs.Fault.{signal_fault, body_fault}

-- the bytes from a place on, as code takes them
abbrev pub from : ℕ → List ℕ → List ℕ
from place body = take (length body - place) (drop place body)

-- a list is its first item and the others
pub headed : (body fields : List ℕ) (first : ℕ) → 0 < length body → get_or body 0 0 ≡ first → drop 1 body ≡ fields → body ≡ first ∷ fields
headed body fields first there e f = drop_more body 0 0 there ∙ rw (e, f) refl

-- a field and the bytes behind it
pub field_then : (bytes front rest fields : List ℕ) → bytes ≡ front ++ rest → rest ≡ fields → bytes ≡ front ++ fields
field_then bytes front rest fields first e = first ∙ ap (λ (r : List ℕ). front ++ r) e

pub ack_parts : (body rest more : List ℕ) (incarnation last_taken : ℕ) → length body ≡ 13 → get_or body 0 0 ≡ 3
    → from 1 body ≡ big_bytes 4 incarnation ++ rest → rest ≡ big_bytes 8 last_taken ++ more
    → body ≡ 3 ∷ big_bytes 4 incarnation ++ big_bytes 8 last_taken
ack_parts body rest more incarnation last_taken size kind first second =
    let start : drop 1 body ≡ big_bytes 4 incarnation ++ rest = sym (take_rest body 1) ∙ first in
    let a : length (drop 1 body) ≡ 4 + length rest = ap length start ∙ length-append (big_bytes 4 incarnation) rest in
    let b : length rest ≡ 8 + length more = ap length second ∙ length-append (big_bytes 8 last_taken) more in
    let nothing : more ≡ [] = nil_from_length more (omega (arith, length-drop 1 body)) in
    headed body (big_bytes 4 incarnation ++ big_bytes 8 last_taken) 3 (omega arith) kind
    (field_then _ (big_bytes 4 incarnation) rest _ start (field_then _ (big_bytes 8 last_taken) more [] second nothing))

pub hello_parts : (body rest others more : List ℕ) (federate incarnation last_taken : ℕ) → length body ≡ 16 → get_or body 0 0 ≡ 1
    → from 2 body ≡ big_bytes 2 federate ++ rest → rest ≡ big_bytes 4 incarnation ++ others → others ≡ big_bytes 8 last_taken ++ more
    → body ≡ 1 ∷ get_or body 1 0 ∷ big_bytes 2 federate ++ big_bytes 4 incarnation ++ big_bytes 8 last_taken
hello_parts body rest others more federate incarnation last_taken size kind first second third =
    let start : drop 2 body ≡ big_bytes 2 federate ++ rest = sym (take_rest body 2) ∙ first in
    let a : length (drop 2 body) ≡ 2 + length rest = ap length start ∙ length-append (big_bytes 2 federate) rest in
    let b : length rest ≡ 4 + length others = ap length second ∙ length-append (big_bytes 4 incarnation) others in
    let d : length others ≡ 8 + length more = ap length third ∙ length-append (big_bytes 8 last_taken) more in
    let nothing : more ≡ [] = nil_from_length more (omega (arith, length-drop 2 body)) in
    let fields : drop 2 body ≡ big_bytes 2 federate ++ (big_bytes 4 incarnation ++ big_bytes 8 last_taken) =
    field_then _ (big_bytes 2 federate) rest _ start
    (field_then _ (big_bytes 4 incarnation) others _ second (field_then _ (big_bytes 8 last_taken) more [] third nothing)) in
    let version : drop 1 body ≡ get_or body 1 0 ∷ drop 2 body = drop_more body 1 0 (omega arith) in
    headed body (get_or body 1 0 ∷ big_bytes 2 federate ++ big_bytes 4 incarnation ++ big_bytes 8 last_taken) 1 (omega arith) kind
    (version ∙ ap (λ (r : List ℕ). get_or body 1 0 ∷ r) fields)

pub data_parts : (body rest signal bytes : List ℕ) (incarnation number : ℕ) → 14 ≤ length body → get_or body 0 0 ≡ 2
    → from 1 body ≡ big_bytes 4 incarnation ++ rest → rest ≡ big_bytes 8 number ++ signal → signal ≡ bytes
    → body ≡ 2 ∷ big_bytes 4 incarnation ++ big_bytes 8 number ++ bytes
data_parts body rest signal bytes incarnation number size kind first second third =
    headed body (big_bytes 4 incarnation ++ big_bytes 8 number ++ bytes) 2 (omega arith) kind
    (field_then _ (big_bytes 4 incarnation) rest _ (sym (take_rest body 1) ∙ first) (field_then _ (big_bytes 8 number) signal _ second third))

-- the signal of a Data begins at place 13
pub signal_place : (body rest signal : List ℕ) → rest ≡ drop 4 (from 1 body) → signal ≡ drop 8 rest → signal ≡ drop 13 body
signal_place body rest signal e f =
    f ∙ ap (drop 8) (e ∙ ap (drop 4) (take_rest body 1) ∙ drop-drop 4 1 body) ∙ drop-drop 8 5 body

-- what is wrong with the signal is wrong with the Data
pub signal_fault_counts : (body signal : List ℕ) (fault : FrameFault) → 14 ≤ length body → get_or body 0 0 ≡ 2 → signal ≡ drop 13 body → signal_fault signal ≡ Some fault → body_fault body ≡ Some fault
signal_fault_counts body signal fault size kind place h =
    let long : ltb (length body) 14 ≡ false = le-ltb _ _ size in
    rw (kind, long) (ap signal_fault (sym place) ∙ h)

-- a NET, an LTC or a TAG: its kind and twelve bytes
pub tag_parts : (bytes tag : List ℕ) (kind : ℕ) → length bytes ≡ 13 → get_or bytes 0 0 ≡ kind → take 12 (from 1 bytes) ≡ tag → bytes ≡ kind ∷ tag
tag_parts bytes tag kind size first e =
    let all : take 12 (from 1 bytes) ≡ from 1 bytes = take_all 12 (from 1 bytes) (omega (arith, ap length (take_rest bytes 1), length-drop 1 bytes)) in
    headed bytes tag kind (omega arith) first (sym (take_rest bytes 1) ∙ sym all ∙ e)

pub message_parts : (bytes fields more tag : List ℕ) (connection value spelled : ℕ) → length bytes ≡ 23 → get_or bytes 0 0 ≡ 4
    → from 1 bytes ≡ big_bytes 2 connection ++ fields → take 12 fields ≡ tag → from 12 fields ≡ big_bytes 8 value ++ more → spelled ≡ value
    → bytes ≡ 4 ∷ big_bytes 2 connection ++ tag ++ big_bytes 8 spelled
message_parts bytes fields more tag connection value spelled size kind first second third same =
    let start : drop 1 bytes ≡ big_bytes 2 connection ++ fields = sym (take_rest bytes 1) ∙ first in
    let last : drop 12 fields ≡ big_bytes 8 value ++ more = sym (take_rest fields 12) ∙ third in
    let a : length (drop 1 bytes) ≡ 2 + length fields = ap length start ∙ length-append (big_bytes 2 connection) fields in
    let b : length (drop 12 fields) ≡ 8 + length more = ap length last ∙ length-append (big_bytes 8 value) more in
    let nothing : more ≡ [] = nil_from_length more (omega (arith, length-drop 1 bytes, length-drop 12 fields)) in
    let end : drop 12 fields ≡ big_bytes 8 spelled = field_then (drop 12 fields) (big_bytes 8 value) more [] last nothing ∙ ap (big_bytes 8) (sym same) in
    let whole : fields ≡ tag ++ big_bytes 8 spelled = sym (take-append-drop 12 fields) ∙ rw (second, end) refl in
    headed bytes (big_bytes 2 connection ++ tag ++ big_bytes 8 spelled) 4 (omega arith) kind
    (field_then _ (big_bytes 2 connection) fields _ start whole)
