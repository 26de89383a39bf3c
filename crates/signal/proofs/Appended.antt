-- The bytes that are appended are those of the signals and frames.
use Rattle.std.proofs.Common.{◌≡◌, ℕ, ◌+◌, List, [], ◌∷◌, ◌++◌, length, take, Result, Ok, Err, sym, ap, subst, ◌∙◌, arith, append_assoc}
use Rattle.std.specs.Prelude.{OnOk, OnErr}
use Rattle.std.specs.List.{flat_map}
use Rattle.std.proofs.lemmas.List.{append-nil, take_at}
use Rattle.byteorder.specs.Endian.{big_bytes}
use Rattle.tag.specs.LogicalTime.{LogicalTime}
use Rattle.signal.specs.declared.memory.Memory.{Memory}
use Rattle.signal.specs.declared.signal.Signal.{Signal}
use Rattle.signal.specs.declared.frame.Frame.TheVariants.{Data}
use Rattle.signal.specs.Signal.{tag_number_bytes, tag_bytes, signal_bytes}
use Rattle.signal.specs.Batch.{batch_of}
use Rattle.signal.specs.Frame.{framed, frame_bytes}
use Rattle.signal.specs.Pieces.{Extends}

abbrev pub Answer : Type 0
Answer = Result (Unit {0}) Memory

-- what is written of a value is written of an equal one
pub written_as : {X : Type 0} (spelling : X → List ℕ) (x y : X) (bytes old new : List ℕ) (r : Answer) → x ≡ y → bytes ≡ spelling y → OnOk r (new ≡ old ++ bytes) → OnOk r (new ≡ old ++ spelling x)
written_as spelling x y bytes old new r e b h = subst (λ (l : List ℕ). OnOk r (new ≡ old ++ l)) (b ∙ ap spelling (sym e)) h

-- a signal that is a kind and a tag
pub tag_signal_is : (bytes : List ℕ) (kind time microstep : ℕ) (g h : LogicalTime) → h ≡ g → tag_bytes h ≡ tag_number_bytes time microstep → bytes ≡ kind ∷ tag_number_bytes time microstep → bytes ≡ kind ∷ tag_bytes g
tag_signal_is bytes kind time microstep g h same e b = b ∙ ap (λ (l : List ℕ). kind ∷ l) (sym e ∙ ap tag_bytes same)

pub message_is : (bytes : List ℕ) (connection time microstep value said : ℕ) (g h : LogicalTime) → h ≡ g → value ≡ said → tag_bytes h ≡ tag_number_bytes time microstep
    → bytes ≡ 4 ∷ big_bytes 2 connection ++ tag_number_bytes time microstep ++ big_bytes 8 value → bytes ≡ 4 ∷ big_bytes 2 connection ++ tag_bytes g ++ big_bytes 8 said
message_is bytes connection time microstep value said g h same v e b =
    b ∙ ap (λ (l : List ℕ). 4 ∷ big_bytes 2 connection ++ l ++ big_bytes 8 value) (sym e ∙ ap tag_bytes same) ∙ ap (λ (n : ℕ). 4 ∷ big_bytes 2 connection ++ tag_bytes g ++ big_bytes 8 n) v

-- ---- one behind the other

pub nothing_more : (old new : List ℕ) → new ≡ old → Extends old new
nothing_more old new e = ([], e ∙ sym (append-nil old))

pub extends_more : (old some new more : List ℕ) → some ≡ old ++ more → Extends some new → Extends old new
extends_more old some new more e h = (more ++ h.0, h.1 ∙ ap (λ (l : List ℕ). l ++ h.0) e ∙ append_assoc old more h.0)

pub extends_both : (old some new : List ℕ) → Extends old some → Extends some new → Extends old new
extends_both old some new h k = extends_more old some new h.0 h.1 k

-- a Data: what stands before its signal, and the signal
pub data_whole : (old some new head : List ℕ) (incarnation number size : ℕ) (signal : Signal) → some ≡ old ++ head → head ≡ big_bytes 4 (13 + size) ++ 2 ∷ big_bytes 4 incarnation ++ big_bytes 8 number
    → size ≡ length (signal_bytes signal) → new ≡ some ++ signal_bytes signal → new ≡ old ++ frame_bytes (Data incarnation number signal)
data_whole old some new head incarnation number size signal e h s n =
    let bytes = signal_bytes signal in
    let long : 13 + size ≡ length (2 ∷ big_bytes 4 incarnation ++ big_bytes 8 number ++ bytes) = omega (arith, s) in
    let whole : head ++ bytes ≡ frame_bytes (Data incarnation number signal) =
    ap (λ (l : List ℕ). l ++ bytes) h ∙ ap (λ (k : ℕ). big_bytes 4 k ++ (2 ∷ big_bytes 4 incarnation ++ big_bytes 8 number ++ bytes)) long in
    n ∙ ap (λ (l : List ℕ). l ++ bytes) e ∙ append_assoc old head bytes ∙ ap (λ (l : List ℕ). old ++ l) whole

-- a Batch: what stands before its signals, and the signals
pub batch_whole : (old some new head : List ℕ) (incarnation first size count : ℕ) (signals : List Signal) → some ≡ old ++ head
    → head ≡ big_bytes 4 size ++ 5 ∷ big_bytes 4 incarnation ++ big_bytes 8 first ++ count ∷ [] → count ≡ length signals → size ≡ 14 + length (flat_map signal_bytes signals)
    → new ≡ some ++ flat_map signal_bytes signals → new ≡ old ++ framed (batch_of incarnation first signals)
batch_whole old some new head incarnation first size count signals e h c s n =
    let bytes = flat_map signal_bytes signals in
    let long : size ≡ length (batch_of incarnation first signals) = omega (arith, s) in
    let whole : head ++ bytes ≡ framed (batch_of incarnation first signals) =
    ap (λ (l : List ℕ). l ++ bytes) h ∙ ap (λ (k : ℕ). big_bytes 4 size ++ (5 ∷ big_bytes 4 incarnation ++ big_bytes 8 first ++ k ∷ bytes)) c
    ∙ ap (λ (k : ℕ). big_bytes 4 k ++ batch_of incarnation first signals) long in
    n ∙ ap (λ (l : List ℕ). l ++ bytes) e ∙ append_assoc old head bytes ∙ ap (λ (l : List ℕ). old ++ l) whole

-- ---- all or nothing

pub all_written : (r q : Answer) (old some new more : List ℕ) → q ≡ r → OnOk q (new ≡ some) → OnOk r (some ≡ old ++ more) → OnOk q (new ≡ old ++ more)
all_written r q old some new more e h k = by q h (subst (λ (x : Answer). OnOk x (some ≡ old ++ more)) (sym e) k)
  where
    by : (q : Answer) → OnOk q (new ≡ some) → OnOk q (some ≡ old ++ more) → OnOk q (new ≡ old ++ more)
    by (Ok u) h k = h ∙ k
    by (Err m) h k = tt

pub as_before : (r q : Answer) (before : ℕ) (old some new : List ℕ) → q ≡ r → before ≡ length old → OnErr q (new ≡ take before some) → OnErr r (Extends old some) → OnErr q (new ≡ old)
as_before r q before old some new e b h k = by q h (subst (λ (x : Answer). OnErr x (Extends old some)) (sym e) k)
  where
    by : (q : Answer) → OnErr q (new ≡ take before some) → OnErr q (Extends old some) → OnErr q (new ≡ old)
    by (Ok u) h k = tt
    by (Err m) h k = h ∙ ap (take before) k.1 ∙ take_at old k.0 before (sym b)
