-- Whole logs that go on.
use Rattle.std.proofs.Common.{◌≡◌, ℕ, ◌≤◌, Bool, true, false, ◌||◌, List, [], ◌∷◌, ◌++◌, length, take, map, refl, sym, ap, subst, ◌∙◌, append-nil, arith}
use Rattle.std.specs.List.{AllByRecursion}
use Rattle.std.proofs.lemmas.List.{length-append, nil_from_length}
use Rattle.std.proofs.Math.Seq.{take-length, take-append_seam}
use Rattle.node.specs.declared.event.Event.{Event}
use Rattle.files_logs.specs.declared.item.Item.{Item}
use Rattle.files_logs.specs.declared.item.Item.TheVariants.{Came, Told}
use Rattle.files_logs.specs.declared.log_head.LogHead.{LogHead}
use Rattle.files_logs.specs.declared.log.Log.{Log}
use Rattle.files_logs.specs.Items.{events_of, is_told_in, items_for}
use Rattle.files_logs.specs.Blocks.{IsBlock, blocks_bytes, sum_behind, events_in, is_told_by}
use Rattle.files_logs.specs.Log.{head_bytes, head_sum, IsHead, log_bytes, end_bytes, ended_bytes, last_sum, IsLog, log_of}
use Rattle.files_logs.specs.Reading.{IsRead, unended, ended, IsWholeLog}
use Rattle.files_logs.specs.Cuts.{IsTornTail}
use Rattle.files_logs.specs.Writing.{blocks_of, blocks_for}
use Rattle.files_logs.proofs.Whole.{torn_dropped, log_read, ended_read, appended_log, appended_bytes, appended_sum, appended_events, appended_told}

-- ---- a torn tail that is cut off

pub within : (head : LogHead) (bytes : List ℕ) (log : Log) → IsRead head bytes log → log.whole ≤ length bytes
within head bytes log (unended blocks rest begun front is) =
    let size : log.whole ≡ length (log_bytes head blocks) = ap (λ (l : Log). l.whole) is in
    let all : length bytes ≡ length (log_bytes head blocks ++ rest) = ap length begun.begins in
    omega (arith, size, all, length-append (log_bytes head blocks) rest)
within head bytes log (ended blocks h begins is) =
    let size : log.whole ≡ length bytes = ap (λ (l : Log). l.whole) is in
    omega (arith, size)

-- what such a log says, of bytes that are just these
says : LogHead → List ℕ → Log → Type 0
says head bytes log = IsWholeLog head bytes log.sum log.journal log.is_told log.is_ended

pub settled : (head : LogHead) (bytes : List ℕ) (log : Log) → IsRead head bytes log → IsWholeLog head (take log.whole bytes) log.sum log.journal log.is_told log.is_ended
unfolding says
settled head bytes log (unended blocks rest begun front is) =
    let all = log_bytes head blocks in
    let size : log.whole ≡ length all = ap (λ (l : Log). l.whole) is in
    let cut : take log.whole bytes ≡ all = ap (λ (n : ℕ). take n bytes) size ∙ ap (λ (b : List ℕ). take (length all) b) begun.begins ∙ take-append_seam all rest in
    let whole : says head all (log_of head blocks (length all) false) = log_read head blocks begun.is_log in
    subst (λ (b : List ℕ). says head b log) (sym cut) (subst (λ (l : Log). says head all l) (sym is) whole)
settled head bytes log (ended blocks h begins is) =
    let all = ended_bytes head blocks in
    let size : log.whole ≡ length bytes = ap (λ (l : Log). l.whole) is in
    let cut : take log.whole bytes ≡ all = ap (λ (n : ℕ). take n bytes) size ∙ take-length bytes ∙ begins in
    let whole : says head all (log_of head blocks (length bytes) true) = ended_read head blocks h in
    subst (λ (b : List ℕ). says head b log) (sym cut) (subst (λ (l : Log). says head all l) (sym is) whole)

-- ---- what a whole log without an end is made of

record IsMade (head : LogHead) (bytes : List ℕ) (sum : ℕ) (journal : List Event) (told : Bool) : Type 0 where
  blocks : List (List Item)
  is_log : IsLog head blocks
  bytes_are : log_bytes head blocks ≡ bytes
  sum_is : last_sum head blocks ≡ sum
  events_are : events_in blocks ≡ journal
  told_is : is_told_by blocks ≡ told

made : (head : LogHead) (bytes : List ℕ) (sum : ℕ) (journal : List Event) (told : Bool) → IsWholeLog head bytes sum journal told false → IsMade head bytes sum journal told
made head bytes sum journal told (unended blocks rest begun front is) =
    let all = log_bytes head blocks in
    let size : length bytes ≡ length all = ap (λ (l : Log). l.whole) is in
    let longer : length bytes ≡ length (all ++ rest) = ap length begun.begins in
    let none : rest ≡ [] = nil_from_length rest (omega (arith, size, longer, length-append all rest)) in
    record {
      blocks = blocks;
      is_log = begun.is_log;
      bytes_are = sym (begun.begins ∙ ap (λ (r : List ℕ). all ++ r) none ∙ append-nil all);
      sum_is = sym (ap (λ (l : Log). l.sum) is);
      events_are = sym (ap (λ (l : Log). l.journal) is);
      told_is = sym (ap (λ (l : Log). l.is_told) is);
    }
made head bytes sum journal told (ended blocks h begins is) =
    let clash : false ≡ true = ap (λ (l : Log). l.is_ended) is in
    absurd (cc clash)

-- ---- what a block says that is appended

events_came : (events : List Event) (items : List Item) → events_of (map Came events ++ items) ≡ events ++ events_of items
events_came [] items = refl
events_came (event ∷ events) items = ap (λ (es : List Event). event ∷ es) (events_came events items)

told_came : (events : List Event) (items : List Item) → is_told_in (map Came events ++ items) ≡ is_told_in items
told_came [] items = refl
told_came (event ∷ events) items = told_came events items

events_for : (events : List Event) (told : Bool) → events_of (items_for events told) ≡ events
events_for events true = events_came events (Told ∷ []) ∙ append-nil events
events_for events false = events_came events [] ∙ append-nil events

told_for : (events : List Event) (told : Bool) → is_told_in (items_for events told) ≡ told
told_for events true = told_came events (Told ∷ [])
told_for events false = told_came events []

events_of_blocks : (items : List Item) → events_in (blocks_of items) ≡ events_of items
events_of_blocks [] = refl
events_of_blocks (item ∷ items) = append-nil (events_of (item ∷ items))

or_false : (b : Bool) → (b || false) ≡ b
or_false true = refl
or_false false = refl

told_of_blocks : (items : List Item) → is_told_by (blocks_of items) ≡ is_told_in items
told_of_blocks [] = refl
told_of_blocks (item ∷ items) = or_false (is_told_in (item ∷ items))

pub block_events : (events : List Event) (told : Bool) → events_in (blocks_for events told) ≡ events
block_events events told = events_of_blocks (items_for events told) ∙ events_for events told

pub block_told : (events : List Event) (told : Bool) → is_told_by (blocks_for events told) ≡ told
block_told events told = told_of_blocks (items_for events told) ∙ told_for events told

-- ---- a whole log goes on

pub begins : (head : LogHead) → IsHead head → IsWholeLog head (head_bytes head) (head_sum head) [] false false
begins head h =
    let whole : IsWholeLog head (log_bytes head []) (head_sum head) [] false false = log_read head [] (record { is_head = h; are_blocks = tt }) in
    subst (λ (b : List ℕ). IsWholeLog head b (head_sum head) [] false false) (append-nil (head_bytes head)) whole

-- the same words of equal parts
same_whole : (head : LogHead) (bytes b : List ℕ) (sum s : ℕ) (journal j : List Event) (told t : Bool) → bytes ≡ b → sum ≡ s → journal ≡ j → told ≡ t
    → IsWholeLog head bytes sum journal told false → IsWholeLog head b s j t false
same_whole head bytes b sum s journal j told t eb es ej et w =
    let w1 : IsWholeLog head b sum journal told false = subst (λ (x : List ℕ). IsWholeLog head x sum journal told false) eb w in
    let w2 : IsWholeLog head b s journal told false = subst (λ (x : ℕ). IsWholeLog head b x journal told false) es w1 in
    let w3 : IsWholeLog head b s j told false = subst (λ (x : List Event). IsWholeLog head b s x told false) ej w2 in
    subst (λ (x : Bool). IsWholeLog head b s j x false) et w3

pub goes_on : (head : LogHead) (bytes : List ℕ) (sum : ℕ) (journal : List Event) (told : Bool) (events : List Event) (tells : Bool) → IsWholeLog head bytes sum journal told false
    → AllByRecursion IsBlock (blocks_for events tells)
    → IsWholeLog head (bytes ++ blocks_bytes sum (blocks_for events tells)) (sum_behind sum (blocks_for events tells)) (journal ++ events) (told || tells) false
goes_on head bytes sum journal told events tells w are =
    let m = made head bytes sum journal told w in
    let more = blocks_for events tells in
    let whole = log_read head (m.blocks ++ more) (appended_log head m.blocks more m.is_log are) in
    same_whole head (log_bytes head (m.blocks ++ more)) (bytes ++ blocks_bytes sum more) (last_sum head (m.blocks ++ more)) (sum_behind sum more) (events_in (m.blocks ++ more))
    (journal ++ events) (is_told_by (m.blocks ++ more)) (told || tells)
    (appended_bytes head m.blocks more ∙ ap (λ (s : ℕ). log_bytes head m.blocks ++ blocks_bytes s more) m.sum_is ∙ ap (λ (b : List ℕ). b ++ blocks_bytes sum more) m.bytes_are)
    (appended_sum head m.blocks more ∙ ap (λ (s : ℕ). sum_behind s more) m.sum_is)
    (appended_events m.blocks more ∙ ap (λ (es : List Event). events_in m.blocks ++ es) (block_events events tells) ∙ ap (λ (es : List Event). es ++ events) m.events_are)
    (appended_told m.blocks more ∙ ap (λ (b : Bool). is_told_by m.blocks || b) (block_told events tells) ∙ ap (λ (b : Bool). b || tells) m.told_is)
    whole

-- with its end
ended_with : (head : LogHead) (blocks : List (List Item)) (bytes : List ℕ) (sum : ℕ) (journal : List Event) (told : Bool) → IsLog head blocks → log_bytes head blocks ≡ bytes
    → last_sum head blocks ≡ sum → events_in blocks ≡ journal → is_told_by blocks ≡ told → IsWholeLog head (bytes ++ end_bytes sum bytes) sum journal told true
ended_with head blocks bytes sum journal told h eb es ej et =
    let w : IsWholeLog head (ended_bytes head blocks) (last_sum head blocks) (events_in blocks) (is_told_by blocks) true = ended_read head blocks h in
    let w1 : IsWholeLog head (bytes ++ end_bytes (last_sum head blocks) bytes) (last_sum head blocks) (events_in blocks) (is_told_by blocks) true =
    subst (λ (x : List ℕ). IsWholeLog head (x ++ end_bytes (last_sum head blocks) x) (last_sum head blocks) (events_in blocks) (is_told_by blocks) true) eb w in
    let w2 : IsWholeLog head (bytes ++ end_bytes sum bytes) sum (events_in blocks) (is_told_by blocks) true =
    subst (λ (x : ℕ). IsWholeLog head (bytes ++ end_bytes x bytes) x (events_in blocks) (is_told_by blocks) true) es w1 in
    let w3 : IsWholeLog head (bytes ++ end_bytes sum bytes) sum journal (is_told_by blocks) true = subst (λ (x : List Event). IsWholeLog head (bytes ++ end_bytes sum bytes) sum x (is_told_by blocks) true) ej w2 in
    subst (λ (x : Bool). IsWholeLog head (bytes ++ end_bytes sum bytes) sum journal x true) et w3

pub ends : (head : LogHead) (bytes : List ℕ) (sum : ℕ) (journal : List Event) (told : Bool) → IsWholeLog head bytes sum journal told false
    → IsWholeLog head (bytes ++ end_bytes sum bytes) sum journal told true
ends head bytes sum journal told w =
    let m = made head bytes sum journal told w in
    ended_with head m.blocks bytes sum journal told m.is_log m.bytes_are m.sum_is m.events_are m.told_is

-- what a crash leaves behind it
pub torn : (head : LogHead) (bytes : List ℕ) (sum : ℕ) (journal : List Event) (told : Bool) (tail : List ℕ) → IsWholeLog head bytes sum journal told false → IsTornTail sum tail
    → IsRead head (bytes ++ tail) (record { who = head.who; journal = journal; is_told = told; is_ended = false; whole = length bytes; sum = sum })
torn head bytes sum journal told tail w t =
    let m = made head bytes sum journal told w in
    let tail_of : IsTornTail (last_sum head m.blocks) tail = subst (λ (s : ℕ). IsTornTail s tail) (sym m.sum_is) t in
    let read = torn_dropped head m.blocks tail m.is_log tail_of in
    torn_same head m.blocks bytes sum journal told tail m.bytes_are m.sum_is m.events_are m.told_is read
  where
    torn_log : LogHead → List ℕ → ℕ → List Event → Bool → Log
    torn_log head bytes sum journal told = record { who = head.who; journal = journal; is_told = told; is_ended = false; whole = length bytes; sum = sum }

    torn_same : (head : LogHead) (blocks : List (List Item)) (bytes : List ℕ) (sum : ℕ) (journal : List Event) (told : Bool) (tail : List ℕ) → log_bytes head blocks ≡ bytes
        → last_sum head blocks ≡ sum → events_in blocks ≡ journal → is_told_by blocks ≡ told
        → IsRead head (log_bytes head blocks ++ tail) (torn_log head (log_bytes head blocks) (last_sum head blocks) (events_in blocks) (is_told_by blocks))
        → IsRead head (bytes ++ tail) (torn_log head bytes sum journal told)
    torn_same head blocks bytes sum journal told tail eb es ej et r =
        let r1 = subst (λ (x : List ℕ). IsRead head (x ++ tail) (torn_log head x (last_sum head blocks) (events_in blocks) (is_told_by blocks))) eb r in
        let r2 = subst (λ (x : ℕ). IsRead head (bytes ++ tail) (torn_log head bytes x (events_in blocks) (is_told_by blocks))) es r1 in
        let r3 = subst (λ (x : List Event). IsRead head (bytes ++ tail) (torn_log head bytes sum x (is_told_by blocks))) ej r2 in
        subst (λ (x : Bool). IsRead head (bytes ++ tail) (torn_log head bytes sum journal x)) et r3
