-- What is written: the head, a block, and the end.
use Rattle.std.proofs.Common.{◌≡◌, ℕ, ◌<◌, ◌≤◌, Bool, true, false, List, [], ◌∷◌, ◌++◌, length, map, refl, sym, ap, ap₂, subst, ◌∙◌, append_assoc, append-nil, arith}
use Rattle.std.specs.Prelude.{if◌then◌else◌}
use Rattle.std.specs.List.{flat_map, AllByRecursion}
use Rattle.std.proofs.lemmas.List.{length-append, nil_from_length}
use Rattle.std.proofs.lemmas.List.Concat.{flat_map-append}
use Rattle.byteorder.specs.Endian.{big_bytes}
use Rattle.node.specs.declared.event.Event.{Event}
use Rattle.files_reports.specs.Said.{IsEvent}
use Rattle.files_reports.specs.Spelling.{event_bytes}
use Rattle.files_logs.specs.declared.item.Item.{Item}
use Rattle.files_logs.specs.declared.item.Item.TheVariants.{Came, Told}
use Rattle.files_logs.specs.declared.log_head.LogHead.{LogHead}
use Rattle.files_logs.specs.Sums.{size_check, block_sum}
use Rattle.files_logs.specs.Items.{item_bytes, items_bytes, IsItem, items_for}
use Rattle.files_logs.specs.Blocks.{size_bytes, block_bytes, IsBlock, blocks_bytes, sum_behind}
use Rattle.files_logs.specs.Log.{format, summed_head}
use Rattle.files_logs.specs.Writing.{blocks_of}
use Rattle.files_logs.proofs.Saying.{some_bytes}
use Rattle.files_logs.proofs.Whole.{all_appended}

-- ---- parts, one behind the other

pub appended_two : (old middle new first second : List ℕ) → middle ≡ old ++ first → new ≡ middle ++ second → new ≡ old ++ (first ++ second)
appended_two old middle new first second a b = b ∙ ap (λ (l : List ℕ). l ++ second) a ∙ append_assoc old first second

pub appended_head : (head : LogHead) (old b1 b2 b3 b4 new named : List ℕ) → named ≡ format → b1 ≡ old ++ named → b2 ≡ b1 ++ head.files.federation → b3 ≡ b2 ++ head.files.inputs
    → b4 ≡ b3 ++ big_bytes 2 head.who → new ≡ b4 ++ big_bytes 2 head.rules → new ≡ old ++ summed_head head
appended_head head old b1 b2 b3 b4 new named n a b c d e =
    let two = big_bytes 2 head.who ++ big_bytes 2 head.rules in
    let numbers : new ≡ b3 ++ two = appended_two b3 b4 new (big_bytes 2 head.who) (big_bytes 2 head.rules) d e in
    let inputs : new ≡ b2 ++ (head.files.inputs ++ two) = appended_two b2 b3 new head.files.inputs two c numbers in
    let digests : new ≡ b1 ++ (head.files.federation ++ (head.files.inputs ++ two)) = appended_two b1 b2 new head.files.federation (head.files.inputs ++ two) b inputs in
    appended_two old b1 new format (head.files.federation ++ (head.files.inputs ++ two)) (a ∙ ap (λ (l : List ℕ). old ++ l) n) digests

-- ---- what a block says

came_bytes : (events : List Event) → items_bytes (map Came events) ≡ flat_map event_bytes events
came_bytes [] = refl
came_bytes (event ∷ events) = ap (λ (l : List ℕ). event_bytes event ++ l) (came_bytes events)

came_items : (events : List Event) → AllByRecursion IsEvent events → AllByRecursion IsItem (map Came events)
came_items [] h = tt
came_items (event ∷ events) h = (h.0, came_items events h.1)

-- that the run is finished, or nothing
abbrev mark : Bool → List Item
mark told = if told then Told ∷ [] else []

is_mark : (told : Bool) → AllByRecursion IsItem (mark told)
is_mark true = (tt, tt)
is_mark false = tt

pub are_items : (events : List Event) (told : Bool) → AllByRecursion IsEvent events → AllByRecursion IsItem (items_for events told)
are_items events told h = all_appended IsItem (map Came events) (mark told) (came_items events h) (is_mark told)

items_for_bytes : (events : List Event) (told : Bool) → items_bytes (items_for events told) ≡ flat_map event_bytes events ++ items_bytes (mark told)
items_for_bytes events told =
    flat_map-append item_bytes (map Came events) (mark told) ∙ ap (λ (l : List ℕ). l ++ items_bytes (mark told)) (came_bytes events)

pub said_told : (old middle new : List ℕ) (events : List Event) (told : Bool) → told ≡ true → middle ≡ old ++ flat_map event_bytes events → new ≡ middle ++ 6 ∷ []
    → new ≡ old ++ items_bytes (items_for events told)
said_told old middle new events told t a b =
    let marked : items_bytes (mark told) ≡ 6 ∷ [] = ap (λ (x : Bool). items_bytes (mark x)) t in
    appended_two old middle new (flat_map event_bytes events) (6 ∷ []) a b
    ∙ ap (λ (l : List ℕ). old ++ l) (ap (λ (l : List ℕ). flat_map event_bytes events ++ l) (sym marked) ∙ sym (items_for_bytes events told))

pub said_untold : (old new : List ℕ) (events : List Event) (told : Bool) → told ≡ false → new ≡ old ++ flat_map event_bytes events → new ≡ old ++ items_bytes (items_for events told)
said_untold old new events told t a =
    let unmarked : items_bytes (mark told) ≡ [] = ap (λ (x : Bool). items_bytes (mark x)) t in
    a ∙ ap (λ (l : List ℕ). old ++ l) (sym (append-nil (flat_map event_bytes events)) ∙ ap (λ (l : List ℕ). flat_map event_bytes events ++ l) (sym unmarked) ∙ sym (items_for_bytes events told))

-- ---- a block

-- something to say has some bytes
items_some : (item : Item) (items : List Item) → AllByRecursion IsItem (item ∷ items) → 0 < length (items_bytes (item ∷ items))
items_some item items h = omega (arith, length-append (item_bytes item) (items_bytes items), some_bytes item h.0)

pub record IsWritten (sum : ℕ) (items : List Item) (bytes : List ℕ) (next : ℕ) : Type 0 where
  pub bytes_are : bytes ≡ blocks_bytes sum (blocks_of items)
  pub next_is : next ≡ sum_behind sum (blocks_of items)
  pub are_blocks : AllByRecursion IsBlock (blocks_of items)

pub nothing_written : (sum : ℕ) (items : List Item) (said : List ℕ) → AllByRecursion IsItem items → said ≡ [] ++ items_bytes items → length said ≡ 0 → IsWritten sum items said sum
nothing_written sum [] said h e none = record { bytes_are = e; next_is = refl; are_blocks = tt }
nothing_written sum (item ∷ items) said h e none = absurd (omega (arith, items_some item items h, ap length e, none))

pub block_written : (sum : ℕ) (items : List Item) (said bytes : List ℕ) (next : ℕ) → AllByRecursion IsItem items → said ≡ [] ++ items_bytes items → 0 < length said
    → length said ≤ 16_777_216 → bytes ≡ block_bytes sum said → next ≡ block_sum sum said → IsWritten sum items bytes next
block_written sum [] said bytes next h e some few b n = absurd (omega (arith, some, ap length e))
block_written sum (item ∷ items) said bytes next h e some few b n =
    let block : IsBlock (item ∷ items) = record { sayable = record { some = items_some item items h; not_too_long = omega (arith, ap length e, few) }; each = h } in
    record {
      bytes_are = b ∙ ap (λ (s : List ℕ). block_bytes sum s) e ∙ sym (append-nil (block_bytes sum (items_bytes (item ∷ items))));
      next_is = n ∙ ap (λ (s : List ℕ). block_sum sum s) e;
      are_blocks = (block, tt);
    }

-- a block's parts
pub block_appended : (sum next : ℕ) (said b2 b3 b4 : List ℕ) → b2 ≡ size_bytes sum (length said) → b3 ≡ b2 ++ said → b4 ≡ b3 ++ big_bytes 8 next → next ≡ block_sum sum said
    → b4 ≡ block_bytes sum said
block_appended sum next said b2 b3 b4 a b c n =
    appended_two b2 b3 b4 said (big_bytes 8 next) b c ∙ ap₂ (λ (x : List ℕ) (m : ℕ). x ++ (said ++ big_bytes 8 m)) a n

-- what follows of what was said behind nothing
pub nothing_said : (sum : ℕ) (items : List Item) (old said : List ℕ) → AllByRecursion IsItem items → old ≡ [] → said ≡ old ++ items_bytes items → length said ≡ 0 → IsWritten sum items said sum
nothing_said sum items old said h o e none = nothing_written sum items said h (e ∙ ap (λ (l : List ℕ). l ++ items_bytes items) o) none

pub block_said : (sum : ℕ) (items : List Item) (old said bytes : List ℕ) (next : ℕ) → AllByRecursion IsItem items → old ≡ [] → said ≡ old ++ items_bytes items → 0 < length said
    → length said ≤ 16_777_216 → bytes ≡ block_bytes sum said → next ≡ block_sum sum said → IsWritten sum items bytes next
block_said sum items old said bytes next h o e some few b n = block_written sum items said bytes next h (e ∙ ap (λ (l : List ℕ). l ++ items_bytes items) o) some few b n

pub too_much_said : (items : List Item) (old said : List ℕ) → old ≡ [] → said ≡ old ++ items_bytes items → 16_777_216 < length said → 16_777_216 < length (items_bytes items)
too_much_said items old said o e past = omega (arith, past, ap length (e ∙ ap (λ (l : List ℕ). l ++ items_bytes items) o))
