-- What a block says is said by one list of items alone.
use Rattle.std.proofs.Common.{◌≡◌, ℕ, ◌<◌, false, eqb, List, [], ◌∷◌, ◌++◌, length, Ok, Err, refl, sym, ap, ◌∙◌, append_assoc, arith, inl, inr}
use Rattle.std.specs.Prelude.{Result}
use Rattle.std.specs.List.{flat_map, AllByRecursion}
use Rattle.std.proofs.lemmas.Bool.{cases_eq, ne_eqb}
use Rattle.node.specs.declared.event.Event.{Event}
use Rattle.files_reports.specs.declared.content_fault.ContentFault.{ContentFault}
use Rattle.files_reports.specs.declared.content_fault.ContentFault.TheVariants.{Short, BadEvent}
use Rattle.files_reports.specs.Spelling.{event_bytes}
use Rattle.files_reports.specs.Reading.{Part, ◌>>=◌, event_of_kind, event_part}
use Rattle.files_reports.proofs.AllAgain.{event_again}
use Rattle.files_logs.specs.declared.item.Item.{Item}
use Rattle.files_logs.specs.declared.item.Item.TheVariants.{Came, Told}
use Rattle.files_logs.specs.Items.{item_bytes, items_bytes, IsItem, item_part}
use Rattle.files_logs.specs.Reading.{IsContentFault}

-- no event begins with the byte that says that the run is finished
no_event : (bytes : List ℕ) → event_of_kind 6 bytes ≡ Err BadEvent
unfolding event_of_kind
no_event bytes = refl

-- an event is read as an item
abbrev pub as_item : Part Event → Part Item
as_item read = read >>= λ event. Ok (Came event.0, event.1)

event_read : (bytes : List ℕ) (event : Event) (rest : List ℕ) → event_part bytes ≡ Ok (event, rest) → item_part bytes ≡ Ok (Came event, rest)
event_read [] event rest e = absurd (cc e)
event_read (kind ∷ bytes) event rest e = elim (cases_eq kind 6) [
  | inl same ↦
      let clash : Err BadEvent ≡ Ok (event, rest) = sym (no_event bytes) ∙ ap (λ (k : ℕ). event_of_kind k bytes) (sym same) ∙ e in
      absurd (cc clash)
  | inr other ↦
      let not_told : eqb kind 6 ≡ false = ne_eqb _ _ other in
      rw not_told (ap as_item e)
]

pub item_again : (item : Item) (rest : List ℕ) → IsItem item → item_part (item_bytes item ++ rest) ≡ Ok (item, rest)
item_again (Came event) rest h = event_read (event_bytes event ++ rest) event rest (event_again event rest h)
item_again Told rest h = refl

-- so it has some bytes
some_read : (bytes : List ℕ) (item : Item) → item_part (bytes ++ []) ≡ Ok (item, []) → 0 < length bytes
some_read [] item e = absurd (cc e)
some_read (kind ∷ bytes) item e = omega arith

pub some_bytes : (item : Item) → IsItem item → 0 < length (item_bytes item)
some_bytes item h = some_read (item_bytes item) item (item_again item [] h)

-- the first of several
first_again : (item : Item) (items : List Item) (rest : List ℕ) → IsItem item → item_part (items_bytes (item ∷ items) ++ rest) ≡ Ok (item, items_bytes items ++ rest)
first_again item items rest h =
    ap item_part (append_assoc (item_bytes item) (items_bytes items) rest) ∙ item_again item (items_bytes items ++ rest) h

abbrev item_read : (item : Item) → Part Item → Item
item_read other (Ok read) = read.0
item_read other (Err fault) = other

abbrev rest_read : Part Item → List ℕ
rest_read (Ok read) = read.1
rest_read (Err fault) = []

-- this one was read, or there was this fault
abbrev read_as : Item → List ℕ → Part Item
read_as item rest = Ok (item, rest)

abbrev failed : ContentFault → Part Item
failed fault = Err fault

nothing_read : (fault : ContentFault) (item : Item) (rest : List ℕ) → failed fault ≡ read_as item rest → ⊥
nothing_read fault item rest e = absurd (cc e)

pub one_saying : (items others : List Item) → AllByRecursion IsItem items → AllByRecursion IsItem others → items_bytes items ≡ items_bytes others → items ≡ others
one_saying [] [] h k e = refl
one_saying [] (other ∷ others) h k e = absurd (nothing_read Short other (items_bytes others) (ap item_part e ∙ item_again other (items_bytes others) k.0))
one_saying (item ∷ items) [] h k e = absurd (nothing_read Short item (items_bytes items) (ap item_part (sym e) ∙ item_again item (items_bytes items) h.0))
one_saying (item ∷ items) (other ∷ others) h k e =
    let same : read_as item (items_bytes items) ≡ read_as other (items_bytes others) =
    sym (item_again item (items_bytes items) h.0) ∙ ap item_part e ∙ item_again other (items_bytes others) k.0 in
    let first : item ≡ other = ap (item_read item) same in
    let behind : items_bytes items ≡ items_bytes others = ap rest_read same in
    let all : items ≡ others = one_saying items others h.1 k.1 behind in
    ap (λ (i : Item). i ∷ items) first ∙ ap (λ (l : List Item). other ∷ l) all

-- a fault behind some items is met in no list of items
pub unspoken : (items front : List Item) (rest : List ℕ) (fault : ContentFault) → AllByRecursion IsItem items → AllByRecursion IsItem front → items_bytes items ≡ items_bytes front ++ rest
    → 0 < length rest → item_part rest ≡ Err fault → ⊥
unspoken [] [] rest fault h k e some fails = absurd (omega (arith, some, ap length e))
unspoken (item ∷ items) [] rest fault h k e some fails =
    absurd (nothing_read fault item (items_bytes items) (sym fails ∙ ap item_part (sym e) ∙ item_again item (items_bytes items) h.0))
unspoken [] (first ∷ front) rest fault h k e some fails =
    absurd (nothing_read Short first (items_bytes front ++ rest) (ap item_part e ∙ first_again first front rest k.0))
unspoken (item ∷ items) (first ∷ front) rest fault h k e some fails =
    let same : read_as item (items_bytes items) ≡ read_as first (items_bytes front ++ rest) =
    sym (item_again item (items_bytes items) h.0) ∙ ap item_part e ∙ first_again first front rest k.0 in
    unspoken items front rest fault h.1 k.1 (ap rest_read same) some fails

pub not_items : (said : List ℕ) (fault : ContentFault) (items : List Item) → IsContentFault said fault → AllByRecursion IsItem items → said ≡ items_bytes items → ⊥
not_items said fault items f h e = unspoken items f.items f.rest fault h f.each (sym e ∙ f.begins) f.some f.fails
