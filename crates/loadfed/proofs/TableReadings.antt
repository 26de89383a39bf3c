-- Arrays of tables as they are read, entry by entry, and where a fault of one stands.
use Rattle.std.proofs.Common.{◌≡◌, ◌⊎◌, inl, inr, ℕ, ◌<◌, ◌≤◌, ◌+◌, List, [], ◌∷◌, ◌++◌, map, length, get_or, take, Some, refl, sym, ap, ◌∙◌, subst, arith}
use Rattle.std.specs.List.{AllZip}
use Rattle.std.proofs.lemmas.List.{take_all, length-map, map-append}
use Rattle.toml.specs.Data.{Data, table, Members}
use Rattle.toml.specs.View.{view}
use Rattle.toml.specs.declared.value.Value.{Value}
use Rattle.loadfed_tables.specs.declared.fault.TableFault.{TableFault}
use Rattle.loadfed_tables.specs.declared.fault.TableFault.TheVariants.{Memory, OverLimit}
use Rattle.loadfed_tables.specs.Tables.{SaysArray, SaysTables, SaysEach}
use Rattle.loadfed_tables.specs.TableFaults.{IsWrongAt}
use Rattle.loadfed.specs.ShapeFaults.{HasTooMany, HasTablesFault}
use Rattle.loadfed_tables.proofs.KeyReadings.{view_at, views_more, table_entry}

-- these entries are tables, which say these
pub record AreRead {X : Type 0} (Says : Members → X → Type 0) (entries : List Data) (xs : List X) : Type 0 where
  pub tables : List Members
  pub entries_are : entries ≡ map table tables
  pub each : AllZip Says tables xs

pub read_none : {X : Type 0} (Says : Members → X → Type 0) → AreRead Says [] []
read_none Says = record { tables = []; entries_are = refl; each = tt }

pub zip_push : {X : Type 0} (Says : Members → X → Type 0) (ts : List Members) (xs : List X) (t : Members) (x : X) → AllZip Says ts xs → Says t x
    → AllZip Says (ts ++ t ∷ []) (xs ++ x ∷ [])
zip_push Says [] [] t x h says = (says, tt)
zip_push Says [] (y ∷ xs) t x h says = absurd h
zip_push Says (s ∷ ts) [] t x h says = absurd h
zip_push Says (s ∷ ts) (y ∷ xs) t x h says = (h.0, zip_push Says ts xs t x h.1 says)

pub tables_more : (values : List Value) (tables : List Members) (i : ℕ) (v : Value) (inner : Members) → i < length values → v ≡ get_or values i v
    → map view (take i values) ≡ map table tables → view v ≡ table inner → map view (take (i + 1) values) ≡ map table (tables ++ inner ∷ [])
tables_more values tables i v inner low is so_far this =
    views_more values i v low is ∙ ap (λ x. x ++ view v ∷ []) so_far ∙ ap (λ x. map table tables ++ x ∷ []) this ∙ sym (map-append table tables (inner ∷ []))

pub read_more : {X : Type 0} (Says : Members → X → Type 0) (values : List Value) (xs : List X) (i : ℕ) (v : Value) (inner : Members) (x : X)
    → i < length values → v ≡ get_or values i v → AreRead Says (map view (take i values)) xs → view v ≡ table inner → Says inner x
    → AreRead Says (map view (take (i + 1) values)) (xs ++ x ∷ [])
read_more Says values xs i v inner x low is read this says = record {
  tables = read.tables ++ inner ∷ [];
  entries_are = tables_more values read.tables i v inner low is read.entries_are this;
  each = zip_push Says read.tables xs inner x read.each says;
}

pub all_tables : (key : List ℕ) (m : Members) (values : List Value) (tables : List Members) (i : ℕ) → SaysArray key m (map view values)
    → map view (take i values) ≡ map table tables → length values ≤ i → SaysTables key m tables
all_tables key m values tables i says read all =
    let same : map view values ≡ map table tables = sym (ap (map view) (take_all i values all)) ∙ read in
    subst (λ ds. SaysArray key m ds) same says

pub read_all : {X : Type 0} (Says : Members → X → Type 0) (key : List ℕ) (m : Members) (values : List Value) (xs : List X) (i : ℕ) → SaysArray key m (map view values)
    → AreRead Says (map view (take i values)) xs → length values ≤ i → SaysEach Says key m xs
read_all Says key m values xs i says read all = record {
  tables = read.tables;
  there = all_tables key m values read.tables i says read.entries_are all;
  each = read.each;
}

pub array_told : (Has : Members → TableFault → Type 0) (key : List ℕ) (m : Members) (fault : TableFault) → (fault ≡ Memory) ⊎ IsWrongAt key (SaysArray key m) fault
    → (fault ≡ Memory) ⊎ HasTablesFault Has key m fault
array_told Has key m fault (inl memory) = inl memory
array_told Has key m fault (inr wrong) = inr (inl (record { told = wrong.told; nothing = λ tables says. wrong.nothing (map table tables) says }))

pub entry_told : (Has : Members → TableFault → Type 0) (key : List ℕ) (m : Members) (values : List Value) (i : ℕ) (v : Value) (fault : TableFault)
    → SaysArray key m (map view values) → i < length values → v ≡ get_or values i v
    → (fault ≡ Memory) ⊎ IsWrongAt key (λ inner. view v ≡ table inner) fault → (fault ≡ Memory) ⊎ HasTablesFault Has key m fault
entry_told Has key m values i v fault says low is (inl memory) = inl memory
entry_told Has key m values i v fault says low is (inr wrong) = inr (inl (record {
  told = wrong.told;
  nothing = λ tables there. (let at = table_entry key m values i v says low is tables there in wrong.nothing at.0 at.1);
}))

pub inside_told : (Has : Members → TableFault → Type 0) (key : List ℕ) (m : Members) (values : List Value) (i : ℕ) (v : Value) (inner : Members) (fault : TableFault)
    → SaysArray key m (map view values) → i < length values → v ≡ get_or values i v → view v ≡ table inner
    → (fault ≡ Memory) ⊎ Has inner fault → (fault ≡ Memory) ⊎ HasTablesFault Has key m fault
inside_told Has key m values i v inner fault says low is this (inl memory) = inl memory
inside_told Has key m values i v inner fault says low is this (inr h) = inr (inr (record {
  entries = map view values;
  there = says;
  place = i;
  inner = inner;
  entry_is = view_at values i v low is ∙ ap (λ d. Some d) this;
  inside = h;
}))

pub many_told : (key : List ℕ) (most : ℕ) (m : Members) (values : List Value) → SaysArray key m (map view values) → most < length values
    → HasTooMany key most m OverLimit
many_told key most m values says many =
    let same = length-map values view in
    record { told = refl; entries = map view values; there = says; many = omega arith }

pub texts_too_many : (key : List ℕ) (most : ℕ) (m : Members) (entries : List Data) → SaysArray key m entries → most < length entries → HasTooMany key most m OverLimit
texts_too_many key most m entries says many = record { told = refl; entries = entries; there = says; many = many }
