-- Tables in an array, one by one.
use Rattle.std.proofs.Common.{◌≡◌, ℕ, ◌<◌, ◌≤◌, ◌+◌, List, [], ◌∷◌, ◌++◌, map, length, get_or, take, String, Global, BTreeMap, Bor, sym, ap, ◌∙◌, subst, append_assoc}
use Rattle.std.proofs.lemmas.List.{map-append}
use Rattle.toml.specs.Data.{table, Members}
use Rattle.toml.specs.View.{view, table_view}
use Rattle.toml.specs.declared.value.Value.{Value}
use Rattle.loadfed_tables.specs.Tables.{SaysArray, SaysTables}
use Rattle.loadfed.proofs.TableReadings.{tables_more, all_tables}

abbrev pub Table : Type 0
Table = BTreeMap (String Global) Value

-- what these tables have
abbrev pub members_in : Bor Table → Members
members_in t = table_view t.now

pub more_tables : (values : List Value) (tables : List (Bor Table)) (i : ℕ) (v : Value) (t : Bor Table) → i < length values → v ≡ get_or values i v
    → map view (take i values) ≡ map table (map members_in tables) → view v ≡ table (table_view t.now)
    → map view (take (i + 1) values) ≡ map table (map members_in (tables ++ t ∷ []))
more_tables values tables i v t low is so_far this =
    tables_more values (map members_in tables) i v (table_view t.now) low is so_far this ∙ ap (map table) (sym (map-append members_in tables (t ∷ [])))

pub all_tables_in : (key : List ℕ) (m n : Members) (values : List Value) (tables : List (Bor Table)) (i : ℕ) → m ≡ n → SaysArray key m (map view values)
    → map view (take i values) ≡ map table (map members_in tables) → length values ≤ i → SaysTables key n (map members_in tables)
all_tables_in key m n values tables i same says read all =
    subst (λ x. SaysTables key x (map members_in tables)) same (all_tables key m values (map members_in tables) i says read all)

-- five lists, one behind the other
pub five_pushed : {X : Type 0} (p q r s t u a b c d e : List X) → p ≡ [] → q ≡ p ++ a → r ≡ q ++ b → s ≡ r ++ c → t ≡ s ++ d → u ≡ t ++ e → u ≡ a ++ (b ++ (c ++ (d ++ e)))
five_pushed p q r s t u a b c d e none one two three four five = five ∙ rw (four, three, two, one, none) (simp append_assoc)
