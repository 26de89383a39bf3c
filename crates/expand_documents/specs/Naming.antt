-- What names stand for in a copy.
use Rattle.std.specs.Prelude.{◌≡◌, ℕ, ℤ, pos, suc, ◌+ℤ◌, ◌<ℤ◌, ◌⊎◌, Bool, true, if◌then◌else◌, IsTrue, codes}
use Rattle.std.specs.Prelude.{List, [], ◌∷◌, ◌++◌, Option, None, Some}
use Rattle.std.specs.List.{list_any, list_all}
use Rattle.std.specs.Str.{bytes_eq, trim}
use Rattle.plan_names.specs.Spelling.{is_name}
use Rattle.expand_expressions.specs.declared.known.NamedOperand.{NamedOperand}
use Rattle.expand_source.specs.declared.part.Given.{Given}
use Rattle.expand_source.specs.declared.part.Range.{Range}
use Rattle.expand_source.specs.Expansion.{HasValue, named_number, number_of_copy}
use Rattle.toml.specs.Data.{Data, string, integer, float, boolean, datetime, array, table}
use Rattle.toml.specs.Data.{Members, no_members, member, get_member}

-- the value that a name has: the last that is given for it, or else its own
abbrev pub value_given : List Given → List ℕ → ℤ → ℤ
value_given [] name own = own
value_given (one ∷ given) name own = value_given given name (if bytes_eq one.name name then one.value else own)

-- whether the name stands for something
abbrev pub is_name_of : List NamedOperand → List ℕ → Bool
is_name_of names name = list_any (λ named. bytes_eq named.name name) names

-- a name for each member of a table, with its number
abbrev pub AreNamed : (List ℕ → Data → ℤ → Type 0) → Members → List NamedOperand → Type 0
AreNamed Is no_members names = names ≡ []
AreNamed Is (member key value members) names =
    (n : ℤ) × (rest : List NamedOperand) × Is key value n × AreNamed Is members rest
    × (names ≡ named_number key n ∷ rest)

-- the number that stands in a table at a name, or the one that is given for it
abbrev pub IsNumberGiven : List Given → List ℕ → Data → ℤ → Type 0
IsNumberGiven given key value n = (own : ℤ) × (value ≡ integer own) × (n ≡ value_given given key own)

-- the numbers of the table at `parameter`, of which there are none without the key
abbrev pub AreParameters : List Given → Members → List NamedOperand → Type 0
AreParameters given members names =
    ((get_member (codes "parameter") members ≡ None) × (names ≡ []))
    ⊎ ((numbers : Members) × (get_member (codes "parameter") members ≡ Some (table numbers))
    × AreNamed (IsNumberGiven given) numbers names)

-- whether each value is given for a name that is there
abbrev pub are_known : List Given → List NamedOperand → Bool
are_known given names = list_all (λ one. is_name_of names one.name) given

-- the value of an expression, which is a number or a text
abbrev pub HasNumber : List NamedOperand → Data → ℤ → Type 0
HasNumber names (integer own) n = n ≡ own
HasNumber names (string text) n = HasValue names text n
HasNumber names (float x) n = ⊥
HasNumber names (boolean b) n = ⊥
HasNumber names (datetime t) n = ⊥
HasNumber names (array items) n = ⊥
HasNumber names (table inner) n = ⊥

-- the value of an expression over these names, for one of the parameters of a class
abbrev pub IsSetting : List NamedOperand → List NamedOperand → List ℕ → Data → ℤ → Type 0
IsSetting names defaults key value n = (is_name_of defaults key ≡ true) × HasNumber names value n

-- What names stand for in the k-th copy, counted from 0: its number, then what it sets, then what its class has by
-- default, then parameters of the source. What it sets is worked out over its number and the source's parameters.
abbrev pub AreNamesIn : List NamedOperand → Option Range → Members → List NamedOperand → ℕ → List NamedOperand → Type 0
AreNamesIn parameters range settings defaults k names =
    (set : List NamedOperand) × AreNamed (IsSetting (number_of_copy range k ++ parameters) defaults) settings set
    × (names ≡ number_of_copy range k ++ (set ++ (defaults ++ parameters)))

-- so many copies, whose numbers are called `i`
abbrev pub counted_range : ℕ → Range
counted_range count = record { name = codes "i"; first = pos 0; count = count }

-- how often an entry stands in the federation: once, or as often as its `count` says
abbrev pub IsCounted : List NamedOperand → Members → Option Range → Type 0
IsCounted parameters entry range =
    ((get_member (codes "count") entry ≡ None) × (range ≡ None))
    ⊎ ((value : Data) × (count : ℕ) × (get_member (codes "count") entry ≡ Some value)
    × HasNumber parameters value (pos count) × (range ≡ Some (counted_range count)))

-- how many numbers there are from the first to the last, both included: none where the last is less
abbrev pub IsCountBetween : ℤ → ℤ → ℕ → Type 0
IsCountBetween first last count =
    ((last <ℤ first) × (count ≡ 0)) ⊎ ((behind : ℕ) × (last ≡ first +ℤ pos behind) × (count ≡ suc behind))

-- `NAME in FIRST..LAST`
pub record IsRange (parameters : List NamedOperand) (text : List ℕ) (range : Range) : Type 0 where
  pub name : List ℕ
  pub first : List ℕ
  pub last : List ℕ
  pub until : ℤ
  pub spelled : text ≡ name ++ (codes " in " ++ (first ++ (codes ".." ++ last)))
  pub named : range.name ≡ trim name
  pub is_named : IsTrue (is_name range.name)
  pub begins : HasValue parameters first range.first
  pub ends : HasValue parameters last until
  pub counted : IsCountBetween range.first until range.count

-- how often a connection stands in the federation: once, or for each number of its `for`
abbrev pub IsRanged : List NamedOperand → Members → Option Range → Type 0
IsRanged parameters entry range =
    ((get_member (codes "for") entry ≡ None) × (range ≡ None))
    ⊎ ((text : List ℕ) × (own : Range) × (get_member (codes "for") entry ≡ Some (string text))
    × IsRange parameters text own × (range ≡ Some own))
