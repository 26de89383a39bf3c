-- What stands at a key of a table of a TOML document.
use Rattle.std.specs.Prelude.{◌≡◌, ℕ, ℤ, pos, ◌<◌, ◌^◌, ◌⊎◌, Bool, IsTrue, List, [], ◌∷◌, ◌++◌, codes, map, All, Option}
use Rattle.std.specs.Prelude.{None, Some}
use Rattle.std.specs.List.{AllZip, list_any}
use Rattle.std.specs.Str.{bytes_eq}
use Rattle.tag_text.specs.Duration.{Spells}
use Rattle.plan_names.specs.declared.port.PortName.{PortName}
use Rattle.plan_names.specs.Spelling.{is_name}
use Rattle.toml.specs.Data.{Data, string, integer, array, table, Members, no_members, member, get_member}
use Rattle.toml.specs.View.{items_of}

-- the keys of a table, in its order
abbrev pub keys_in : Members → List (List ℕ)
keys_in no_members = []
keys_in (member key value rest) = key ∷ keys_in rest

-- whether the key is one of these
abbrev pub is_among : List (List ℕ) → List ℕ → Bool
is_among known key = list_any (bytes_eq key) known

-- the table has no other keys than these
abbrev pub HasOnly : List (List ℕ) → Members → Type 0
HasOnly known members = All (λ key. IsTrue (is_among known key)) (keys_in members)

-- the table hasn't this key
abbrev pub IsWithout : List ℕ → Members → Type 0
IsWithout key members = get_member key members ≡ None

-- a text stands at the key
abbrev pub SaysText : List ℕ → Members → List ℕ → Type 0
SaysText key members text = get_member key members ≡ Some (string text)

-- a whole number stands at the key
abbrev pub SaysNumber : List ℕ → Members → ℤ → Type 0
SaysNumber key members number = get_member key members ≡ Some (integer number)

-- a name stands at the key
abbrev pub SaysName : List ℕ → Members → List ℕ → Type 0
SaysName key members name = SaysText key members name × IsTrue (is_name name)

-- `FEDERATE.PORT`, two names parted by one dot
pub record SaysPort (key : List ℕ) (members : Members) (p : PortName) : Type 0 where
  pub text_is : SaysText key members (p.federate ++ (codes "." ++ p.port))
  pub federate_named : IsTrue (is_name p.federate)
  pub port_named : IsTrue (is_name p.port)

-- a text that spells a duration, in nanoseconds, below 2^62
abbrev pub SaysDuration : List ℕ → Members → ℕ → Type 0
SaysDuration key members time = (text : List ℕ) × SaysText key members text × Spells text time × (time < 2 ^ 62)

-- something stands at the key, or nothing where the table hasn't the key
abbrev pub MaySay : {X : Type 0} → (List ℕ → Members → X → Type 0) → List ℕ → Members → Option X → Type 0
MaySay Says key members None = IsWithout key members
MaySay Says key members (Some x) = Says key members x

-- a duration, which is 0 where the table hasn't the key
abbrev pub SaysDurationOrZero : List ℕ → Members → ℕ → Type 0
SaysDurationOrZero key members time = (IsWithout key members × (time ≡ 0)) ⊎ SaysDuration key members time

-- a number below 2^32, which is 0 where the table hasn't the key
abbrev pub SaysMicrostep : List ℕ → Members → ℕ → Type 0
SaysMicrostep key members microstep =
    (IsWithout key members × (microstep ≡ 0)) ⊎ (SaysNumber key members (pos microstep) × (microstep < 2 ^ 32))

-- an array of these entries, of which there are none where the table hasn't the key
abbrev pub SaysArray : List ℕ → Members → List Data → Type 0
SaysArray key members entries =
    (IsWithout key members × (entries ≡ [])) ⊎ (get_member key members ≡ Some (array (items_of entries)))

-- an array of texts, of which there are none where the table hasn't the key
abbrev pub SaysTexts : List ℕ → Members → List (List ℕ) → Type 0
SaysTexts key members texts = SaysArray key members (map string texts)

-- an array of names, of which there are none where the table hasn't the key
abbrev pub SaysNames : List ℕ → Members → List (List ℕ) → Type 0
SaysNames key members names = SaysTexts key members names × All (λ name. IsTrue (is_name name)) names

-- an array of tables, of which there are none where the table hasn't the key
abbrev pub SaysTables : List ℕ → Members → List Members → Type 0
SaysTables key members tables = SaysArray key members (map table tables)

-- an array of tables, each of which says one of these, in their order
pub record SaysEach {X : Type 0} (Says : Members → X → Type 0) (key : List ℕ) (members : Members)
    (xs : List X) : Type 0 where
  pub tables : List Members
  pub there : SaysTables key members tables
  pub each : AllZip Says tables xs
