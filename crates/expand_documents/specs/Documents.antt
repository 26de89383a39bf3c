-- The document that a source's document becomes, before its bodies are expanded.
use Rattle.std.specs.Prelude.{◌≡◌, true, ℕ, zero, suc, ◌⊎◌, List, [], ◌∷◌, ◌++◌, Option, None, Some, codes}
use Rattle.expand_expressions.specs.declared.known.NamedOperand.{NamedOperand}
use Rattle.expand_source.specs.declared.part.Given.{Given}
use Rattle.expand_source.specs.declared.part.Range.{Range}
use Rattle.expand_source.specs.Expansion.{copy_count}
use Rattle.expand_documents.specs.Entries.{without}
use Rattle.expand_documents.specs.Filled.{IsValueFilled, AreMembersFilled}
use Rattle.expand_documents.specs.Naming.{AreParameters, are_known, AreNamesIn, IsCounted, IsRanged}
use Rattle.loadfed_tables.specs.Tables.{HasOnly, SaysArray}
use Rattle.toml.specs.Data.{Data, string, table, Members, no_members, get, get_member}

-- the value is a table of this name
abbrev pub IsNamed : List ℕ → Data → Type 0
IsNamed name value = get (codes "name") value ≡ Some (string name)

-- the first class of this name
abbrev pub IsClassOf : List Data → List ℕ → Members → Type 0
IsClassOf [] name class = ⊥
IsClassOf (first ∷ classes) name class =
    (IsNamed name first × (first ≡ table class)) ⊎ ((IsNamed name first → ⊥) × IsClassOf classes name class)

-- what an entry sets for its class: the table at `with`, or nothing
abbrev pub Sets : Members → Members → Type 0
Sets entry settings =
    ((get_member (codes "with") entry ≡ None) × (settings ≡ no_members))
    ⊎ (get_member (codes "with") entry ≡ Some (table settings))

-- a copy of an entry without a class: the entry without these keys, filled
pub record IsOwnCopy (parameters : List NamedOperand) (entry : Members) (keys : List (List ℕ)) (range : Option Range)
    (k : ℕ) (made : Data) : Type 0 where
  pub names : List NamedOperand
  pub members : Members
  pub named : AreNamesIn parameters range no_members [] k names
  pub is_table : made ≡ table members
  pub filled : AreMembersFilled names (without keys entry) members

-- the name of an entry, filled
abbrev pub IsNameFilled : List NamedOperand → Members → Members → Type 0
IsNameFilled names entry made =
    (own name : Data) × (get_member (codes "name") entry ≡ Some own) × (get_member (codes "name") made ≡ Some name)
    × IsValueFilled names own name

-- a copy of an entry of a class: the entry's name, and what the class says but for its name and parameters, filled
pub record IsClassCopy (parameters : List NamedOperand) (entry class settings : Members) (defaults : List NamedOperand)
    (range : Option Range) (k : ℕ) (made : Data) : Type 0 where
  pub names : List NamedOperand
  pub members : Members
  pub named : AreNamesIn parameters range settings defaults k names
  pub is_table : made ≡ table members
  pub name_filled : IsNameFilled names entry members
  pub rest_filled : AreMembersFilled names (without (codes "name" ∷ codes "parameter" ∷ []) class)
      (without (codes "name" ∷ []) members)

-- the first copies of an entry, one behind the other
abbrev pub AreCopies : (ℕ → Data → Type 0) → ℕ → List Data → Type 0
AreCopies Is zero made = made ≡ []
AreCopies Is (suc k) made =
    (front : List Data) × (copy : Data) × (made ≡ front ++ copy ∷ []) × AreCopies Is k front × Is k copy

-- the federates of an entry without a class
pub record AreOwnFederates (parameters : List NamedOperand) (entry : Members) (range : Option Range)
    (made : List Data) : Type 0 where
  pub unclassed : get_member (codes "class") entry ≡ None
  pub sets_nothing : get_member (codes "with") entry ≡ None
  pub copies : AreCopies (IsOwnCopy parameters entry (codes "count" ∷ []) range) (copy_count range) made

-- the federates of an entry of a class
pub record AreClassFederates (parameters : List NamedOperand) (classes : List Data) (entry : Members)
    (range : Option Range) (made : List Data) : Type 0 where
  pub class_name : List ℕ
  pub class : Members
  pub settings : Members
  pub defaults : List NamedOperand
  pub only : HasOnly (codes "class" ∷ codes "name" ∷ codes "count" ∷ codes "with" ∷ []) entry
  pub classed : get_member (codes "class") entry ≡ Some (string class_name)
  pub there : IsClassOf classes class_name class
  pub sets : Sets entry settings
  pub by_default : AreParameters [] class defaults
  pub copies : AreCopies (IsClassCopy parameters entry class settings defaults range) (copy_count range) made

-- the federates of an entry
abbrev pub AreFederatesOf : List NamedOperand → List Data → Data → List Data → Type 0
AreFederatesOf parameters classes value made =
    (entry : Members) × (range : Option Range) × (value ≡ table entry) × IsCounted parameters entry range
    × (AreOwnFederates parameters entry range made ⊎ AreClassFederates parameters classes entry range made)

-- the connections of an entry
abbrev pub AreConnectionsOf : List NamedOperand → Data → List Data → Type 0
AreConnectionsOf parameters value made =
    (entry : Members) × (range : Option Range) × (value ≡ table entry) × IsRanged parameters entry range
    × AreCopies (IsOwnCopy parameters entry (codes "for" ∷ []) range) (copy_count range) made

-- what is made of entries, one after another
abbrev pub AreMadeOf : (Data → List Data → Type 0) → List Data → List Data → Type 0
AreMadeOf Of [] made = made ≡ []
AreMadeOf Of (entry ∷ entries) made =
    (own rest : List Data) × (made ≡ own ++ rest) × Of entry own × AreMadeOf Of entries rest

-- the federates of a document, of those that its source has
pub record AreFederatesMade (parameters : List NamedOperand) (source made : Members) : Type 0 where
  pub classes : List Data
  pub entries : List Data
  pub federates : List Data
  pub classed : SaysArray (codes "class") source classes
  pub there : SaysArray (codes "federate") source entries
  pub becomes : SaysArray (codes "federate") made federates
  pub each : AreMadeOf (AreFederatesOf parameters classes) entries federates

-- the connections of a document, of those that its source has
pub record AreConnectionsMade (parameters : List NamedOperand) (source made : Members) : Type 0 where
  pub entries : List Data
  pub connections : List Data
  pub there : SaysArray (codes "connection") source entries
  pub becomes : SaysArray (codes "connection") made connections
  pub each : AreMadeOf (AreConnectionsOf parameters) entries connections

-- what a source's document becomes with these values of its parameters: its federates and connections, each as often as
-- it stands there, and all else but parameters and classes, filled
pub record IsExpansionOf (given : List Given) (source made : Members) : Type 0 where
  pub parameters : List NamedOperand
  pub parametrised : AreParameters given source parameters
  pub known : are_known given parameters ≡ true
  pub federates : AreFederatesMade parameters source made
  pub connections : AreConnectionsMade parameters source made
  pub rest : AreMembersFilled parameters
      (without (codes "parameter" ∷ codes "class" ∷ codes "federate" ∷ codes "connection" ∷ []) source)
      (without (codes "federate" ∷ codes "connection" ∷ []) made)

-- what stands in front of the rest of a list is of this kind
abbrev pub BeginsWith : (List Data → Type 0) → List Data → List Data → Type 0
BeginsWith Is made rest = (own : List Data) × (made ≡ own ++ rest) × Is own
