-- What a document is found to be, by what was found of its parts.
use Rattle.std.proofs.Common.{◌≡◌, inl, inr, ℕ, ℤ, true, false, List, [], ◌∷◌, ◌++◌, Option, codes, refl, sym, subst}
use Rattle.expand_expressions.specs.declared.known.NamedOperand.{NamedOperand}
use Rattle.expand_source.specs.declared.part.Given.{Given}
use Rattle.expand_source.specs.declared.part.Range.{Range}
use Rattle.expand_source.specs.Expansion.{HasValue, IsNextHole, IsFilled, number_of_copy}
use Rattle.toml.specs.Data.{Data, string, integer, table, Members}
use Rattle.loadfed_tables.specs.Tables.{SaysArray}
use Rattle.expand_documents.specs.Entries.{without}
use Rattle.expand_documents.specs.Filled.{is_whole, IsTextFilled, AreMembersFilled}
use Rattle.expand_documents.specs.Naming.{AreNamesIn, AreParameters, are_known}
use Rattle.expand_documents.specs.Documents.{IsOwnCopy, IsClassCopy, IsNameFilled, AreFederatesOf, AreConnectionsOf, AreMadeOf, AreFederatesMade, AreConnectionsMade, IsExpansionOf}
use Rattle.expand_documents.proofs.Members.{nothing_left_out}

pub number_alone : (names : List NamedOperand) (text front expression rest : List ℕ) (made : Data) → IsNextHole text front expression rest → is_whole front rest ≡ true
    → (n : ℤ) × HasValue names expression n × (made ≡ integer n) → IsTextFilled names text made
number_alone names text front expression rest made hole whole number = inr (front, expression, rest, hole, inl (whole, number))

pub text_filled : (names : List NamedOperand) (text front expression rest : List ℕ) (made : Data) → IsNextHole text front expression rest → is_whole front rest ≡ false
    → (filled : List ℕ) × IsFilled names text filled × (made ≡ string filled) → IsTextFilled names text made
text_filled names text front expression rest made hole whole filled = inr (front, expression, rest, hole, inr (whole, filled))

pub own_copy : (parameters : List NamedOperand) (entry : Members) (keys : List (List ℕ)) (range : Option Range) (k : ℕ) (made : Data) (names given : List NamedOperand) (members : Members)
    → names ≡ number_of_copy range k ++ parameters → made ≡ table members → given ≡ names → AreMembersFilled given (without keys entry) (without [] members)
    → IsOwnCopy parameters entry keys range k made
own_copy parameters entry keys range k made names given members named is same filled =
    let all : AreMembersFilled given (without keys entry) members = subst (λ ms. AreMembersFilled given (without keys entry) ms) (nothing_left_out members) filled in
    record {
      names = names;
      members = members;
      named = ([], refl, named);
      is_table = is;
      filled = subst (λ ns. AreMembersFilled ns (without keys entry) members) same all;
    }

pub class_copy : (parameters : List NamedOperand) (entry class settings : Members) (defaults : List NamedOperand) (range : Option Range) (k : ℕ) (made : Data)
    (names given also : List NamedOperand) (members : Members) → AreNamesIn parameters range settings defaults k names → made ≡ table members → given ≡ names → also ≡ names
    → IsNameFilled given entry members → AreMembersFilled also (without (codes "name" ∷ codes "parameter" ∷ []) class) (without (codes "name" ∷ []) members)
    → IsClassCopy parameters entry class settings defaults range k made
class_copy parameters entry class settings defaults range k made names given also members named is same same_also name filled = record {
  names = names;
  members = members;
  named = named;
  is_table = is;
  name_filled = subst (λ ns. IsNameFilled ns entry members) same name;
  rest_filled = subst (λ ns. AreMembersFilled ns (without (codes "name" ∷ codes "parameter" ∷ []) class) (without (codes "name" ∷ []) members)) same_also filled;
}

pub federates_found : (parameters : List NamedOperand) (source made : Members) (classes entries federates : List Data) → SaysArray (codes "class") source classes
    → SaysArray (codes "federate") source entries → SaysArray (codes "federate") made federates → AreMadeOf (AreFederatesOf parameters classes) entries federates
    → AreFederatesMade parameters source made
federates_found parameters source made classes entries federates classed there becomes each = record {
  classes = classes;
  entries = entries;
  federates = federates;
  classed = classed;
  there = there;
  becomes = becomes;
  each = each;
}

pub connections_found : (parameters : List NamedOperand) (source made : Members) (entries connections : List Data) → SaysArray (codes "connection") source entries
    → SaysArray (codes "connection") made connections → AreMadeOf (AreConnectionsOf parameters) entries connections → AreConnectionsMade parameters source made
connections_found parameters source made entries connections there becomes each = record {
  entries = entries;
  connections = connections;
  there = there;
  becomes = becomes;
  each = each;
}

pub expansion_found : (given : List Given) (source made : Members) (parameters names : List NamedOperand) → names ≡ parameters → AreParameters given source parameters → are_known given names ≡ true
    → AreFederatesMade names source made → AreConnectionsMade names source made
    → AreMembersFilled names (without (codes "parameter" ∷ codes "class" ∷ codes "federate" ∷ codes "connection" ∷ []) source) (without (codes "federate" ∷ codes "connection" ∷ []) made)
    → IsExpansionOf given source made
expansion_found given source made parameters names same parametrised known federates connections rest = record {
  parameters = names;
  parametrised = subst (λ ns. AreParameters given source ns) (sym same) parametrised;
  known = known;
  federates = federates;
  connections = connections;
  rest = rest;
}
