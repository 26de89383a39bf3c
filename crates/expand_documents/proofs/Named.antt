-- Names and their numbers, one after another.
use Rattle.std.proofs.Common.{◌≡◌, ℕ, ℤ, ◌+◌, ◌<◌, ◌≤◌, List, [], ◌∷◌, ◌++◌, length, take, get_or, refl, sym, ap, ◌∙◌}
use Rattle.std.proofs.lemmas.List.{take_more, take_all}
use Rattle.expand_expressions.specs.declared.known.NamedOperand.{NamedOperand}
use Rattle.expand_source.specs.Expansion.{named_number}
use Rattle.toml.specs.Data.{Data}
use Rattle.toml.specs.View.{view}
use Rattle.expand_documents.specs.declared.entries.Entry.{Entry}
use Rattle.expand_documents.specs.Entries.{members_of_entries}
use Rattle.expand_documents.specs.Naming.{AreNamed}

-- what a name and its number are of
abbrev pub Naming : Type 1
Naming = List ℕ → Data → ℤ → Type 0

-- a name with its number, of an entry
abbrev pub IsNamedBy : (List ℕ → Data → ℤ → Type 0) → Entry → NamedOperand → Type 0
IsNamedBy Is entry named = (n : ℤ) × Is entry.key.now (view entry.value.now) n × (named ≡ named_number entry.key.now n)

named_behind : (Is : Naming) (entries : List Entry) (names : List NamedOperand) (entry : Entry) (named : NamedOperand) → AreNamed Is (members_of_entries entries) names
    → IsNamedBy Is entry named → AreNamed Is (members_of_entries (entries ++ entry ∷ [])) (names ++ named ∷ [])
named_behind Is [] names entry named h k = (k.0, [], k.1, refl, ap (λ xs. xs ++ named ∷ []) h ∙ ap (λ x. x ∷ []) k.2)
named_behind Is (first ∷ entries) names entry named h k =
    (h.0, h.1 ++ named ∷ [], h.2, named_behind Is entries h.1 entry named h.3 k, ap (λ xs. xs ++ named ∷ []) h.4)

pub one_name_more : (Is : Naming) (entries : List Entry) (i : ℕ) (entry : Entry) (names new : List NamedOperand) (named : NamedOperand) → i < length entries → entry ≡ get_or entries i entry
    → AreNamed Is (members_of_entries (take i entries)) names → IsNamedBy Is entry named → new ≡ names ++ named ∷ [] → AreNamed Is (members_of_entries (take (i + 1) entries)) new
one_name_more Is entries i entry names new named low is so_far this pushed =
    let more : take (i + 1) entries ≡ take i entries ++ entry ∷ [] = take_more entries i entry low ∙ ap (λ e. take i entries ++ e ∷ []) (sym is) in
    rw (more, pushed) (named_behind Is (take i entries) names entry named so_far this)

pub all_names : (Is : Naming) (entries : List Entry) (i : ℕ) (names : List NamedOperand) → length entries ≤ i → AreNamed Is (members_of_entries (take i entries)) names
    → AreNamed Is (members_of_entries entries) names
all_names Is entries i names all h =
    let same : take i entries ≡ entries = take_all i entries all in
    rw same at h
