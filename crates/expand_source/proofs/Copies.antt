-- Copies that are made one after another, and what they set.
use Rattle.std.proofs.Common.{◌≡◌, ℕ, ℤ, suc, ◌+◌, ◌<◌, ◌≤◌, List, [], ◌∷◌, ◌++◌, length, take, get_or, refl, sym, ap, ◌∙◌, subst, arith}
use Rattle.std.proofs.lemmas.List.{append_assoc, append-nil, take_more, take_all}
use Rattle.expand_expressions.specs.declared.known.NamedOperand.{NamedOperand}
use Rattle.expand_source.specs.declared.part.Part.{Part}
use Rattle.expand_source.specs.declared.part.Setting.{Setting}
use Rattle.expand_source.specs.declared.token.Token.{Token}
use Rattle.expand_source.specs.Expansion.{AreNames, AreFilled, IsCopy, AreCopies, copy_count, IsExpansion, AreSet, HasValue, named_number}
use Rattle.expand_source.specs.Filling.{Appends}
use Rattle.expand_source.proofs.Braces.{both_added}

-- the first of a list, and one more
one_more : {X : Type 0} (xs : List X) (x : X) (i : ℕ) → i < length xs → x ≡ get_or xs i x → take (i + 1) xs ≡ take i xs ++ x ∷ []
one_more xs x i low is = take_more xs i x low ∙ ap (λ y. take i xs ++ y ∷ []) (sym is)

pub no_copies : (part : Part) (old now : List ℕ) → now ≡ old → Appends old now (AreCopies part 0)
no_copies part old now same = ([], same ∙ sym (append-nil old), refl)

pub one_copy_more : (part : Part) (k : ℕ) (old now new : List ℕ) → Appends old now (AreCopies part k) → Appends now new (IsCopy part k) → Appends old new (AreCopies part (k + 1))
one_copy_more part k old now new so_far this =
    let whole : AreCopies part (suc k) (so_far.0 ++ this.0) = (so_far.0, this.0, refl, so_far.2, this.2) in
    let next : suc k ≡ k + 1 = omega arith in
    (so_far.0 ++ this.0, both_added old now new so_far.0 this.0 so_far.1 this.1, subst (λ n. AreCopies part n (so_far.0 ++ this.0)) next whole)

-- all copies, once there are as many as there are to be
pub all_copies : (part : Part) (k count : ℕ) (old new : List ℕ) → k ≤ count → count ≤ k → count ≡ copy_count part.range → Appends old new (AreCopies part k)
    → Appends old new (AreCopies part (copy_count part.range))
all_copies part k count old new most least is h =
    let all : k ≡ copy_count part.range = omega arith in
    subst (λ n. Appends old new (AreCopies part n)) all h

-- a copy, where names and template are handed on as slices
pub copy_made : (part : Part) (k : ℕ) (names given : List NamedOperand) (tokens : List Token) (old new : List ℕ) → given ≡ names → tokens ≡ part.template.items → AreNames part k names
    → Appends old new (AreFilled given tokens) → Appends old new (IsCopy part k)
copy_made part k names given tokens old new same template named filled =
    let of_names : AreFilled names tokens filled.0 = subst (λ ns. AreFilled ns tokens filled.0) same filled.2 in
    (filled.0, filled.1, (names, named, subst (λ ts. AreFilled names ts filled.0) template of_names))

part_behind : (parts : List Part) (part : Part) (first text : List ℕ) → IsExpansion parts first → AreCopies part (copy_count part.range) text → IsExpansion (parts ++ part ∷ []) (first ++ text)
part_behind [] part first text h k = (text, [], ap (λ x. x ++ text) h ∙ sym (append-nil text), k, refl)
part_behind (other ∷ parts) part first text h k =
    (h.0, h.1 ++ text, ap (λ x. x ++ text) h.2 ∙ append_assoc h.0 h.1 text, h.3, part_behind parts part h.1 text h.4 k)

pub one_part_more : (parts : List Part) (part : Part) (i : ℕ) (now new : List ℕ) → i < length parts → part ≡ get_or parts i part
    → IsExpansion (take i parts) now → Appends now new (AreCopies part (copy_count part.range)) → IsExpansion (take (i + 1) parts) new
one_part_more parts part i now new low is so_far this =
    let whole : IsExpansion (take i parts ++ part ∷ []) (now ++ this.0) = part_behind (take i parts) part now this.0 so_far this.2 in
    subst (λ ps. IsExpansion ps new) (sym (one_more parts part i low is)) (subst (λ x. IsExpansion (take i parts ++ part ∷ []) x) (sym this.1) whole)

pub all_parts : (parts : List Part) (i : ℕ) (text : List ℕ) → length parts ≤ i → IsExpansion (take i parts) text → IsExpansion parts text
all_parts parts i text all h = subst (λ ps. IsExpansion ps text) (take_all i parts all) h

-- a setting's value
abbrev pub IsSet : List NamedOperand → Setting → NamedOperand → Type 0
IsSet names setting set = (n : ℤ) × HasValue names setting.expression n × (set ≡ named_number setting.name n)

set_behind : (names : List NamedOperand) (settings : List Setting) (setting : Setting) (sets : List NamedOperand) (set : NamedOperand) → AreSet names settings sets → IsSet names setting set
    → AreSet names (settings ++ setting ∷ []) (sets ++ set ∷ [])
set_behind names [] setting [] set h k = (k, tt)
set_behind names [] setting (other ∷ sets) set h k = absurd h
set_behind names (other ∷ settings) setting [] set h k = absurd h
set_behind names (other ∷ settings) setting (another ∷ sets) set h k = (h.0, set_behind names settings setting sets set h.1 k)

pub one_set_more : (names : List NamedOperand) (settings : List Setting) (setting : Setting) (i : ℕ) (sets new : List NamedOperand) (set : NamedOperand) → i < length settings → setting ≡ get_or settings i setting
    → AreSet names (take i settings) sets → IsSet names setting set → new ≡ sets ++ set ∷ [] → AreSet names (take (i + 1) settings) new
one_set_more names settings setting i sets new set low is so_far this pushed =
    let whole : AreSet names (take i settings ++ setting ∷ []) (sets ++ set ∷ []) = set_behind names (take i settings) setting sets set so_far this in
    subst (λ ss. AreSet names ss new) (sym (one_more settings setting i low is)) (subst (λ x. AreSet names (take i settings ++ setting ∷ []) x) (sym pushed) whole)

pub all_set : (names : List NamedOperand) (settings : List Setting) (i : ℕ) (sets : List NamedOperand) → length settings ≤ i → AreSet names (take i settings) sets → AreSet names settings sets
all_set names settings i sets all h = subst (λ ss. AreSet names ss sets) (take_all i settings all) h

pub one_name_more : (more old now new : List NamedOperand) (name copy : NamedOperand) (i : ℕ) → i < length more → name ≡ get_or more i name
    → now ≡ old ++ take i more → new ≡ now ++ copy ∷ [] → copy ≡ name → new ≡ old ++ take (i + 1) more
one_name_more more old now new name copy i low is so_far pushed same =
    pushed ∙ ap (λ c. now ++ c ∷ []) same ∙ ap (λ x. x ++ name ∷ []) so_far ∙ append_assoc old (take i more) (name ∷ []) ∙ ap (λ x. old ++ x) (sym (one_more more name i low is))
