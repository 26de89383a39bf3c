-- Two names parted by a dot: a name has none, so the text has one reading.
use Rattle.std.proofs.Common.{◌≡◌, ◌≢◌, ℕ, zero, suc, ◌<◌, List, [], ◌∷◌, ◌++◌, length, get_or, true, false, IsTrue, codes, refl, sym, ap, ◌∙◌, subst, arith}
use Rattle.std.specs.List.{list_all}
use Rattle.std.proofs.lemmas.Bool.{and_parts, false≢true}
use Rattle.plan_names.specs.Spelling.{is_name, is_name_start, is_name_character}

-- no character of the text is a dot
abbrev pub HasNoDot : List ℕ → Type 0
HasNoDot text = (k : ℕ) → k < length text → get_or text k 0 ≢ 46

dot_is_none : (c : ℕ) → is_name_character c ≡ true → c ≡ 46 → ⊥
dot_is_none c h e =
    let P : ℕ → Type 0 = λ x. is_name_character x ≡ true in
    let no : false ≡ true = subst P e h in
    false≢true no

rest_has_none : (text : List ℕ) → list_all is_name_character text ≡ true → HasNoDot text
rest_has_none [] h k low e = absurd (omega arith)
rest_has_none (c ∷ text) h zero low e = dot_is_none c (and_parts (is_name_character c) (list_all is_name_character text) h).0 e
rest_has_none (c ∷ text) h (suc k) low e =
    rest_has_none text (and_parts (is_name_character c) (list_all is_name_character text) h).1 k (omega arith) e

start_is_character : (c : ℕ) → is_name_start c ≡ true → is_name_character c ≡ true
start_is_character c h = rw h refl

all_characters : (c : ℕ) (rest : List ℕ) → IsTrue (is_name (c ∷ rest)) → list_all is_name_character (c ∷ rest) ≡ true
all_characters c rest h = grind (arith, start_is_character)

pub name_has_none : (name : List ℕ) → IsTrue (is_name name) → HasNoDot name
name_has_none [] h k low e = absurd (omega arith)
name_has_none (c ∷ rest) h k low e = rest_has_none (c ∷ rest) (all_characters c rest h) k low e

one_cut : (f p g q : List ℕ) → HasNoDot f → HasNoDot g → f ++ (codes "." ++ p) ≡ g ++ (codes "." ++ q) → (f ≡ g) × (p ≡ q)
one_cut [] p [] q h k e = let same : p ≡ q = cc in (refl, same)
one_cut [] p (c ∷ g) q h k e = let dot : 46 ≡ c = cc in absurd (k 0 (omega arith) (sym dot))
one_cut (b ∷ f) p [] q h k e = let dot : b ≡ 46 = cc in absurd (h 0 (omega arith) dot)
one_cut (b ∷ f) p (c ∷ g) q h k e =
    let first : b ≡ c = cc in
    let rest : f ++ (codes "." ++ p) ≡ g ++ (codes "." ++ q) = cc in
    let more = one_cut f p g q (λ i low. h (suc i) (omega arith)) (λ i low. k (suc i) (omega arith)) rest in
    (ap (λ x. x ∷ f) first ∙ ap (λ x. c ∷ x) more.0, more.1)

pub one_split : (f p g q : List ℕ) → IsTrue (is_name f) → IsTrue (is_name g) → f ++ (codes "." ++ p) ≡ g ++ (codes "." ++ q) → (f ≡ g) × (p ≡ q)
one_split f p g q h k e = one_cut f p g q (name_has_none f h) (name_has_none g k) e
