-- Texts that are written one after the other.
use Rattle.std.proofs.Common.{◌≡◌, ◌≢◌, ℕ, ◌+◌, ◌<◌, List, [], ◌∷◌, ◌++◌, length, take, get_or, slice_get, codes, refl, sym, ap, subst, ◌∙◌, append_assoc, append-nil, Option, Result, Ok, Err, OnOk, arith}
use Rattle.std.specs.Io.KnownBytes.{Appends}
use Rattle.std.specs.List.{flat_map}
use Rattle.std.proofs.KnownBytes.{Appends-trans}
use Rattle.std.proofs.lemmas.Grind.{flat_map-append}
use Rattle.std.proofs.lemmas.List.{take_more}
use Rattle.network.specs.Event.{Entry}
use Rattle.network.specs.Undivided.{Row}
use Rattle.plan.specs.declared.draft.Draft.{Draft}
use Rattle.fedrun_trace.specs.Turns.{object_text, turn_members, row_members}

-- one more of these
pub next_more : {A : Type 0} (text : A → List ℕ) (items : List A) (i : ℕ) (item : A) (a b c : Option (List ℕ)) → i < length items → item ≡ get_or items i item →
    Appends a b (flat_map text (take i items)) → Appends b c (text item) → Appends a c (flat_map text (take (i + 1) items))
next_more {A} text items i item a b c there is so_far more =
    let all : flat_map text (take (i + 1) items) ≡ flat_map text (take i items) ++ text item =
    ap (flat_map text) (take_more items i item there ∙ ap (λ (x : A). take i items ++ x ∷ []) (sym is))
    ∙ (flat_map-append text (take i items) (item ∷ []) ∙ ap (λ t. flat_map text (take i items) ++ t) (append-nil (text item))) in
    subst (Appends a c) (sym all) (Appends-trans a b c _ _ so_far more)

brace_parts : (p r : List ℕ) → codes "{" ++ (p ++ (r ++ codes "}")) ≡ codes "{" ++ ((p ++ r) ++ codes "}")
brace_parts p r = ap (λ y. 123 ∷ y) (sym (append_assoc p r (codes "}")))

-- entries as an object: the first, and then the others
pub in_braces :
    {X E : Type 0} (member : Entry → List ℕ) (first : Entry) (rest entries : List Entry) (answer : Result X E) (a b c d e : Option (List ℕ)) → entries ≡ first ∷ rest →
    Appends a b (codes "{") → Appends b c (member first) → Appends c d (flat_map (λ x. codes "," ++ member x) rest) →
    OnOk answer (Appends d e (codes "}")) → OnOk answer (Appends a e (object_text member entries))
unfolding object_text
in_braces member first rest entries (Err error) a b c d e is p q r s = tt
in_braces member first rest entries (Ok x) a b c d e is p q r s =
    rw is (subst (Appends a e) (brace_parts (member first) (flat_map (λ x. codes "," ++ member x) rest))
    (Appends-trans a b e _ _ p (Appends-trans b c e _ _ q (Appends-trans c d e _ _ r s))))

-- no row
pub no_row : (d : Draft) (rows : List Row) → length rows ≡ 0 → row_members d rows ≡ []
no_row d [] none = refl
no_row d (row ∷ rest) none = absurd (omega arith)

-- the first row
pub first_row : (d : Draft) (rows : List Row) (row : Row) → length rows ≢ 0 → row ≡ get_or rows 0 row
    → turn_members (slice_get d.federates row.reactor) row ≡ row_members d rows
first_row d [] row some is = absurd (some refl)
first_row d (first ∷ rest) row some is = ap (λ (r : Row). turn_members (slice_get d.federates r.reactor) r) is
