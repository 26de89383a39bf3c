-- Federates by their names.
use Rattle.std.proofs.Common.{◌≡◌, ℕ, zero, suc, ◌<◌, List, [], ◌∷◌, length, IsTrue, refl, ap, ◌∙◌, arith}
use Rattle.std.specs.Prelude.{All, Some}
use Rattle.std.specs.Option.{option_map}
use Rattle.std.specs.Str.{bytes_eq}
use Rattle.std.proofs.lemmas.List.{length-map}
use Rattle.std.proofs.lemmas.List.Elements.{All-head, All-tail}
use Rattle.std.proofs.lemmas.Map.Made.{AllPairs-from_IsDistinct}
use Rattle.std.proofs.lemmas.Map.Keys.{IsDistinct-tail}
use Rattle.std.proofs.lemmas.Slice.Eq.{bytes_eq-Decides}
use Rattle.plan_names.specs.Naming.{AreDistinct, place_of}
use Rattle.plan_names.specs.Spelling.{is_name}
use Rattle.plan_names.proofs.Places.{bytes_eq-yes, bytes_eq-no, place_of-first, place_of-rest}
use Rattle.plan.specs.declared.draft.Draft.{Draft}
use Rattle.plan.specs.declared.draft.Federate.{Federate}
use Rattle.plan.specs.Federation.{federate_count, federate_names, federate_number}
use Rattle.files_text.specs.RowText.{name_at}
use Rattle.files_text.specs.PlanText.{federate_name}
use Rattle.files_record.specs.ReadAgain.{IsNamed}
use Rattle.files_record.proofs.Plain.{IsPlain, name_plain}

-- where no name stands twice, each is found at its place
found_at : (names : List (List ℕ)) (j : ℕ) → AreDistinct names → j < length names → place_of names (name_at names j) ≡ Some j
found_at [] j distinct below = absurd (omega arith)
found_at (first ∷ rest) zero distinct below = place_of-first first rest first (bytes_eq-yes first first refl)
found_at (first ∷ rest) (suc j) distinct below =
    let other : first ≡ name_at rest j → ⊥ = AllPairs-from_IsDistinct bytes_eq-Decides (first ∷ rest) distinct 0 (suc j) [] (omega arith) below in
    place_of-rest first rest (name_at rest j) (bytes_eq-no first (name_at rest j) other)
    ∙ ap (option_map suc) (found_at rest j (IsDistinct-tail bytes_eq first rest distinct) (omega arith))

-- a federate is found by its name
pub federate_found : (d : Draft) (j : ℕ) → IsNamed d → j < federate_count d → federate_number d.federates (federate_name d j) ≡ Some j
federate_found d j named below =
    let many : length (federate_names d.federates) ≡ length d.federates = length-map d.federates (λ (f : Federate). f.name) in
    found_at (federate_names d.federates) j named.legal.federates_apart (omega arith)

plain_at : (federates : List Federate) (j : ℕ) → All (λ f. IsTrue (is_name f.name)) federates → j < length federates → IsPlain (name_at (federate_names federates) j)
plain_at [] j named below = absurd (omega arith)
plain_at (f ∷ federates) zero named below = name_plain f.name (All-head (λ (g : Federate). IsTrue (is_name g.name)) f federates named)
plain_at (f ∷ federates) (suc j) named below = plain_at federates j (All-tail (λ (g : Federate). IsTrue (is_name g.name)) f federates named) (omega arith)

-- and its name is within one word of one line
pub federate_plain : (d : Draft) (j : ℕ) → IsNamed d → j < federate_count d → IsPlain (federate_name d j)
federate_plain d j named below = plain_at d.federates j named.federates_named below
