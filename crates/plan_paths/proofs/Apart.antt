-- Connections that have different ends.
use Rattle.std.proofs.Common.{◌≡◌, ℕ, ◌<◌, List, length, ap, sym, ◌∙◌, arith, get_or, take, min}
use Rattle.std.specs.Prelude.{Any}
use Rattle.std.proofs.lemmas.List.{get_or_default, get_or-take, length-take}
use Rattle.network.specs.Connection.{Connection}
use Rattle.network.specs.Lawful.{HaveDifferentEnds}

-- where no connection before a place ends where the one there does
pub apart_from_before : (xs : List Connection) (place : ℕ) (x : Connection) → place < length xs → x ≡ get_or xs place x
    → (Any (λ c. (c.target ≡ x.target) × (c.slot ≡ x.slot)) (take place xs) → ⊥)
    → (j : ℕ) (d : Connection) → j < place → HaveDifferentEnds (get_or xs j d) (get_or xs place d)
apart_from_before xs place x below here none j d j_below target slot =
    let bound : length (take place xs) ≡ min place (length xs) = length-take place xs in
    let j_there : j < length xs = omega arith in
    let j_taken : j < length (take place xs) = omega arith in
    let taken : get_or (take place xs) j (get_or xs j d) ≡ get_or xs j (get_or xs j d) = get_or-take place xs j (get_or xs j d) j_below in
    let again : get_or xs j (get_or xs j d) ≡ get_or xs j d = get_or_default xs j (get_or xs j d) d j_there in
    let at_place : get_or xs place d ≡ x = get_or_default xs place d x below ∙ sym here in
    none (
      j,
      get_or xs j d,
      j_taken,
      taken ∙ again,
      (target ∙ ap (λ (z : Connection). z.target) at_place, slot ∙ ap (λ (z : Connection). z.slot) at_place),
    )
