use Rattle.std.proofs.Common.{◌≡◌, ℕ, Bool, false, List, subst, ap}
use Rattle.std.specs.Prelude.{nat_lt, slice_index_or}
use Rattle.grants.specs.Invariant.{Looked}
use Rattle.grants.proofs.Flags.{none_counted}
use Rattle.grants.proofs.affected.AffectedFederates.has_eligible.Goals as goal

pub returns : goal.returns
returns c =
    let t = c.self.inside in
    let P : List Bool → Type 0 = λ flags. (nat_lt 0 t.eligible_count ≡ false → (i : ℕ) → slice_index_or flags i false ≡ false)
    × (((i : ℕ) → slice_index_or flags i false ≡ false) → nat_lt 0 t.eligible_count ≡ false) in
    subst P (ap (λ (l : Looked). l.eligible) c.self.view_is) (none_counted t.eligible.items t.eligible_count c.self.invariant)
