-- Least delays that are at most a bound.
use Rattle.std.proofs.Common.{◌≡◌, refl, List, get_or, IsTrue, Option, None, Some}
use Rattle.std.specs.Prelude.{All, Contains}
use Rattle.std.proofs.lemmas.List.Elements.{All-contains_itself}
use Rattle.tag.specs.LogicalTime.{LogicalTime, is_at_most}
use Rattle.tag.proofs.Order.{at_most_transitive}
use Rattle.network.specs.Tables.{IsWithin}

pub within_more : (o : Option LogicalTime) (a b : LogicalTime) → IsWithin o a → IsTrue (is_at_most a b) → IsWithin o b
within_more None a b within le = within
within_more (Some d) a b within le = at_most_transitive d a b within le

pub within_found : (o : Option LogicalTime) (bound : LogicalTime) → IsWithin o bound → (d : LogicalTime) × (o ≡ Some d) × IsTrue (is_at_most d bound)
within_found None bound within = absurd within
within_found (Some d) bound within = (d, refl, within)

-- what holds of each element
pub each_contained : {X : Type 0} (P : X → Type 0) (xs : List X) → ((x : X) → Contains xs x → P x) → All P xs
each_contained P xs each k d below = each (get_or xs k d) (All-contains_itself xs k d below)
