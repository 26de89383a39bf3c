-- Optional tags, none of which is before all, as places: what the tests of grants and completed tags say of them.
use Rattle.std.proofs.Common.{◌≡◌, ℕ, ◌+◌, ◌<◌, ◌≤◌, true, false, refl, arith, Option, None, Some}
use Rattle.std.proofs.lemmas.Bool.Decides.{nat_tests}
use Rattle.tag.specs.LogicalTime.{LogicalTime, IsLogicalTime, is_at_most, place, is_past, is_reached}
use Rattle.tag.proofs.Order.{before_then, before_places, not_before_places, before_from_places, at_most_places, at_most_from_places}
use Rattle.tag.proofs.SumLaws.{successor_least}
use Rattle.protocol.specs.Grant.{after_completed}

-- the place above an optional tag: none is before all
abbrev pub above : Option LogicalTime → ℕ
above None = 0
above (Some g) = place g + 1

-- an optional tag is in range
abbrev pub IsOptional : Option LogicalTime → Type 0
IsOptional None = Unit {0}
IsOptional (Some g) = IsLogicalTime g

pub past_true : (o : Option LogicalTime) (g : LogicalTime) → IsOptional o → IsLogicalTime g → is_past o g ≡ true → above o ≤ place g
past_true None g p q t = omega arith
past_true (Some h) g p q t = let b = before_places h g p q t in omega arith

pub to_past : (o : Option LogicalTime) (g : LogicalTime) → IsOptional o → IsLogicalTime g → above o ≤ place g → is_past o g ≡ true
to_past None g p q t = refl
to_past (Some h) g p q t = before_from_places h g p q (omega arith)

pub not_past : (o : Option LogicalTime) (g : LogicalTime) → IsOptional o → IsLogicalTime g → is_past o g ≡ false → place g < above o
not_past None g p q t = cc
not_past (Some h) g p q t = let b = not_before_places h g p q t in omega arith

pub reached_true : (o : Option LogicalTime) (g : LogicalTime) → IsOptional o → IsLogicalTime g → is_reached o g ≡ true → place g < above o
reached_true None g p q t = cc
reached_true (Some h) g p q t = let b = at_most_places g h q p t in omega arith

pub to_reached : (o : Option LogicalTime) (g : LogicalTime) → IsOptional o → IsLogicalTime g → place g < above o → is_reached o g ≡ true
to_reached None g p q t = absurd (omega arith)
to_reached (Some h) g p q t = at_most_from_places g h q p (omega arith)

pub past_then : (o : Option LogicalTime) (g h : LogicalTime) → is_past o g ≡ true → is_at_most g h ≡ true → is_past o h ≡ true
past_then None g h p q = refl
past_then (Some x) g h p q = before_then x g h p q

-- what a federate has still to do is later than its last LTC
pub after_completed_least : (o : Option LogicalTime) (g : LogicalTime) → IsOptional o → IsLogicalTime g → above o ≤ place g → is_at_most (after_completed o) g ≡ true
after_completed_least None g p q t = grind (arith, nat_tests)
after_completed_least (Some h) g p q t = successor_least h g p q (before_from_places h g p q (omega arith))
