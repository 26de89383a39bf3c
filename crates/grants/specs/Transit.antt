-- The tags of messages on their way.
use Rattle.std.specs.Prelude.{◌≡◌, Bool, true, false, List, [], ◌∷◌, Option, None, Some}
use Rattle.tag.specs.LogicalTime.{LogicalTime, is_at_most, is_before, lesser}
use Rattle.network.specs.Items.{AllPairsByRecursion}

-- the lesser of a tag and of another, if there is one
abbrev pub lesser_with : LogicalTime → Option LogicalTime → LogicalTime
lesser_with tag None = tag
lesser_with tag (Some other) = lesser other tag

-- the first is not later than a tag
abbrev pub has_up_to : LogicalTime → List LogicalTime → Bool
has_up_to tag [] = false
has_up_to tag (x ∷ rest) = is_at_most x tag

-- each tag is before all that follow
abbrev pub Rises : List LogicalTime → Type 0
Rises tags = AllPairsByRecursion (λ g h. is_before g h ≡ true) tags
