-- What the code's comparisons answer.
use Rattle.std.specs.Prelude.{◌≡◌, Bool, Option}
use Rattle.std.specs.declared.cmp.Ordering.{Ordering}
use Rattle.std.specs.Ordering.{partial_lt, partial_le, ord_min, ord_max}
use Rattle.tag.specs.LogicalTime.{LogicalTime, is_before, is_at_most, is_same, lesser, greater}

-- `==`, `<`, `<=`, `min` and `max` are those of logical times
pub record IsOrderOfTags (eq : LogicalTime → LogicalTime → Bool)
    (partial_cmp : LogicalTime → LogicalTime → Option Ordering)
    (cmp : LogicalTime → LogicalTime → Ordering) : Type 0 where
  pub same : (g h : LogicalTime) → eq g h ≡ is_same g h
  pub before : (g h : LogicalTime) → partial_lt partial_cmp g h ≡ is_before g h
  pub at_most : (g h : LogicalTime) → partial_le partial_cmp g h ≡ is_at_most g h
  pub min : (g h : LogicalTime) → ord_min cmp g h ≡ lesser g h
  pub max : (g h : LogicalTime) → ord_max cmp g h ≡ greater g h
