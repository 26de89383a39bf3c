-- Lists, item by item.
use Rattle.std.specs.Prelude.{List, [], ◌∷◌}
use Rattle.std.specs.List.{AllByRecursion}

-- what holds of each item and each later one, by recursion along the list
abbrev pub AllPairsByRecursion : {X : Type 0} → (X → X → Type 0) → List X → Type 0
AllPairsByRecursion R [] = Unit {0}
AllPairsByRecursion R (x ∷ xs) = AllByRecursion (R x) xs × AllPairsByRecursion R xs
