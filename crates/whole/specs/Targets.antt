-- To which federates a turn of a federate can put events: itself, and those that its connections lead to.
use Rattle.std.specs.Prelude.{◌≢◌, ℕ, zero, suc, Bool, true, false, ◌&&◌, ◌||◌, nat_eq, if◌then◌else◌, List, [], ◌∷◌}
use Rattle.std.specs.Prelude.{◌++◌, map, filter}
use Rattle.std.specs.List.{AllByRecursion}
use Rattle.network.specs.Connection.{Connection}
use Rattle.whole.specs.declared.targets.Target.{Target}

-- the connections from one federate to another
abbrev pub between : ℕ → ℕ → List Connection → List Connection
between source target connections = filter (λ c. nat_eq c.source source && nat_eq c.target target) connections

-- there is one at least
abbrev pub is_nonempty : List Connection → Bool
is_nonempty [] = false
is_nonempty (c ∷ rest) = true

-- a turn of the first can put events to the second
abbrev pub is_target : List Connection → ℕ → ℕ → Bool
is_target connections source target = nat_eq target source || is_nonempty (between source target connections)

-- a target, if it is one
abbrev pub target_if : List Connection → ℕ → ℕ → List (ℕ × List Connection)
target_if connections source target =
    if is_target connections source target then (target, between source target connections) ∷ [] else []

-- the targets among the first `count` federates, each with the connections that lead to it
abbrev pub targets_below : List Connection → ℕ → ℕ → List (ℕ × List Connection)
targets_below connections source zero = []
targets_below connections source (suc count) =
    targets_below connections source count ++ target_if connections source count

-- a target, as code
abbrev pub shown : Target → ℕ × List Connection
shown t = (t.federate, t.connections.items)

abbrev pub all_shown : List Target → List (ℕ × List Connection)
all_shown targets = map shown targets

-- no two are one federate
abbrev pub AreOfDifferentFederates : List (ℕ × List Connection) → Type 0
AreOfDifferentFederates [] = Unit {0}
AreOfDifferentFederates (t ∷ rest) = AllByRecursion (λ other. t.0 ≢ other.0) rest × AreOfDifferentFederates rest
