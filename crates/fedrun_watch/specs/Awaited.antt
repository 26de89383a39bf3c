-- Federates by name, and who of them is awaited.
use Rattle.std.specs.Prelude.{ℕ, List, [], ◌++◌, codes, slice_get, Option, None, Some, nat_eq, if◌then◌else◌}
use Rattle.std.specs.Fmt.{decimal}
use Rattle.wires_hosts.specs.declared.awaited.Awaited.{Awaited}

-- a federate's name, or its number where no name is known
abbrev pub named_text : Option (List ℕ) → ℕ → List ℕ
named_text None number = codes "federate " ++ decimal number
named_text (Some name) number = name

-- the federate of this number, of those with these names
abbrev pub federate_text : List (List ℕ) → ℕ → List ℕ
federate_text names number = named_text (slice_get names number) number

-- how many more there are, if some are
abbrev pub more_text : ℕ → List ℕ
more_text count = if nat_eq count 0 then [] else codes " and " ++ (decimal count ++ codes " more")

-- who is awaited, with this in front of it; or that nobody is
abbrev pub first_text : List (List ℕ) → (front all : List ℕ) → Option ℕ → (more : ℕ) → List ℕ
first_text names front all None more = all
first_text names front all (Some first) more = front ++ (federate_text names first ++ more_text more)

-- how many federates are connected, and who isn't
abbrev pub awaited_text : List (List ℕ) → Awaited → List ℕ
awaited_text names awaited =
    decimal awaited.present ++ (codes " of " ++ (decimal awaited.federates ++ (codes " connected"
    ++ first_text names (codes ", waits for ") (codes ": all are there") awaited.first awaited.more)))
