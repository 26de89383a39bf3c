-- A plan as text: its size, each federate's rank, and the least delays between federates.
use Rattle.std.specs.Prelude.{ℕ, zero, suc, List, [], ◌++◌, length, Option, None, Some, codes}
use Rattle.std.specs.Fmt.{decimal}
use Rattle.tag.specs.LogicalTime.{LogicalTime}
use Rattle.tag.specs.Printed.{printed_time, printed_tag}
use Rattle.plan.specs.declared.draft.Draft.{Draft}
use Rattle.plan.specs.Federation.{federate_names, connections_of, rank_of, federate_count}
use Rattle.plan.specs.Least.{least_of}
use Rattle.files_text.specs.RowText.{name_at}

-- a federate's name
abbrev pub federate_name : Draft → ℕ → List ℕ
federate_name d i = name_at (federate_names d.federates) i

-- how many federates and connections there are, and when it stops
abbrev pub printed_size : Draft → List ℕ
printed_size d =
    codes "federates " ++ (decimal (federate_count d) ++ (codes " connections " ++ (decimal (length (connections_of d))
    ++ (codes " stop " ++ (printed_time d.stop ++ codes "\n")))))

-- a federate's rank
abbrev pub printed_rank : Draft → ℕ → List ℕ
printed_rank d i = federate_name d i ++ (codes " rank " ++ (decimal (rank_of d i) ++ codes "\n"))

-- a delay from one federate to another, if there is one
abbrev pub printed_delay : Draft → ℕ → ℕ → Option LogicalTime → List ℕ
printed_delay d i j None = []
printed_delay d i j (Some delay) =
    federate_name d i ++ (codes " -> " ++ (federate_name d j ++ (codes " least " ++ (printed_tag delay ++ codes "\n"))))

-- the least delay from one federate to another, where a path leads there
abbrev pub printed_least : Draft → ℕ → ℕ → List ℕ
printed_least d i j = printed_delay d i j (least_of d i j)

-- the texts of this many numbers from 0, in order
abbrev pub printed_each : (ℕ → List ℕ) → ℕ → List ℕ
printed_each printed zero = []
printed_each printed (suc count) = printed_each printed count ++ printed count

-- a plan
abbrev pub printed_plan : Draft → List ℕ
printed_plan d =
    printed_size d ++ (printed_each (printed_rank d) (federate_count d)
    ++ printed_each (λ i. printed_each (printed_least d i) (federate_count d)) (federate_count d))
