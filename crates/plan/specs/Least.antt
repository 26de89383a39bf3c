-- Least delays: how much later, at the least, what leaves one federate can arrive at another.
use Rattle.std.specs.Prelude.{ℕ, Option}
use Rattle.tag.specs.LogicalTime.{LogicalTime}
use Rattle.plan_paths.specs.Least.{least_within}
use Rattle.plan.specs.declared.draft.Draft.{Draft}
use Rattle.plan.specs.Federation.{connections_of, federate_count}

-- the least delay from i to j; a path that meets no federate twice has no more connections than there are federates
abbrev pub least_of : Draft → ℕ → ℕ → Option LogicalTime
least_of d i j = least_within (connections_of d) (federate_count d) i j
