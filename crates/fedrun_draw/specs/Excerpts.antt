-- Which steps of a schedule are drawn, where not all are.
use Rattle.std.specs.Prelude.{ℕ, ◌-◌, List, take, drop, Option, None, Some}
use Rattle.fedrun_replay.specs.Play.{Made}
use Rattle.fedrun_draw.specs.declared.excerpt.Excerpt.{Excerpt}

-- the steps to this one, counted from 1; all where none is given
abbrev pub up_to : Option ℕ → List Made → List Made
up_to None made = made
up_to (Some last) made = take last made

-- how many steps stand before this one, counted from 1; none where none is given
abbrev pub gone_before : Option ℕ → ℕ
gone_before None = 0
gone_before (Some first) = first - 1

-- the steps of an excerpt
abbrev pub steps_in : Excerpt → List Made → List Made
steps_in excerpt made = drop (gone_before excerpt.from) (up_to excerpt.to made)
