-- How much a run of the machine of queues can do in all: an amount for each row of the undivided program, and one for
-- each federate.
use Rattle.std.specs.Prelude.{ℕ, zero, suc, ◌+◌, ◌*◌, nat_eq, filter, length}
use Rattle.tag.specs.LogicalTime.{place}
use Rattle.network.specs.declared.limits.TheConstants.{MOST_REACTORS}
use Rattle.network.specs.Network.{Network}
use Rattle.network.specs.Undivided.{whole, part}

-- the sum over all numbers below a count
abbrev pub sum_below : ℕ → (ℕ → ℕ) → ℕ
sum_below zero f = 0
sum_below (suc count) f = f count + sum_below count f

-- this many turns are enough for stop: as many for each tag up to it as there are reactors at most
abbrev pub enough_turns : Network → ℕ
enough_turns n = place n.stop * MOST_REACTORS + MOST_REACTORS

-- how many rows of the undivided program are federate j's in the end
abbrev pub rows_of_part : Network → ℕ → ℕ
rows_of_part n j = length (part j (whole n (enough_turns n)))

-- how many connections begin at federate j
abbrev pub outgoing_count : Network → ℕ → ℕ
outgoing_count n j = length (filter (λ c. nat_eq c.source j) n.connections)

-- a turn of federate j that is still to be made: 1 for that move, a message over each of these connections (9), its LTC
-- (2), and an announcement after it (5)
abbrev pub turn_worth : Network → ℕ → ℕ
turn_worth n j = 9 * outgoing_count n j + 8

-- at first all turns are still to be made, and for each federate a first announcement (5) and a first TAG (2)
abbrev pub fuel_of : Network → ℕ
fuel_of n = sum_below n.reactors (λ j. turn_worth n j * rows_of_part n j) + 7 * n.reactors
