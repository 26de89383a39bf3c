-- How many turns there can be: at most one for each federate and finite tag.
use Rattle.std.proofs.Common.{◌≡◌, ℕ, ◌^◌, ◌<◌, Some, subst, arith}
use Rattle.tag.specs.LogicalTime.{place}
use Rattle.network.specs.Event.{Event}
use Rattle.network.specs.Lawful.{IsLawful}
use Rattle.network.specs.Network.{Network}
use Rattle.network.specs.Undivided.{Undivided, first_of_turns, undivided_after}
use Rattle.network_laws.proofs.Keys.{low_rank}
use Rattle.network_laws.proofs.Standing.{Least, FirstIs, reached, first_standing, due_least}

-- where something is still pending, few turns were made
pub turns_are_few :
    (n : Network) → IsLawful n → (turns : ℕ) (e : Event) → first_of_turns n (undivided_after n turns).pending ≡ Some e → turns < 2 ^ 100
unfolding place
turns_are_few n lawful turns e first =
    let before = reached n lawful turns in
    let u : Undivided = undivided_after n turns in
    let is_first : FirstIs n u.pending (Some e) = subst (FirstIs n u.pending) first (first_standing n lawful u before.bound before.standing) in
    let least : Least n u.pending e = is_first in
    let due = due_least n u before.bound e before.standing.pending least in
    let rank = low_rank n lawful e.reactor least.sound.reactor in
    omega (arith, before.enough, due, rank, least.sound.tag.time, least.sound.tag.microstep)
