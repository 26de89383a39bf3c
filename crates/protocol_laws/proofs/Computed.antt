-- The runs of the examples, computed.
use Rattle.std.proofs.Common.{◌≡◌, ℕ, false, Some, refl, ◌∙◌}
use Rattle.tag.specs.LogicalTime.{forever}
use Rattle.network.specs.Examples.{at}
use Rattle.network.specs.Undivided.{whole, part}
use Rattle.protocol.specs.declared.refusal.Refusal.TheVariants.{BelowGrant}
use Rattle.protocol.specs.Outcome.{Refused}
use Rattle.protocol.specs.Federate.{federate_announces, federate_advances}
use Rattle.protocol.specs.Grant.{Rule, grant_next, passes_paths}
use Rattle.protocol.specs.Machine.{ToCoordinator, federate_records_of, outcome_of}
use Rattle.protocol_laws.specs.Ring.{ring, ring_table, ring_after, first_moves, all_moves}
use Rattle.protocol_laws.specs.Runs.{IsStuck}
use Rattle.protocol_laws.specs.WeakerRules.{by_last_ltcs, by_equal_paths, by_direct, two_microsteps, one_tag, both_ends, both_microsteps, first_turn, second_turn, next_taken}
use Rattle.protocol_laws.proofs.Frozen.{frozen_gives}

abbrev ring_rules : ℕ → Rule
ring_rules move = grant_next ring ring_table

pub ring_rows_0 : (ring_after all_moves 0).federate.rows ≡ part 0 (whole ring 9)
unfolding ring_after
ring_rows_0 = frozen_gives 3 ring ring_rules all_moves (λ members. (members 0).federate.rows) ∙ refl

pub ring_rows_1 : (ring_after all_moves 1).federate.rows ≡ part 1 (whole ring 9)
unfolding ring_after
ring_rows_1 = frozen_gives 3 ring ring_rules all_moves (λ members. (members 1).federate.rows) ∙ refl

pub ring_rows_2 : (ring_after all_moves 2).federate.rows ≡ part 2 (whole ring 9)
unfolding ring_after
ring_rows_2 = frozen_gives 3 ring ring_rules all_moves (λ members. (members 2).federate.rows) ∙ refl

pub ring_next_0 : (ring_after all_moves 0).federate_record.next ≡ forever
unfolding ring_after
ring_next_0 = frozen_gives 3 ring ring_rules all_moves (λ members. (members 0).federate_record.next) ∙ refl

pub ring_next_1 : (ring_after all_moves 1).federate_record.next ≡ forever
unfolding ring_after
ring_next_1 = frozen_gives 3 ring ring_rules all_moves (λ members. (members 1).federate_record.next) ∙ refl

pub ring_next_2 : (ring_after all_moves 2).federate_record.next ≡ forever
unfolding ring_after
ring_next_2 = frozen_gives 3 ring ring_rules all_moves (λ members. (members 2).federate_record.next) ∙ refl

pub ring_stuck_0 : IsStuck ring 0 (ring_after all_moves 0)
unfolding ring_after
ring_stuck_0 = record {
  up = frozen_gives 3 ring ring_rules all_moves (λ members. (members 0).up) ∙ refl;
  down = frozen_gives 3 ring ring_rules all_moves (λ members. (members 0).down) ∙ refl;
  announce = frozen_gives 3 ring ring_rules all_moves (λ members. federate_announces (members 0).federate) ∙ refl;
  advance = frozen_gives 3 ring ring_rules all_moves (λ members. federate_advances ring 0 (members 0).federate) ∙ refl;
}

pub ring_stuck_1 : IsStuck ring 1 (ring_after all_moves 1)
unfolding ring_after
ring_stuck_1 = record {
  up = frozen_gives 3 ring ring_rules all_moves (λ members. (members 1).up) ∙ refl;
  down = frozen_gives 3 ring ring_rules all_moves (λ members. (members 1).down) ∙ refl;
  announce = frozen_gives 3 ring ring_rules all_moves (λ members. federate_announces (members 1).federate) ∙ refl;
  advance = frozen_gives 3 ring ring_rules all_moves (λ members. federate_advances ring 1 (members 1).federate) ∙ refl;
}

pub ring_stuck_2 : IsStuck ring 2 (ring_after all_moves 2)
unfolding ring_after
ring_stuck_2 = record {
  up = frozen_gives 3 ring ring_rules all_moves (λ members. (members 2).up) ∙ refl;
  down = frozen_gives 3 ring ring_rules all_moves (λ members. (members 2).down) ∙ refl;
  announce = frozen_gives 3 ring ring_rules all_moves (λ members. federate_announces (members 2).federate) ∙ refl;
  advance = frozen_gives 3 ring ring_rules all_moves (λ members. federate_advances ring 2 (members 2).federate) ∙ refl;
}

-- the TAG of reactor 1 is there
pub ring_granted : (ring_after first_moves 1).federate_record.granted ≡ Some (at 0 0)
unfolding ring_after
ring_granted = frozen_gives 3 ring ring_rules first_moves (λ members. (members 1).federate_record.granted) ∙ refl

-- and no path allows it
pub ring_not_by_paths : passes_paths ring ring_table (federate_records_of (ring_after first_moves)) 1 (at 0 0) ≡ false
unfolding ring_after
ring_not_by_paths = frozen_gives 3 ring ring_rules first_moves (λ members. passes_paths ring ring_table (federate_records_of members) 1 (at 0 0)) ∙ refl

pub last_ltcs_refused : next_taken two_microsteps by_last_ltcs both_microsteps 0 ≡ Refused BelowGrant
unfolding next_taken
last_ltcs_refused =
    frozen_gives 3 two_microsteps (λ move. by_last_ltcs) both_microsteps
    (λ members. outcome_of two_microsteps by_last_ltcs members (ToCoordinator 0)) ∙ refl

pub equal_paths_refused : next_taken one_tag by_equal_paths first_turn 0 ≡ Refused BelowGrant
unfolding next_taken
equal_paths_refused =
    frozen_gives 3 one_tag (λ move. by_equal_paths) first_turn
    (λ members. outcome_of one_tag by_equal_paths members (ToCoordinator 0)) ∙ refl

pub direct_refused : next_taken both_ends by_direct second_turn 1 ≡ Refused BelowGrant
unfolding next_taken
direct_refused =
    frozen_gives 3 both_ends (λ move. by_direct) second_turn
    (λ members. outcome_of both_ends by_direct members (ToCoordinator 1)) ∙ refl
