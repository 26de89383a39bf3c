use Rattle.std.proofs.Common.{refl}
use Rattle.protocol_laws.proofs.Computed.{ring_rows_0, ring_rows_1, ring_rows_2, ring_next_0, ring_next_1, ring_next_2, ring_stuck_0, ring_stuck_1, ring_stuck_2, ring_granted, ring_not_by_paths}
use Rattle.protocol_laws.proofs.the_ring_ends.Goals as goal

pub returns-clause-rows_0 : goal.returns-clause-rows_0
returns-clause-rows_0 c = ring_rows_0

pub returns-clause-rows_1 : goal.returns-clause-rows_1
returns-clause-rows_1 c = ring_rows_1

pub returns-clause-rows_2 : goal.returns-clause-rows_2
returns-clause-rows_2 c = ring_rows_2

pub returns-clause-whole : goal.returns-clause-whole
returns-clause-whole c = refl

pub returns-clause-next_0 : goal.returns-clause-next_0
returns-clause-next_0 c = ring_next_0

pub returns-clause-next_1 : goal.returns-clause-next_1
returns-clause-next_1 c = ring_next_1

pub returns-clause-next_2 : goal.returns-clause-next_2
returns-clause-next_2 c = ring_next_2

pub returns-clause-stuck_0 : goal.returns-clause-stuck_0
returns-clause-stuck_0 c = ring_stuck_0

pub returns-clause-stuck_1 : goal.returns-clause-stuck_1
returns-clause-stuck_1 c = ring_stuck_1

pub returns-clause-stuck_2 : goal.returns-clause-stuck_2
returns-clause-stuck_2 c = ring_stuck_2

pub returns-clause-granted : goal.returns-clause-granted
returns-clause-granted c = ring_granted

pub returns-clause-not_by_paths : goal.returns-clause-not_by_paths
returns-clause-not_by_paths c = ring_not_by_paths
