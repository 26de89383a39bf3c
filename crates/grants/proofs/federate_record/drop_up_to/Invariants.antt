use Rattle.std.proofs.Common.{◌≡◌, length}
use Rattle.std.specs.Prelude.{filter}
use Rattle.tag.specs.LogicalTime.{is_before}
use Rattle.grants.proofs.federate_record.drop_up_to.Given as goal

abbrev pub invariant-loop-last : goal.invariant-loop-last
invariant-loop-last l = filter (λ t. is_before l.last t) l.tags.keys ≡ filter (λ t. is_before l.last t) l.initial.tags.keys

abbrev pub decreases-loop-last : goal.decreases-loop-last
decreases-loop-last l = length l.tags.keys
