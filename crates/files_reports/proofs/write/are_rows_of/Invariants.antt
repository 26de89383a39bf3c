use Rattle.std.proofs.Common.{◌≡◌, ℕ, ◌<◌, slice_index_or}
use Rattle.network.specs.Undivided.{Row}
use Rattle.files_reports.proofs.write.are_rows_of.Given as goal

-- those so far are
abbrev pub invariant-loop-place : goal.invariant-loop-place
invariant-loop-place l = (k : ℕ) (d : Row) → k < l.place → (slice_index_or l.rows k d).reactor ≡ l.federate
