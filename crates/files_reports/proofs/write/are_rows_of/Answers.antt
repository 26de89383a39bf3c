use Rattle.std.proofs.Common.{◌≡◌, ◌<◌, length, refl, arith}
use Rattle.network.specs.Undivided.{Row}
use Rattle.files_reports.proofs.Written.{one_more}
use Rattle.files_reports.proofs.write.are_rows_of.Goals as goal

pub loop-place-preserved : goal.loop-place-preserved
loop-place-preserved c =
    let there : c.loop-place.place < length c.args.rows.now = omega arith in
    let own : c.row.result.reactor ≡ c.args.federate = omega (arith, c.federate.ensures, c.if-federate.false) in
    one_more (λ (row : Row). row.reactor ≡ c.args.federate) c.args.rows.now c.loop-place.place c.row.result there c.row.ensures own c.loop-place.invariant

pub returns : goal.returns
returns c = (λ _ k d less. c.loop-place.invariant k d (omega (arith, less)), λ _. refl)
