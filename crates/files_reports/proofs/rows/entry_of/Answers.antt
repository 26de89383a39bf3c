use Rattle.std.proofs.Common.{ℤ, rules, sym, subst, w64}
use Rattle.std.proofs.lemmas.Int.{to_z-of_z}
use mir.Val.{SFits}
use Rattle.files_reports.specs.Said.{IsEntry}
use Rattle.files_reports.specs.Spelling.{entry_bytes}
use Rattle.files_reports.specs.Reading.{IsTaken}
use Rattle.files_reports.proofs.Taken.{entry_taken}
use Rattle.files_reports.proofs.rows.entry_of.Goals as goal

pub returns-clause-taken : goal.returns-clause-taken
returns-clause-taken c =
    let fits : SFits w64 c.cast_signed.result = search rules in
    rw c.new.ensures (subst (λ (value : ℤ). IsTaken entry_bytes IsEntry c.args.bytes.now (record { place = c.in_ok-place.place; value = value }) c.in_ok-value.rest.now)
    (sym (to_z-of_z w64 c.cast_signed.result fits))
    (entry_taken c.args.bytes.now c.in_ok-place.rest.now c.in_ok-value.rest.now c.in_ok-place.place c.in_ok-value.value c.cast_signed.result
    c.in_ok-place.ensures.fits c.in_ok-value.ensures.fits fits c.cast_signed.ensures c.in_ok-place.ensures.taken c.in_ok-value.ensures.taken))
