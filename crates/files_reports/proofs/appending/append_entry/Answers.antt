use Rattle.std.proofs.Common.{◌≡◌, ◌++◌, rules, ap, ◌∙◌, w64}
use Rattle.std.specs.Int.{cast_unsigned}
use Rattle.std.proofs.lemmas.Int.{to_z-of_z}
use Rattle.std.proofs.lemmas.Result.{on_ok_weaker}
use mir.Val.{SFits}
use Rattle.byteorder.specs.Endian.{big_bytes}
use Rattle.files_reports.proofs.Written.{both_written}
use Rattle.files_reports.proofs.appending.append_entry.Goals as goal

pub returns-clause-written : goal.returns-clause-written
returns-clause-written c =
    let entry = c.args.entry in
    let fits : SFits w64 c.value.result = search rules in
    let place = c.in_ok-append_eight.ensures ∙ ap (λ n. c.args.bytes.now.items ++ big_bytes 8 n) c.place.ensures in
    let value : c.cast_unsigned.result ≡ cast_unsigned w64 entry.value =
    c.cast_unsigned.ensures ∙ ap (cast_unsigned w64) (to_z-of_z w64 c.value.result fits ∙ c.value.ensures) in
    on_ok_weaker c.append_eight-2.result
    (λ written. both_written c.args.bytes.now.items c.append_eight.new.bytes.items c.append_eight-2.new.bytes.items (big_bytes 8 entry.place) (big_bytes 8 (cast_unsigned w64 entry.value))
    place (written ∙ ap (λ n. c.append_eight.new.bytes.items ++ big_bytes 8 n) value))
    c.append_eight-2.ensures
