-- The value is its own after being read as its two's complement.
use Rattle.std.proofs.Common.{◌≡◌, ℕ, ◌<◌, ◌^◌, rules, ap, ◌∙◌, w64}
use Rattle.std.proofs.lemmas.Int.{to_z-of_z, of_z-to_z}
use mir.Val.{SFits, of_z, to_z}
use Rattle.signal.specs.Signal.{tag_bytes}
use Rattle.signal.proofs.Parts.{message_parts}
use Rattle.signal.proofs.reading.message_of.Goals as goal

pub returns-clause-spelled : goal.returns-clause-spelled
returns-clause-spelled c =
    let value : ℕ = c.take_u64-value.result.0 in
    let fits : SFits w64 c.cast_signed.result = search rules in
    let bits : value < 2 ^ 64 = search rules in
    let read : to_z w64 (of_z w64 c.cast_signed.result) ≡ to_z w64 value = to_z-of_z w64 c.cast_signed.result fits ∙ c.cast_signed.ensures in
    let again : of_z w64 (to_z w64 (of_z w64 c.cast_signed.result)) ≡ value = ap (of_z w64) read ∙ of_z-to_z w64 value bits in (
      (search rules, c.in_ok-tag.ensures.found.0, search rules),
      message_parts c.args.bytes.now c.take_u16-connection.result.1.now c.take_u64-value.result.1.now (tag_bytes c.in_ok-tag.tag) c.take_u16-connection.result.0 value
          (of_z w64 (to_z w64 (of_z w64 c.cast_signed.result))) (search rules) c.requires.kind c.take_u16-connection.ensures.parts c.in_ok-tag.ensures.found.1 c.take_u64-value.ensures.parts again,
    )
