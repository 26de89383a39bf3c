use Rattle.std.proofs.Common.{◌≡◌, rules, refl, ap, ◌∙◌, w64}
use Rattle.std.specs.Int.{cast_unsigned}
use Rattle.std.proofs.lemmas.Int.{to_z-of_z}
use mir.Val.{SFits}
use Rattle.signal.specs.declared.signal.Signal.TheVariants.{Net, Ltc, Tag, Msg}
use Rattle.signal.specs.Signal.{signal_bytes}
use Rattle.signal.proofs.Appended.{written_as, tag_signal_is, message_is}
use Rattle.signal.proofs.writing.write_signal.Goals as goal

pub returns-in-Net-clause-written : goal.returns-in-Net-clause-written
returns-in-Net-clause-written c =
    let tag = c.in-Net.tag in
    let bytes = tag_signal_is c.tag_signal.result 1 c.numbers_of.result.0 c.numbers_of.result.1 tag tag refl c.numbers_of.ensures c.tag_signal.ensures in
    written_as signal_bytes c.args.signal (Net tag) c.tag_signal.result c.args.bytes.now.items c.append.new.bytes.items c.append.result c.in-Net.is bytes c.append.ensures.written

pub returns-in-Ltc-clause-written : goal.returns-in-Ltc-clause-written
returns-in-Ltc-clause-written c =
    let tag = c.in-Ltc.tag in
    let bytes = tag_signal_is c.tag_signal-in-Ltc.result 2 c.numbers_of-in-Ltc.result.0 c.numbers_of-in-Ltc.result.1 tag c.tag.result c.tag.ensures c.numbers_of-in-Ltc.ensures c.tag_signal-in-Ltc.ensures in
    written_as signal_bytes c.args.signal (Ltc tag) c.tag_signal-in-Ltc.result c.args.bytes.now.items c.append-in-Ltc.new.bytes.items c.append-in-Ltc.result c.in-Ltc.is bytes c.append-in-Ltc.ensures.written

pub returns-in-Tag-clause-written : goal.returns-in-Tag-clause-written
returns-in-Tag-clause-written c =
    let tag = c.in-Tag.tag in
    let bytes = tag_signal_is c.tag_signal-in-Tag.result 3 c.numbers_of-in-Tag.result.0 c.numbers_of-in-Tag.result.1 tag c.tag-in-Tag.result c.tag-in-Tag.ensures c.numbers_of-in-Tag.ensures c.tag_signal-in-Tag.ensures in
    written_as signal_bytes c.args.signal (Tag tag) c.tag_signal-in-Tag.result c.args.bytes.now.items c.append-in-Tag.new.bytes.items c.append-in-Tag.result c.in-Tag.is bytes c.append-in-Tag.ensures.written

pub returns-in-Msg-clause-written : goal.returns-in-Msg-clause-written
returns-in-Msg-clause-written c =
    let tag = c.in-Msg.tag in
    let fits : SFits w64 c.in-Msg.value = search rules in
    let value : c.cast_unsigned.result ≡ cast_unsigned w64 c.in-Msg.value = c.cast_unsigned.ensures ∙ ap (cast_unsigned w64) (to_z-of_z w64 c.in-Msg.value fits) in
    let bytes = message_is c.message.result c.in-Msg.connection c.numbers_of-in-Msg.result.0 c.numbers_of-in-Msg.result.1 c.cast_unsigned.result (cast_unsigned w64 c.in-Msg.value)
    tag c.tag-in-Msg.result c.tag-in-Msg.ensures value c.numbers_of-in-Msg.ensures c.message.ensures in
    written_as signal_bytes c.args.signal (Msg c.in-Msg.connection tag c.in-Msg.value) c.message.result c.args.bytes.now.items c.append-in-Msg.new.bytes.items c.append-in-Msg.result c.in-Msg.is bytes c.append-in-Msg.ensures.written
