use Rattle.std.proofs.Common.{◌≡◌, None, sym, ap, ◌∙◌}
use Rattle.signal.specs.Stream.{Stream, fed}
use Rattle.signal.proofs.Readers.{fed_stream, none_stands}
use Rattle.signal.proofs.reader.FrameReader.feed.Goals as goal

pub returns-clause-ok : goal.returns-clause-ok
returns-clause-ok c =
    let same = c.self-2.view_is ∙ c.discard.ensures in
    let before : c.self-2.inside.fault ≡ c.self.inside.fault = ap (λ (s : Stream). s.fault) (same ∙ sym c.self.view_is) in
    let sound : c.self-2.inside.fault ≡ None = before ∙ none_stands c.self.inside.fault (sym c.is_some.ensures ∙ c.if-is_some.false) in
    fed_stream c.self-2.inside c.args.bytes.now c.extend_from_slice.new.self.items c.self-2.invariant sound c.in_ok-extend_from_slice.ensures.items ∙ ap (λ (s : Stream). fed s c.args.bytes.now) same
