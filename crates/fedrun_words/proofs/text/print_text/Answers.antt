use Rattle.std.proofs.Common.{rules, ◌≡◌, ◌+◌, ◌<◌, IfSome, length, take, sym, subst, ◌∙◌, arith}
use Rattle.std.specs.Io.KnownBytes.{Appends}
use Rattle.fedrun_words.specs.declared.piece.TheConstants.{PIECE}
use Rattle.fedrun_words.proofs.Cut.{printed_grows, is_begun, is_whole}
use Rattle.fedrun_words.proofs.text.print_text.Goals as goal

pub returns-then-count-lt-PIECE-clause-begun : goal.returns-then-count-lt-PIECE-clause-begun
returns-then-count-lt-PIECE-clause-begun g c =
    is_begun _ _ _ _ (printed_grows _ _ _ _ c.loop.told c.write_prefix-count.result c.in-Some.piece.items _ c.loop.invariant c.in-Some.ensures
    c.as_slice.ensures.value c.write_prefix-count.ensures.begun c.write_prefix-count.ensures.few)

pub returns-then-count-lt-PIECE-clause-whole : goal.returns-then-count-lt-PIECE-clause-whole
returns-then-count-lt-PIECE-clause-whole g c = λ is_full.
    let full : c.write_prefix-count.result ≡ length c.in-Some.piece.items = search rules in
    let short : c.write_prefix-count.result < PIECE = search rules in
    is_whole _ _ _ c.loop.told c.write_prefix-count.result c.in-Some.piece.items c.in-Some.ensures full short
    (printed_grows _ _ _ _ c.loop.told c.write_prefix-count.result c.in-Some.piece.items _ c.loop.invariant c.in-Some.ensures
    c.as_slice.ensures.value c.write_prefix-count.ensures.begun c.write_prefix-count.ensures.few)

pub returns-in_default-checked_add-clause-begun : goal.returns-in_default-checked_add-clause-begun
returns-in_default-checked_add-clause-begun g c =
    is_begun _ _ _ _ (printed_grows _ _ _ _ c.loop.told c.write_prefix-count.result c.in-Some.piece.items _ c.loop.invariant c.in-Some.ensures
    c.as_slice.ensures.value c.write_prefix-count.ensures.begun c.write_prefix-count.ensures.few)

pub loop-preserved : goal.loop-preserved
loop-preserved g c =
    let next : c.in-Some-checked_add.next ≡ c.loop.told + c.write_prefix-count.result = search rules in
    subst (λ told. IfSome (g.D.Display.output c.args.text.now) (λ text. Appends (g.E.Write.contents c.args.err.now) (g.E.Write.contents c.write_prefix-count.new.err) (take told text))) (sym next)
    (printed_grows _ _ _ _ c.loop.told c.write_prefix-count.result c.in-Some.piece.items _ c.loop.invariant c.in-Some.ensures
    c.as_slice.ensures.value c.write_prefix-count.ensures.begun c.write_prefix-count.ensures.few)
