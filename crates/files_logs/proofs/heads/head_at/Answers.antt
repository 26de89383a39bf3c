use Rattle.std.proofs.Common.{◌≡◌, ◌++◌, Some, sym, ◌∙◌}
use Rattle.std.proofs.lemmas.Bool.Decides.{Decides-eqb}
use Rattle.std.proofs.lemmas.Slice.Eq.{strip_prefix_is}
use Rattle.files_logs.proofs.Asked.{found_at, missed_at}
use Rattle.files_logs.proofs.heads.head_at.Goals as goal

pub returns-then-sum_of-sum : goal.returns-then-sum_of-sum
returns-then-sum_of-sum c =
    let named : c.args.bytes.now ≡ c.name.result.now ++ c.in_ok-rest.rest.now =
    strip_prefix_is Decides-eqb c.args.bytes.now c.name.result.now (Some c.in_ok-rest.rest) c.in_ok-rest.ensures.cases in
    missed_at c.args.bytes.now c.name.result.now c.take_digest.result.0 c.take_digest-2.result.0 c.split_at.result.0.now c.in_ok-rest.rest.now c.take_digest.result.1.now
    c.take_digest-2.result.1.now c.take_two-who.result.1.now c.take_two-rules.result.1.now c.take_eight-sum.result.1.now c.take_two-who.result.0 c.take_two-rules.result.0 c.take_eight-sum.result.0
    c.name.ensures named c.take_digest.ensures.parts c.take_digest-2.ensures.parts c.take_two-who.ensures.parts c.take_two-rules.ensures.parts c.take_eight-sum.ensures.parts
    c.take_digest.ensures.size c.take_digest-2.ensures.size c.take_two-who.ensures.fits c.take_two-rules.ensures.fits c.take_eight-sum.ensures.fits c.split_at.ensures.front
    (λ same. c.if-sum_of-sum.true (c.sum_of.ensures ∙ same))

pub returns : goal.returns
returns c =
    let named : c.args.bytes.now ≡ c.name.result.now ++ c.in_ok-rest.rest.now =
    strip_prefix_is Decides-eqb c.args.bytes.now c.name.result.now (Some c.in_ok-rest.rest) c.in_ok-rest.ensures.cases in
    found_at c.args.bytes.now c.name.result.now c.take_digest.result.0 c.take_digest-2.result.0 c.split_at.result.0.now c.in_ok-rest.rest.now c.take_digest.result.1.now
    c.take_digest-2.result.1.now c.take_two-who.result.1.now c.take_two-rules.result.1.now c.take_eight-sum.result.1.now c.take_two-who.result.0 c.take_two-rules.result.0 c.take_eight-sum.result.0
    c.name.ensures named c.take_digest.ensures.parts c.take_digest-2.ensures.parts c.take_two-who.ensures.parts c.take_two-rules.ensures.parts c.take_eight-sum.ensures.parts
    c.take_digest.ensures.size c.take_digest-2.ensures.size c.take_two-who.ensures.fits c.take_two-rules.ensures.fits c.split_at.ensures.front
    (sym c.sum_of.ensures ∙ c.if-sum_of-sum.false)
