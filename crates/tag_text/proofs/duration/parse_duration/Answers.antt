use Rattle.std.proofs.Common.{codes}
use Rattle.std.proofs.lemmas.Bool.Decides.{Decides-eqb}
use Rattle.std.proofs.lemmas.Slice.Eq.{slice_eq-Decides}
use Rattle.tag_text.specs.Duration.{HasParts}
use Rattle.tag_text.proofs.Spellings.{zero_answer, none_answer, some_answer}
use Rattle.tag_text.proofs.duration.parse_duration.Goals as goal

pub returns-then-eq : goal.returns-then-eq
returns-then-eq c =
    let zero = slice_eq-Decides Decides-eqb c.args.text.now (codes "0") c.eq.result c.eq.ensures in
    let a = zero_answer c.args.text.now (zero.0 c.if-eq.true) in
    record { ok = a.ok; exact = a.exact; too_long = a.too_long; bad = a.bad }

pub returns-in-Some : goal.returns-in-Some
returns-in-Some c =
    let parts : HasParts c.args.text.now c.in-Some.digits.now c.in-Some.unit = rw c.as_bytes.ensures.value at c.in-Some.ensures in
    let p = some_answer c.args.text.now c.in-Some.digits.now c.in-Some.unit c.value.result parts c.value.ensures in
    rw c.ok_or.ensures.value (record { ok = p.ok; exact = p.exact; too_long = p.too_long; bad = p.bad })

pub returns-in-None : goal.returns-in-None
returns-in-None c =
    let zero = slice_eq-Decides Decides-eqb c.args.text.now (codes "0") c.eq.result c.eq.ensures in
    let a = none_answer c.args.text.now (λ e. cc (zero.1 e, c.if-eq.false)) (λ digits unit. rw c.as_bytes.ensures.value at (c.in-None.ensures digits unit)) in
    record { ok = a.ok; exact = a.exact; too_long = a.too_long; bad = a.bad }
