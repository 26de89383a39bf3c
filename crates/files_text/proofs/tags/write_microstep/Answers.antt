use Rattle.std.proofs.Common.{◌≡◌, ◌++◌, [], ◌∷◌, OnOk, sym, subst, ap, ◌∙◌, arith}
use Rattle.std.specs.Fmt.{decimal}
use Rattle.std.specs.Io.KnownBytes.{Appends}
use Rattle.files_text.proofs.Lines.{zero_is}
use Rattle.files_text.proofs.tags.write_microstep.Goals as goal

pub returns-then-microstep-eq0 : goal.returns-then-microstep-eq0
returns-then-microstep-eq0 g c =
    let zero = c.if-microstep-eq0.true in
    let e : c.args.microstep ≡ 0 = omega arith in
    subst (λ d. OnOk c.put.result (Appends (g.W.Write.contents c.args.out.now) (g.W.Write.contents c.put.new.out) (44 ∷ 32 ∷ (d ++ 41 ∷ 32 ∷ [])))) (sym (ap decimal e ∙ zero_is)) c.put.ensures
