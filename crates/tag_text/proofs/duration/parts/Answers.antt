use Rattle.std.proofs.Common.{◌≡◌, List, ℕ, length, ap, sym, ◌∙◌, subst, arith}
use Rattle.std.proofs.lemmas.Bool.Decides.{nat_tests}
use Rattle.tag_text.specs.Duration.{IsUnit, HasParts}
use Rattle.tag_text.proofs.Parts.{digits_in, after_digits, after_spaces, parts_found, parts_digits, parts_unit}
use Rattle.tag_text.proofs.duration.parts.Goals as goal

pub returns-then-is_empty : goal.returns-then-is_empty
returns-then-is_empty c = λ digits unit p.
    let at : c.split_at.result.0.now ≡ digits_in c.args.text.now = cc in
    let same = ap length (at ∙ parts_digits c.args.text.now digits unit p) in
    let some = p.some_digits in
    grind (arith, nat_tests)

pub returns-in_err-unit : goal.returns-in_err-unit
returns-in_err-unit c = rw c.from_residual.ensures (λ digits unit p.
    let name : c.split_at-2.result.1.now ≡ after_spaces (after_digits c.args.text.now) = cc in
    let P : List ℕ → Type 0 = λ x. IsUnit x unit in
    c.in_err-unit.ensures unit (subst P (sym name) (parts_unit c.args.text.now digits unit p)))

pub returns : goal.returns
returns c =
    let at : c.split_at.result.0.now ≡ digits_in c.args.text.now = cc in
    let name : c.split_at-2.result.1.now ≡ after_spaces (after_digits c.args.text.now) = cc in
    let P : List ℕ → Type 0 = λ x. IsUnit x c.in_ok-unit.unit in
    let Q : List ℕ → Type 0 = λ x. HasParts c.args.text.now x c.in_ok-unit.unit in
    subst Q (sym at) (parts_found c.args.text.now c.in_ok-unit.unit (subst P name c.in_ok-unit.ensures) (grind (arith, nat_tests, ap length at)))
