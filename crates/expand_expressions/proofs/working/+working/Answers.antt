use Rattle.std.proofs.Common.{rules, ℕ, true, false, sym, ap, ◌∙◌, w64, FitsSigned}
use Rattle.std.proofs.lemmas.Int.{to_z-of_z}
use Rattle.expand_expressions.specs.declared.formula.Formula.{Formula}
use Rattle.expand_expressions.specs.Meaning.{is_truth}
use Rattle.expand_expressions.specs.Working.{Kept, sided, combined_sides, divided, worked_out}
use Rattle.expand_expressions.proofs.Answered.{divided_answers, combined_answers}
use Rattle.expand_expressions.proofs.working.+working.Goals as goal

pub work_out-returns-in_ok-right-in-Combined : goal.work_out-returns-in_ok-right-in-Combined
work_out-returns-in_ok-right-in-Combined t c =
    let free = c.args.free in
    let side : Formula → ℕ → Kept = λ formula free. sided free c.in-Combined.combination (is_truth formula) (worked_out free formula) in
    let x = c.deref-in-Combined.result.now in
    let y = c.deref-in-Combined-2.result.now in
    combined_answers _ free c.in-Combined.combination (side x free) (side y) _ _ _ _ _ _ _ _
    (ap (λ f. worked_out free f) c.in-Combined.is
    ∙ ap (λ f. combined_sides free c.in-Combined.combination (side f free) (side c.in-Combined.right.value (side f free).free)) (sym c.deref-in-Combined.ensures)
    ∙ ap (λ f. combined_sides free c.in-Combined.combination (side x free) (side f (side x free).free)) (sym c.deref-in-Combined-2.ensures))
    c.in_ok-left-in-Combined.ensures (c.in_ok-right-in-Combined.ensures.0, c.in_ok-right-in-Combined.ensures.2) c.combined.ensures

pub work_out-returns-in_ok-value-in-Quotient : goal.work_out-returns-in_ok-value-in-Quotient
work_out-returns-in_ok-value-in-Quotient t c =
    let free = c.args.free in
    let d = c.in-Quotient.divisor in
    let x = c.deref-in-Quotient.result.now in
    let fits : FitsSigned w64 d = search rules in
    divided_answers _ free true d _ _ (worked_out free x) _ _ _ _ (to_z-of_z w64 d fits)
    (ap (λ f. worked_out free f) c.in-Quotient.is ∙ ap (λ f. divided free true d (worked_out free f)) (sym c.deref-in-Quotient.ensures))
    c.in_ok-value-in-Quotient.ensures.0 c.in_ok-value-in-Quotient.ensures.1 c.divided.ensures

pub work_out-returns-in_ok-value-in-Remainder : goal.work_out-returns-in_ok-value-in-Remainder
work_out-returns-in_ok-value-in-Remainder t c =
    let free = c.args.free in
    let d = c.in-Remainder.divisor in
    let x = c.deref-in-Remainder.result.now in
    let fits : FitsSigned w64 d = search rules in
    divided_answers _ free false d _ _ (worked_out free x) _ _ _ _ (to_z-of_z w64 d fits)
    (ap (λ f. worked_out free f) c.in-Remainder.is ∙ ap (λ f. divided free false d (worked_out free f)) (sym c.deref-in-Remainder.ensures))
    c.in_ok-value-in-Remainder.ensures.0 c.in_ok-value-in-Remainder.ensures.1 c.divided-in-Remainder.ensures
