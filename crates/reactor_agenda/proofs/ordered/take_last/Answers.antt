use Rattle.std.proofs.Common.{◌∙◌, ◌++◌, ◌∷◌, [], ap, sym, w64, FitsSigned, rules}
use Rattle.std.proofs.lemmas.Int.{to_z-of_z}
use Rattle.std.specs.Ordering.{is_eq}
use Rattle.reactor_agenda.proofs.Past.{last_taken}
use Rattle.reactor_agenda.proofs.ordered.take_last.Goals as goal

pub returns-in-Some-clause-taken : goal.returns-in-Some-clause-taken
returns-in-Some-clause-taken c =
    let fits : FitsSigned w64 c.in-Some.value = search rules in
    last_taken c.args.key.now c.args.front.now.items c.pop_back.new.self.items (c.in-Some.field-0-0, c.in-Some.value) c.in-Some.ensures.items
    (sym (c.is_eq.ensures ∙ ap is_eq c.last_cmp.ensures) ∙ c.if-not-is_eq.false)
    ∙ ap (λ v. c.pop_back.new.self.items ++ (c.args.key.now, v) ∷ []) (sym (to_z-of_z w64 c.in-Some.value fits))
