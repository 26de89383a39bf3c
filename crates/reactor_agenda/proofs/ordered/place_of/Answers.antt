use Rattle.std.proofs.Common.{◌≡◌, rules, sym, subst, Equal}
use Rattle.std.specs.Prelude.{IfSome, IfNone}
use Rattle.std.specs.List.{HoldsAt}
use Rattle.std.proofs.lemmas.List.Sorted.{answers_always}
use Rattle.reactor_agenda.specs.Invariant.{key_cmp, AreOthers}
use Rattle.reactor_agenda.proofs.Past.{found_at, found_none}
use Rattle.reactor_agenda.proofs.ordered.place_of.Goals as goal

pub returns-clause-key : goal.returns-clause-key
returns-clause-key c =
    let found = c.binary_search_by_key.ensures.position (λ e. e.0) (answers_always _ _ _ (λ f a r g called. search rules)) in
    subst (λ o. IfSome o (HoldsAt (λ e. key_cmp e.0 c.args.key.now ≡ Equal) c.args.front.now.items)) (sym c.ok.ensures.value)
    (found_at c.args.key.now c.args.front.now.items c.binary_search_by_key.result found)

pub returns-clause-none : goal.returns-clause-none
returns-clause-none c =
    let found = c.binary_search_by_key.ensures.position (λ e. e.0) (answers_always _ _ _ (λ f a r g called. search rules)) in
    subst (λ o. IfNone o (AreOthers c.args.key.now c.args.front.now.items)) (sym c.ok.ensures.value)
    (found_none c.args.key.now c.args.front.now.items c.binary_search_by_key.result c.requires found)
