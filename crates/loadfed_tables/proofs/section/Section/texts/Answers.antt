use Rattle.std.proofs.Common.{ap, sym, ◌∙◌}
use Rattle.std.proofs.lemmas.Result.{err_from_is_err_and}
use Rattle.toml.specs.Data.{string}
use Rattle.loadfed_tables.specs.Sections.{members_of}
use Rattle.loadfed_tables.proofs.Refusals.{weaker}
use Rattle.loadfed_tables.proofs.KeyReadings.{texts_more, array_of_texts, text_entry, texts_all}
use Rattle.loadfed_tables.proofs.section.Section.texts.Goals as goal

pub loop-value-preserved : goal.loop-value-preserved
loop-value-preserved c =
    rw c.in_ok-push.ensures.items
    (texts_more c.in_ok-value-items.value-items.now c.loop-value.texts.items c.loop-value.value-index c.value-item.result c.in_ok-copy.copy
    c.loop-value-test.true c.value-item.is c.loop-value.invariant (c.in_ok-text.ensures.ok ∙ ap string (sym c.in_ok-copy.ensures.copy)))

pub returns-in_err-value-items-clause-refused : goal.returns-in_err-value-items-clause-refused
returns-in_err-value-items-clause-refused c =
    let p = err_from_is_err_and c.from_residual.result c.from_residual.ensures.1 in
    rw (p.1, p.2) (weaker _ _ _ _ (array_of_texts c.args.key.now (members_of c.args.self.now)) c.in_err-value-items.ensures.refused)

pub returns-in_err-text-clause-refused : goal.returns-in_err-text-clause-refused
returns-in_err-text-clause-refused c =
    let p = err_from_is_err_and c.from_residual-in_err-text.result c.from_residual-in_err-text.ensures.1 in
    let here = text_entry c.args.key.now (members_of c.args.self.now) c.in_ok-value-items.value-items.now c.loop-value.value-index c.value-item.result
    c.in_ok-value-items.ensures.ok c.loop-value-test.true c.value-item.is in
    rw (p.1, p.2) (weaker _ _ _ _ here c.in_err-text.ensures.refused)

pub returns-clause-ok : goal.returns-clause-ok
returns-clause-ok c =
    rw c.new.ensures
    (texts_all c.args.key.now (members_of c.args.self.now) c.in_ok-value-items.value-items.now c.loop-value.texts.items c.loop-value.value-index
    c.in_ok-value-items.ensures.ok c.loop-value.invariant c.loop-value-test.false)
