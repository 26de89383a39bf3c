use Rattle.std.proofs.Common.{◌≡◌, ◌+◌, ◌++◌, ◌∷◌, [], ◌∙◌, ap, sym, take, arith, append_assoc}
use Rattle.std.proofs.lemmas.List.{take_more}
use Rattle.reactor.proofs.rows.append.Goals as goal

pub loop-entry-preserved : goal.loop-entry-preserved
loop-entry-preserved c =
    let entries = c.args.entries.now in
    let i = c.loop-entry.entry-index in
    let item = c.entry-item.result in
    let more : take (i + 1) entries ≡ take i entries ++ item ∷ [] = take_more entries i item c.loop-entry-test.true ∙ ap (λ e. take i entries ++ e ∷ []) (sym c.entry-item.is) in
    record {
      items = c.push_reserved.ensures.items ∙ ap (λ items. items ++ item ∷ []) c.loop-entry.invariant.items
          ∙ append_assoc c.args.to.now.items (take i entries) (item ∷ []) ∙ ap (λ rest. c.args.to.now.items ++ rest) (sym more);
      len = omega arith;
      capacity = c.push_reserved.ensures.capacity ∙ c.loop-entry.invariant.capacity;
    }
