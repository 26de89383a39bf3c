use Rattle.std.proofs.Common.{◌≡◌, ap, sym, ◌∙◌, map, length, string_bytes, rules}
use Rattle.std.specs.Map.{keys_of}
use Rattle.std.specs.Map.Iter.{deref}
use Rattle.std.proofs.lemmas.Map.Iter.{iter_turn, iter_end}
use Rattle.std.proofs.lemmas.List.Elements.{All-push}
use Rattle.loadfed_tables.specs.Sections.{members_of}
use Rattle.loadfed_tables.specs.Tables.{is_among}
use Rattle.loadfed_tables.proofs.KeyReadings.{unknown_told, key_there, all_known, IsKnown}
use Rattle.loadfed_tables.proofs.section.Section.has_only.Goals as goal

pub returns-then-not-is_among-clause-refused : goal.returns-then-not-is_among-clause-refused
returns-then-not-is_among-clause-refused c =
    let known = map (λ k. k.now) c.args.known.now in
    let entries = c.args.self.now.table.now.entries in
    let start : c.into_iter-key-iterator.result ≡ keys_of entries = search (rules, c.into_iter-key-iterator.ensures.into_iter_gives, c.keys-key-items.ensures.rest) in
    let turn = iter_turn deref (keys_of entries) c.loop-key.yielded c.into_iter-key-iterator.result c.loop-key.key-iterator c.next.new.self c.next.result
    start c.loop-key.yielded_by c.in-Some.key c.in-Some.is c.next.ensures.steps in
    unknown_told known (members_of c.args.self.now) (string_bytes c.in-Some.key.now) c.wrong_shape.result
    (key_there entries (length c.loop-key.yielded) c.in-Some.key.now turn.1)
    (ap (is_among known) (sym c.as_str.ensures.value) ∙ sym c.is_among.ensures ∙ c.if-not-is_among.true)
    (rw c.as_str-then-not-is_among.ensures.value at c.wrong_shape.ensures)

pub loop-key-preserved : goal.loop-key-preserved
loop-key-preserved c =
    let known = map (λ k. k.now) c.args.known.now in
    All-push (IsKnown known) c.loop-key.yielded c.in-Some.key c.loop-key.invariant
    (ap (is_among known) (sym c.as_str.ensures.value) ∙ sym c.is_among.ensures ∙ c.if-not-is_among.false)

pub returns-clause-ok : goal.returns-clause-ok
returns-clause-ok c =
    let known = map (λ k. k.now) c.args.known.now in
    let entries = c.args.self.now.table.now.entries in
    let whole : map deref c.loop-key.yielded ≡ keys_of entries = search (rules, iter_end) in
    all_known known entries c.loop-key.yielded whole c.loop-key.invariant
