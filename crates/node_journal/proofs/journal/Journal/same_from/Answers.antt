use Rattle.std.proofs.Common.{◌≡◌, ◌∙◌, sym, ap, slice_get, length, refl, arith}
use Rattle.node_journal.specs.Numbered.{events_of}
use Rattle.node_journal.proofs.Numbered.{block_within, same_block}
use Rattle.node_journal.proofs.Appended.{same_there}
use Rattle.node_journal.proofs.journal.Journal.same_from.Goals as goal

pub returns-in-Some-Some-clause-few : goal.returns-in-Some-Some-clause-few
returns-in-Some-Some-clause-few c =
    let there = c.in-Some-Some.ensures.there in
    let long = c.len.ensures in
    let within = block_within c.self.inside.slips there.0 there.1 c.args.from c.in-Some-Some.block.now c.self.invariant there.2 c.in-Some-Some.ensures.some in
    let view : length (events_of c.self.inside.slips) ≡ length c.args.self.now = ap length c.self.view_is in
    omega arith

pub returns-in-Some-Some-clause-same : goal.returns-in-Some-Some-clause-same
returns-in-Some-Some-clause-same c = λ k begun less.
    let there = c.in-Some-Some.ensures.there in
    let other = c.in-Some-Some.ensures'.there in
    let long = c.len.ensures in
    ap (λ l. slice_get l k) (sym c.self.view_is)
    ∙ same_block c.self.inside.slips there.0 there.1 c.other.inside.slips other.0 other.1 c.args.from c.in-Some-Some.block.now c.in-Some-Some.found.now c.self.invariant there.2
    c.in-Some-Some.ensures.some c.other.invariant other.2 (c.if-is_same.ensures refl) k begun (omega arith)
    ∙ ap (λ l. slice_get l k) c.other.view_is

pub returns-in_default-clause-same : goal.returns-in_default-clause-same
returns-in_default-clause-same c = λ k begun less.
    let no = c.if-not-is_same.false in
    same_there c.args.self.now c.args.other.now c.args.from k c.event.result c.event-2.result c.requires.there c.requires.other c.event.ensures c.event-2.ensures
    (c.is_same.ensures.0 (grind (arith, no))) begun less

pub returns-in_default-2-clause-same : goal.returns-in_default-2-clause-same
returns-in_default-2-clause-same c = λ k begun less.
    let no = c.if-not-is_same.false in
    same_there c.args.self.now c.args.other.now c.args.from k c.event.result c.event-2.result c.requires.there c.requires.other c.event.ensures c.event-2.ensures
    (c.is_same.ensures.0 (grind (arith, no))) begun less

pub returns-in_default-3-clause-same : goal.returns-in_default-3-clause-same
returns-in_default-3-clause-same c = λ k begun less.
    let no = c.if-not-is_same.false in
    same_there c.args.self.now c.args.other.now c.args.from k c.event.result c.event-2.result c.requires.there c.requires.other c.event.ensures c.event-2.ensures
    (c.is_same.ensures.0 (grind (arith, no))) begun less
