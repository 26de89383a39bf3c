use Rattle.std.proofs.Common.{◌≡◌, ◌∙◌, sym, ap, ◌++◌, length, take, drop}
use Rattle.node_journal.proofs.Numbered.{as_many, block_taken, more_numbers, more_events}
use Rattle.node_journal.proofs.journal.Journal.append_next.Goals as goal

pub invariant_of-self-then-len-most : goal.invariant_of-self-then-len-most
invariant_of-self-then-len-most c =
    more_numbers c.self.inside.slips c.add_block.new.self c.len-place.result c.in_ok-try_clone-in-Some.field-0
    (c.len-place.ensures ∙ sym (ap length c.self.view_is) ∙ sym (as_many c.self.inside.slips)) c.self.invariant c.in_ok-add_block-in-Some.ensures.added

pub returns-in_ok-add_block-in-Some-clause-added : goal.returns-in_ok-add_block-in-Some-clause-added
returns-in_ok-add_block-in-Some-clause-added c =
    let there = c.in-Some.ensures.there in
    let taken : take c.len-count.result (drop c.args.from c.args.other.now) ≡ c.in-Some.block.now =
    ap (λ n. take n (drop c.args.from c.args.other.now)) c.len-count.ensures
    ∙ ap (λ l. take (length c.in-Some.block.now) (drop c.args.from l)) (sym c.other.view_is)
    ∙ block_taken c.other.inside.slips there.0 there.1 c.args.from c.in-Some.block.now c.other.invariant there.2 c.in-Some.ensures.some in
    more_events c.self.inside.slips c.add_block.new.self c.len-place.result c.in_ok-try_clone-in-Some.field-0 c.in_ok-add_block-in-Some.ensures.added
    ∙ ap (λ l. l ++ c.in_ok-try_clone-in-Some.field-0) c.self.view_is ∙ ap (λ l. c.args.self.now ++ l) (c.in_ok-try_clone-in-Some.ensures ∙ sym taken)
