use Rattle.std.proofs.Common.{◌≡◌, ◌-◌, ◌∙◌, ◌++◌, ap, length, take, arith}
use Rattle.node_journal.specs.Slips.{slips_from}
use Rattle.desk.specs.Replies.{none}
use Rattle.desk.proofs.Batches.{kept_slips}
use Rattle.desk.proofs.shared.enter_batch.Goals as goal

pub returns-in_default-clause-replies : goal.returns-in_default-clause-replies
returns-in_default-clause-replies g c = none

pub overflow_sub-len : goal.overflow_sub-len
overflow_sub-len g c =
    let made = c.handle_batch-made.result in
    let left : length c.events.result.now - made ≡ length c.args.batch.now - made = ap (λ l. length l - made) c.events.ensures in
    let kept = kept_slips c.args.slips.now c.add_batch.new.self c.len.result c.args.batch.now made (length c.events.result.now - made) c.in-Ok.ensures.added c.handle_batch-made.ensures.few left in
    omega (arith, kept.0, c.len-2.ensures)

pub returns-clause-slips : goal.returns-clause-slips
returns-clause-slips g c =
    let made = c.handle_batch-made.result in
    let less = length c.events.result.now - made in
    let left : less ≡ length c.args.batch.now - made = ap (λ l. length l - made) c.events.ensures in
    let kept = kept_slips c.args.slips.now c.add_batch.new.self c.len.result c.args.batch.now made less c.in-Ok.ensures.added c.handle_batch-made.ensures.few left in
    let first = c.len.ensures ∙ ap (λ l. length l) c.journal.ensures.events in
    c.truncate.ensures ∙ ap (λ n. take (n - less) c.add_batch.new.self) c.len-2.ensures ∙ kept.1
    ∙ ap (λ n. c.args.slips.now ++ slips_from n (take made c.args.batch.now)) first
