use Rattle.std.proofs.Common.{◌-◌, ◌∙◌, ◌++◌, ap, refl, length, take, arith}
use Rattle.node_journal.specs.Slips.{slips_from}
use Rattle.node_journal.specs.Turns.{turn_events}
use Rattle.desk.specs.Replies.{none}
use Rattle.desk.proofs.Batches.{kept_turn_slips}
use Rattle.desk.proofs.shared.enter_turns.Goals as goal

pub returns-in_default-clause-replies : goal.returns-in_default-clause-replies
returns-in_default-clause-replies g c = rw c.none.ensures none

pub overflow_sub-len : goal.overflow_sub-len
overflow_sub-len g c =
    let made = c.handle_turns-made.result.events in
    let kept = kept_turn_slips c.args.slips.now c.add_turns.new.self c.len.result c.args.events made (c.args.events - made) c.in-Ok.ensures.added c.handle_turns-made.ensures.few refl in
    omega (arith, kept.0, c.len-2.ensures)

pub returns-clause-slips : goal.returns-clause-slips
returns-clause-slips g c =
    let made = c.handle_turns-made.result.events in
    let left = c.args.events - made in
    let kept = kept_turn_slips c.args.slips.now c.add_turns.new.self c.len.result c.args.events made left c.in-Ok.ensures.added c.handle_turns-made.ensures.few refl in
    let first = c.len.ensures ∙ ap (λ l. length l) c.journal.ensures.events in
    c.truncate.ensures ∙ ap (λ n. take (n - left) c.add_turns.new.self) c.len-2.ensures ∙ kept.1
    ∙ ap (λ n. c.args.slips.now ++ slips_from n (turn_events made)) first
