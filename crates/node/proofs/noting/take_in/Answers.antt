use Rattle.std.proofs.Common.{sym, ◌∙◌}
use Rattle.node.proofs.Notes.{seen, closed_shown, open_shown, same_end}
use Rattle.node.proofs.noting.take_in.Goals as goal

pub returns-then-is_closed-clause-changes : goal.returns-then-is_closed-clause-changes
returns-then-is_closed-clause-changes c e found =
    let image = seen c.args.outbox.now.mail c.receive.new.self.mail c.args.peer c.args.frame.now e c.at-end.result.now.image found c.receive.ensures c.at-end.ensures in
    closed_shown e c.at-end.result.now.image c.args.frame.now c.is_closed.result (c.requires.ok e found) image c.is_closed.ensures c.if-is_closed.true

pub returns-else-is_closed-clause-changes : goal.returns-else-is_closed-clause-changes
returns-else-is_closed-clause-changes c e found =
    let image = seen c.args.outbox.now.mail c.receive.new.self.mail c.args.peer c.args.frame.now e c.at-end.result.now.image found c.receive.ensures c.at-end.ensures in
    open_shown e c.at.result.now.image c.at-end.result.now.image c.args.frame.now c.unacked.result c.unacked-before.result (c.requires.ok e found) image
    (same_end c.args.outbox.now.mail c.args.peer c.at.result.now.image e c.at.ensures found) (sym c.is_closed.ensures ∙ c.if-is_closed.false)
    c.unacked.ensures c.unacked-before.ensures
