use Rattle.node.proofs.Calls.{acts_done}
use Rattle.node.proofs.station.Station.announce.Goals as goal

pub returns-clause-ended : goal.returns-clause-ended
returns-clause-ended g c =
    acts_done c.args.self.now c.self.inside.node c.self.inside.outbox.mail c.announce-answer.new.self c.announce-answer.new.outbox.mail c.tell.new.outbox.mail
    c.announce-answer.result c.tell.result g.N.Node.core.announce c.self.view_is c.self.invariant c.tell.ensures.mail c.announce-answer.ensures.call
    c.tell.ensures.done c.tell.ensures.nothing c.tell.ensures.refused c.tell.ensures.no_memory
