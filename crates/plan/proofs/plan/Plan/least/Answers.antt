use Rattle.plan.proofs.LeastLaws.{entry_is, entry_least, entry_few}
use Rattle.plan.proofs.plan.Plan.least.Goals as goal

pub returns-clause-value : goal.returns-clause-value
returns-clause-value c =
    entry_is c.args.self.now c.self.inside.draft c.self.inside.delays c.args.from c.args.to c.delay.result c.self.view_is c.self.invariant.delays
    c.requires.from c.requires.to c.delay.ensures

pub returns-clause-least : goal.returns-clause-least
returns-clause-least c =
    entry_least c.args.self.now c.self.inside.draft c.args.from c.args.to c.delay.result c.self.view_is c.self.invariant.legal
    (entry_is c.args.self.now c.self.inside.draft c.self.inside.delays c.args.from c.args.to c.delay.result c.self.view_is c.self.invariant.delays
    c.requires.from c.requires.to c.delay.ensures)

pub returns-clause-few : goal.returns-clause-few
returns-clause-few c =
    entry_few c.args.self.now c.self.inside.draft c.args.from c.args.to c.delay.result c.self.view_is c.self.invariant.legal
    (entry_is c.args.self.now c.self.inside.draft c.self.inside.delays c.args.from c.args.to c.delay.result c.self.view_is c.self.invariant.delays
    c.requires.from c.requires.to c.delay.ensures)
