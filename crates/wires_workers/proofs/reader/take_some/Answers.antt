use Rattle.std.proofs.Common.{subst, refl, ◌++◌}
use Rattle.wires_workers.specs.HandedIn.{AreHandedIn, events_of_turns}
use Rattle.wires_workers.proofs.reader.take_some.Goals as goal

-- the peer speaks of another history
pub returns-then-received-clause-events : goal.returns-then-received-clause-events
returns-then-received-clause-events g c =
    let events = c.collect-step.new.events.items in
    let turns = c.take_in-behind.result.turns in
    let handed_in = subst (λ list. AreHandedIn c.args.share.now (list ++ events_of_turns turns) c.take_in-behind.new.share) c.deref.ensures.value c.take_in-behind.ensures.handed_in in
    (events, c.collect-step.ensures.0, turns, c.collect-step.ensures.1, handed_in, c.take_in-behind.ensures.no_runner, λ other. absurd (other refl))

pub returns-else-received-clause-events : goal.returns-else-received-clause-events
returns-else-received-clause-events g c =
    let events = c.collect-step.new.events.items in
    let turns = c.take_in-behind.result.turns in
    let handed_in = subst (λ list. AreHandedIn c.args.share.now (list ++ events_of_turns turns) c.take_in-behind.new.share) c.deref.ensures.value c.take_in-behind.ensures.handed_in in
    (events, c.collect-step.ensures.0, turns, c.collect-step.ensures.1, handed_in, c.take_in-behind.ensures.no_runner, c.collect-step.ensures.2)
