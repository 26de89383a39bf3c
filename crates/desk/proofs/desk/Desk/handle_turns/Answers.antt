use Rattle.std.proofs.Common.{◌≡◌, ◌-◌, ◌∙◌, ◌++◌, ap, refl, take, arith}
use Rattle.node.specs.Step.{initial_of}
use Rattle.node_journal.specs.Turns.{turn_events}
use Rattle.desk.specs.Replies.{none}
use Rattle.desk.proofs.Batches.{initial_after, kept_turns, replays_all}
use Rattle.desk.proofs.desk.Desk.handle_turns.Given as given
use Rattle.desk.proofs.desk.Desk.handle_turns.Goals as goal

pub returns-in_default-clause-replies : goal.returns-in_default-clause-replies
returns-in_default-clause-replies g c = rw c.none.ensures none

-- the journal with the events whose steps were made
journal_with : (g : given.Over) (c : goal.After-truncate g) → c.truncate.new.self ≡ c.self.inside.journal ++ turn_events c.step_turns-made.result.events
journal_with g c =
    let made = c.step_turns-made.result.events in
    let left = c.args.events - made in
    let kept = kept_turns c.self.inside.journal c.push_turns.new.self c.args.events made left c.in-Ok.ensures.pushed c.step_turns-made.ensures.few refl in
    c.truncate.ensures ∙ ap (λ n. take (n - left) c.push_turns.new.self) c.len.ensures ∙ kept.1

pub overflow_sub-len : goal.overflow_sub-len
overflow_sub-len g c =
    let made = c.step_turns-made.result.events in
    let kept = kept_turns c.self.inside.journal c.push_turns.new.self c.args.events made (c.args.events - made) c.in-Ok.ensures.pushed c.step_turns-made.ensures.few refl in
    omega (arith, kept.0, c.len.ensures)

pub invariant_of-self-2 : goal.invariant_of-self-2
invariant_of-self-2 g c =
    replays_all g.N.Node.core g.N.Node.HUB c.initial_stations_stay.ensures c.self.inside.station c.step_turns-made.new.station c.self.inside.journal c.truncate.new.self
    (turn_events c.step_turns-made.result.events) c.self.invariant c.step_turns-made.ensures.station (journal_with g c)

pub returns-clause-journal : goal.returns-clause-journal
returns-clause-journal g c = journal_with g c ∙ ap (λ d. d.journal ++ turn_events c.step_turns-made.result.events) c.self.view_is

pub returns-clause-initial : goal.returns-clause-initial
returns-clause-initial g c =
    initial_after g.N.Node.core g.N.Node.HUB c.initial_stations_stay.ensures c.self.inside.station c.step_turns-made.new.station
    (turn_events c.step_turns-made.result.events) c.step_turns-made.ensures.station
    ∙ ap (λ d. initial_of g.N.Node.core d.station) c.self.view_is
