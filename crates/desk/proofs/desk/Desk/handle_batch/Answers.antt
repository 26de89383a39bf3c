use Rattle.std.proofs.Common.{◌≡◌, ◌≤◌, ◌-◌, ◌∙◌, ◌++◌, ap, length, take, arith}
use Rattle.node.specs.Step.{initial_of}
use Rattle.desk.specs.Replay.{after_all}
use Rattle.desk.specs.Replies.{none}
use Rattle.desk.proofs.Batches.{initial_after, kept_some, replays_all}
use Rattle.desk.proofs.desk.Desk.handle_batch.Given as given
use Rattle.desk.proofs.desk.Desk.handle_batch.Goals as goal

pub returns-in_default-clause-replies : goal.returns-in_default-clause-replies
returns-in_default-clause-replies g c = none

-- the journal with the events whose steps were made
journal_with : (g : given.Over) (c : goal.After-truncate g) → c.truncate.new.self ≡ c.self.inside.journal ++ take c.step_all-made.result c.args.batch.now
journal_with g c =
    let made = c.step_all-made.result in
    let events = c.events-2.result.now in
    let few : made ≤ length c.args.batch.now = omega (arith, c.step_all-made.ensures.few, ap length c.events.ensures) in
    let left : length events - made ≡ length c.args.batch.now - made = ap (λ l. length l - made) c.events-2.ensures in
    let kept = kept_some c.self.inside.journal c.args.batch.now c.push_batch.new.self made (length events - made) c.in-Ok.ensures.pushed few left in
    c.truncate.ensures ∙ ap (λ n. take (n - (length events - made)) c.push_batch.new.self) c.len.ensures ∙ kept.1

pub invariant_of-self-2 : goal.invariant_of-self-2
invariant_of-self-2 g c =
    let made = c.step_all-made.ensures.station ∙ ap (λ l. after_all g.N.Node.core g.N.Node.HUB c.self.inside.station (take c.step_all-made.result l)) c.events.ensures in
    replays_all g.N.Node.core g.N.Node.HUB c.initial_stations_stay.ensures c.self.inside.station c.step_all-made.new.station c.self.inside.journal c.truncate.new.self
    (take c.step_all-made.result c.args.batch.now) c.self.invariant made (journal_with g c)

pub returns-clause-journal : goal.returns-clause-journal
returns-clause-journal g c = journal_with g c ∙ ap (λ d. d.journal ++ take c.step_all-made.result c.args.batch.now) c.self.view_is

pub returns-clause-initial : goal.returns-clause-initial
returns-clause-initial g c =
    initial_after g.N.Node.core g.N.Node.HUB c.initial_stations_stay.ensures c.self.inside.station c.step_all-made.new.station (take c.step_all-made.result c.events.result.now) c.step_all-made.ensures.station
    ∙ ap (λ d. initial_of g.N.Node.core d.station) c.self.view_is
