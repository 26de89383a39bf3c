use Rattle.std.proofs.Common.{Ok, sym, subst}
use Rattle.files_script.specs.declared.command.Command.{Command}
use Rattle.fedrun_replay.specs.Play.{count_in, tasks_of, HasDone}
use Rattle.fedrun_replay.proofs.Doing.{skipped}
use Rattle.fedrun_replay.proofs.player.Player.obey.Goals as goal

pub returns-in-Make : goal.returns-in-Make
returns-in-Make g c =
    let v = c.args.self.now in
    let before = g.W.Write.contents c.args.out.now in
    let after = g.W.Write.contents c.make.new.out in
    subst (λ (command : Command). HasDone c.make.result c.args.line.number (tasks_of (count_in v) command) v c.make.new.self before after) (sym c.in-Make.is)
    c.make.ensures

pub returns-in-Skip : goal.returns-in-Skip
returns-in-Skip g c =
    let v = c.args.self.now in
    let bytes = g.W.Write.contents c.args.out.now in
    subst (λ (command : Command). HasDone {T = Unit {0}} (Ok tt) c.args.line.number (tasks_of (count_in v) command) v c.skip.new.self bytes bytes) (sym c.in-Skip.is)
    (skipped c.args.line.number c.in-Skip.dir v c.skip.new.self bytes c.skip.ensures.world c.skip.ensures.cursors)

pub returns-in-Round : goal.returns-in-Round
returns-in-Round g c =
    let v = c.args.self.now in
    let before = g.W.Write.contents c.args.out.now in
    let after = g.W.Write.contents c.round.new.out in
    subst (λ (command : Command). HasDone c.round.result c.args.line.number (tasks_of (count_in v) command) v c.round.new.self before after) (sym c.in-Round.is)
    c.round.ensures
