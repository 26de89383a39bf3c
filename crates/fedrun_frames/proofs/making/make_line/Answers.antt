use Rattle.std.proofs.Common.{◌≡◌, ◌∙◌, ◌++◌, length, drop, ap}
use Rattle.world.specs.World.{WorldView}
use Rattle.fedrun_replay.specs.Play.{count_in, tasks_of, made_for}
use Rattle.fedrun_frames.proofs.Listing.{lists_tasks}
use Rattle.fedrun_frames.proofs.making.make_line.Goals as goal

pub returns-in-Ok : goal.returns-in-Ok
returns-in-Ok c =
    let v = c.args.player.now in
    let later = c.obey.new.self in
    let line = c.args.line.number in
    let made = c.args.made.now.items in
    let old : c.len-before.result ≡ length v.world.steps = c.len-before.ensures ∙ ap length c.steps.ensures ∙ ap (λ (w : WorldView). length w.steps) c.world.ensures in
    lists_tasks line (tasks_of (count_in v) c.args.line.command) v later _ _ made c.list.new.made.items c.in_ok-obey.ensures
    (c.in-Ok.ensures ∙ ap (λ n. made ++ made_for line (drop n c.world-2.result.now.steps)) old
    ∙ ap (λ (w : WorldView). made ++ made_for line (drop (length v.world.steps) w.steps)) c.world-2.ensures)
