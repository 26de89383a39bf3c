use Rattle.std.proofs.Common.{◌≡◌, length, ap, ◌∙◌, rules}
use Rattle.world_stations.specs.World.{frames_in}
use Rattle.world_progress.specs.Rounds.{Cursors, moved_to, sent_in}
use Rattle.world.specs.World.{WorldView, stations_of}
use Rattle.fedrun_replay.specs.Play.{playing_of}
use Rattle.fedrun_replay.proofs.player.Player.skip.Goals as goal

pub returns-clause-cursors : goal.returns-clause-cursors
returns-clause-cursors c =
    let v = c.args.self.now in
    let dir = c.args.dir in
    let world : c.self.inside.world ≡ v.world = search rules in
    let cursors : c.self.inside.cursors ≡ v.cursors = search rules in
    let sent : c.sent-count.result ≡ sent_in (playing_of v) dir =
    c.sent-count.ensures ∙ ap (λ (w : WorldView). length (frames_in (stations_of w) dir)) world in
    c.go_to.ensures ∙ ap (λ (before : Cursors). moved_to before dir c.sent-count.result) cursors ∙ ap (moved_to v.cursors dir) sent
