use Rattle.std.proofs.Common.{◌≡◌, ◌≢◌, arith, ⊎_elim}
use Rattle.std.proofs.lemmas.Bool.{cases_eq}
use Rattle.world_stations.specs.World.{frames_in}
use Rattle.world.specs.World.{stations_of}
use Rattle.recorder.proofs.Placing.{within_frames}
use Rattle.recorder.proofs.auditor.place_anywhere.Goals as goal

pub returns-else-is_at-clause-none : goal.returns-else-is_at-clause-none
returns-else-is_at-clause-none c = λ none k there.
    let within = within_frames (frames_in (stations_of c.args.world.now) c.args.dir) k c.args.frame.now there in
    let last = c.sent-last.ensures in
    ⊎_elim
    (λ (eq : k ≡ c.sent-last.result).
    let yes = c.is_at.ensures.1 (rw (← eq) there) in
    let no = c.if-is_at.false in
    cc)
    (λ (ne : k ≢ c.sent-last.result). c.place_among.ensures.none none k within.0 (omega arith) there)
    (cases_eq k c.sent-last.result)
