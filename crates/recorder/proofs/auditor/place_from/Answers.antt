use Rattle.std.proofs.Common.{◌≡◌, ◌≢◌, arith, ⊎_elim}
use Rattle.std.proofs.lemmas.Bool.{cases_eq}
use Rattle.world_stations.specs.World.{frames_in}
use Rattle.world.specs.World.{stations_of}
use Rattle.recorder.proofs.Placing.{within_frames}
use Rattle.recorder.proofs.auditor.place_from.Goals as goal
use Rattle.recorder.proofs.auditor.place_from.Goals.{else-from-last-via-then-from-last+else-is_at}
use Rattle.recorder.proofs.auditor.place_from.Goals.{else-from-last-via-else-from-last}

pub returns-else-from-last-clause-none : goal.returns-else-from-last-clause-none
returns-else-from-last-clause-none c = λ none k from there.
    let within = within_frames (frames_in (stations_of c.args.world.now) c.args.dir) k c.args.frame.now there in
    let last = c.sent-last.ensures in
    ⊎_elim
    (λ (eq : k ≡ c.sent-last.result).
    elim c.else-from-last.branch [
      | else-from-last-via-then-from-last+else-is_at w ↦
          let yes = w.is_at.ensures.1 (rw (← eq) there) in
          let no = w.if-is_at.false in
          cc
      | else-from-last-via-else-from-last w ↦
          let no = w.if-from-last.false in
          omega arith
    ])
    (λ (ne : k ≢ c.sent-last.result). c.in_default.ensures.none none k from (omega arith) there)
    (cases_eq k c.sent-last.result)
