use Rattle.std.proofs.Common.{◌≤◌, length, ap, arith}
use Rattle.std.proofs.lemmas.List.{take_rest}
use Rattle.signal.proofs.Parts.{from}
use Rattle.signal.proofs.Firsts.{first_of_batch, first_of_frame}
use Rattle.signal.proofs.body.first_of.Goals as goal

pub returns-then-body-eq-BATCH_KIND-clause-first : goal.returns-then-body-eq-BATCH_KIND-clause-first
returns-then-body-eq-BATCH_KIND-clause-first c =
    let body = c.args.body.now in
    let h = c.in_ok-begun.ensures.spelled in
    let long : 14 ≤ length body = omega (arith, ap length h.is_body) in
    first_of_batch c.args.version body (from 14 body) c.in_ok-begun.begun c.give-frame.new.self c.give-frame.result.0 c.give-frame.result.1 h (take_rest body 14) long c.if-body-eq-BATCH_KIND.true
    c.give-frame.ensures.frame c.give-frame.ensures.signals c.give-frame.ensures.within c.give-frame.ensures.size

pub returns-clause-first : goal.returns-clause-first
returns-clause-first c =
    first_of_frame c.args.version c.version_after.result c.args.body.now c.in_ok-frame.frame c.none.result c.in_ok-frame.ensures.spelled c.none.ensures.count c.none.ensures.size c.version_after.ensures
