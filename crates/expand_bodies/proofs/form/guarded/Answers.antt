use Rattle.std.proofs.Common.{◌≡◌, get_or, codes, arith}
use Rattle.expand_bodies.proofs.Fronts.{assigned_is, scheduled_is, guarded_is}
use Rattle.expand_bodies.proofs.form.guarded.Goals as goal

pub returns-in-Some : goal.returns-in-Some
returns-in-Some c =
    let colon : get_or c.split_at.result.1.now 0 0 ≡ 58 = omega arith in
    guarded_is c.args.text.now c.split_at.result.0.now c.split_at.result.1.now c.before_colon_len.result c.assignment.result c.before_colon_len.ensures.value c.split_at.ensures.front c.split_at.ensures.back (omega arith) colon
    (assigned_is _ _ _ _ c.in-Some.ensures c.assignment.ensures)

pub returns-in-Some-Schedule : goal.returns-in-Some-Schedule
returns-in-Some-Schedule c =
    let colon : get_or c.split_at.result.1.now 0 0 ≡ 58 = omega arith in
    let word : c.next_word.result.0.now ≡ codes "schedule" = rw c.in-Some-Schedule.field-0-is at c.in-Some-Schedule.ensures in
    guarded_is c.args.text.now c.split_at.result.0.now c.split_at.result.1.now c.before_colon_len.result c.schedule.result c.before_colon_len.ensures.value c.split_at.ensures.front c.split_at.ensures.back (omega arith) colon
    (scheduled_is _ c.next_word.result.0.now _ _ word c.next_word.ensures.parts c.schedule.ensures)
