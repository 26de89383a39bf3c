use Rattle.std.proofs.Common.{◌≡◌, IfSome, subst, take}
use Rattle.std.proofs.lemmas.List.{take_rest}
use Rattle.wires_workers.specs.HandedIn.{AreHandedIn}
use Rattle.wires_workers.proofs.SeveralEvents.{batch_handed_in, first_and_others}
use Rattle.wires_workers.proofs.session.Session.enter_all.Goals as goal

pub returns-in-Some : goal.returns-in-Some
returns-in-Some g c =
    let old = c.args.share.now in
    let made = c.handle_batch-made.result in
    let middle = c.handle_batch-made.new.share in
    let slips = c.handle_batch-made.ensures.slips in
    let same : c.in-Some.batch.now ≡ c.args.events.now = subst (λ b. IfSome b (λ x. x.now ≡ c.args.events.now)) c.in-Some.is c.requires in
    let first = subst (λ l. AreHandedIn old (take made l) middle) same (batch_handed_in old middle slips.0 (take made c.in-Some.batch.now) slips.1) in
    let others = subst (λ l. AreHandedIn middle l c.enter_each.new.share) (take_rest c.args.events.now made) c.enter_each.ensures in
    first_and_others old middle c.enter_each.new.share c.args.events.now made first others
