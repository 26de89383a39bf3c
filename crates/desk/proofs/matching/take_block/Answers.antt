use Rattle.std.proofs.Common.{◌≡◌, ◌≤◌, ◌↔◌, refl, sym, subst, length, take, arith}
use Rattle.std.proofs.lemmas.List.{length-take-le}
use Rattle.desk.specs.Shares.{Agree}
use Rattle.desk.proofs.matching.take_block.Goals as goal

pub returns-clause-less : goal.returns-clause-less
returns-clause-less c =
    let some = c.in_ok-block.ensures.some in
    let end = c.in_ok-block.ensures.as_many in
    omega arith

pub returns-clause-taken : goal.returns-clause-taken
returns-clause-taken c =
    let place = c.in_ok-place.place in
    let end = c.in_ok-block.ensures.as_many in
    let within = c.in_ok-block.ensures.within in
    let there : place ≤ length c.args.journal.now = omega arith in
    let long : length (take place c.args.journal.now) ≡ place = length-take-le place c.args.journal.now there in
    subst (λ l. Agree l c.args.shares.now ↔ Agree (take place c.args.journal.now) c.take_block_from.new.shares) (sym c.in_ok-block.ensures.events)
    (c.in_ok-share.ensures.taken refl (take place c.args.journal.now) long)
