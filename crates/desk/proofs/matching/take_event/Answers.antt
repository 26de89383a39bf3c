use Rattle.std.proofs.Common.{◌≡◌, ◌+◌, ◌∷◌, ◌++◌, [], length, take, refl, arith}
use Rattle.std.proofs.lemmas.List.{take_more, length-take-le}
use Rattle.desk.proofs.matching.take_event.Goals as goal

pub returns-in-Some-clause-taken : goal.returns-in-Some-clause-taken
returns-in-Some-clause-taken c = λ _.
    let more : take (c.args.place + 1) c.args.journal.now ≡ take c.args.place c.args.journal.now ++ c.event-event.result ∷ [] =
    grind (arith, take_more c.args.journal.now c.args.place c.event-event.result, c.event-event.ensures, c.requires) in
    let long : length (take c.args.place c.args.journal.now) ≡ c.args.place = length-take-le c.args.place c.args.journal.now (omega (arith, c.requires)) in
    rw more (c.in-Some.ensures.taken refl (take c.args.place c.args.journal.now) long)

pub returns-in-None-clause-none : goal.returns-in-None-clause-none
returns-in-None-clause-none c = λ _.
    let more : take (c.args.place + 1) c.args.journal.now ≡ take c.args.place c.args.journal.now ++ c.event-event.result ∷ [] =
    grind (arith, take_more c.args.journal.now c.args.place c.event-event.result, c.event-event.ensures, c.requires) in
    let long : length (take c.args.place c.args.journal.now) ≡ c.args.place = length-take-le c.args.place c.args.journal.now (omega (arith, c.requires)) in
    rw more (c.take.ensures.none c.in-None.is (take c.args.place c.args.journal.now) long)
