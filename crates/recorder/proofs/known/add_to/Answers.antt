use Rattle.std.proofs.Common.{◌<◌, ◌≤◌, length, refl, arith}
use Rattle.recorder.proofs.Prefixes.{added_at, same_at, none_goes_on}
use Rattle.recorder.proofs.known.add_to.Goals as goal

pub returns-in-Some-clause-added : goal.returns-in-Some-clause-added
returns-in-Some-clause-added c =
    let less : c.args.place < length c.args.known.now.items = grind (arith, c.in-Some.ensures) in
    added_at c.append.result c.args.known.now.items _ c.args.place c.len.result c.in-Some.journal.now c.append.new.self c.args.events.now refl less
    c.in-Some.ensures.item.1 c.len.ensures c.append.ensures.all

pub returns-in-Some-clause-unchanged : goal.returns-in-Some-clause-unchanged
returns-in-Some-clause-unchanged c =
    same_at c.append.result c.args.known.now.items _ c.args.place c.in-Some.journal.now c.append.new.self refl c.in-Some.ensures.item.1 c.append.ensures.unchanged

pub returns-in-None-clause-added : goal.returns-in-None-clause-added
returns-in-None-clause-added c =
    let past : length c.args.known.now.items ≤ c.args.place = grind (arith, c.in-None.ensures) in
    none_goes_on c.args.known.now.items _ c.args.place c.args.events.now refl past
