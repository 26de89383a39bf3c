use Rattle.std.proofs.Common.{arith, rules, ◌<◌, ap, length, ◌∙◌, get_or}
use Rattle.plan_paths.specs.Sources.{EndsTwice}
use Rattle.plan.proofs.Joined.{length-connections_of, two_sources}
use Rattle.plan.proofs.sources.refuse_two_sources.Goals as goal

pub offset_bounds-declared-place : goal.offset_bounds-declared-place
offset_bounds-declared-place c =
    let twice : EndsTwice c.args.connections.now c.in-Some.place = c.in-Some.ensures in
    let below : c.in-Some.place < length c.args.connections.now = twice.there in
    let few : c.in-Some.place < 1024 = omega (arith, length-connections_of c.args.draft.now c.requires.there, ap length c.requires.value) in
    search rules

pub bounds-declared-place : goal.bounds-declared-place
bounds-declared-place c =
    let twice : EndsTwice c.args.connections.now c.in-Some.place = c.in-Some.ensures in
    let below : c.in-Some.place < length c.args.connections.now = twice.there in
    omega (arith, length-connections_of c.args.draft.now c.requires.there, ap length c.requires.value, ap length c.as_slice-declared.ensures)

pub returns-in_ok-clone-in-Some-clause-fault : goal.returns-in_ok-clone-in-Some-clause-fault
returns-in_ok-clone-in-Some-clause-fault c =
    two_sources c.args.draft.now c.args.connections.now c.in-Some.place c.index-declared-place.result c.in_ok-clone-in-Some.field-0
    c.requires.value c.requires.there c.in-Some.ensures
    (c.index-declared-place.is ∙ ap (λ xs. get_or xs c.in-Some.place c.index-declared-place.result) c.as_slice-declared.ensures)
    (search rules)
