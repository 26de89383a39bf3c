use Rattle.std.proofs.Common.{◌∙◌, sym, ap, ◌<◌, false, length, arith}
use Rattle.std.proofs.lemmas.List.{get_or_read}
use Rattle.grants.specs.Invariant.{Looked}
use Rattle.grants.proofs.Flags.{count_follows, count_unset, count_is_set}
use Rattle.grants.proofs.affected.AffectedFederates.look.Goals as goal

pub count_after-self-inside-requires-clause-room : goal.count_after-self-inside-requires-clause-room
count_after-self-inside-requires-clause-room c not_so =
    let t = c.self.inside in
    let within : c.args.federate < length t.eligible.items = let e = ap (λ (l : Looked). length l.eligible) c.self.view_is in omega (arith, e, c.requires.federate, c.requires.flags) in
    let was = get_or_read t.eligible.items c.args.federate c.index-was.result.now within c.index-was.ensures false in
    let room = count_unset t.eligible.items c.args.federate within (sym was ∙ not_so) in
    omega (arith, room, t.eligible.small, t.eligible.ok.0, t.eligible.ok.1, c.self.invariant)

pub count_after-self-inside-requires-clause-counted : goal.count_after-self-inside-requires-clause-counted
count_after-self-inside-requires-clause-counted c so =
    let t = c.self.inside in
    let within : c.args.federate < length t.eligible.items = let e = ap (λ (l : Looked). length l.eligible) c.self.view_is in omega (arith, e, c.requires.federate, c.requires.flags) in
    let was = get_or_read t.eligible.items c.args.federate c.index-was.result.now within c.index-was.ensures false in
    let counted = count_is_set t.eligible.items c.args.federate (sym was ∙ so) in
    omega (arith, counted, c.self.invariant)

pub invariant_of-self : goal.invariant_of-self
invariant_of-self c =
    let t = c.self.inside in
    let within : c.args.federate < length t.eligible.items = let e = ap (λ (l : Looked). length l.eligible) c.self.view_is in omega (arith, e, c.requires.federate, c.requires.flags) in
    let was = get_or_read t.eligible.items c.args.federate c.index-was.result.now within c.index-was.ensures false in
    count_follows t.eligible.items c.args.federate c.index-was.result.now c.is_eligible-is.result t.eligible_count c.count_after-self-inside.result within was c.self.invariant
    c.count_after-self-inside.ensures
