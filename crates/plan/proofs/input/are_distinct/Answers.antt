use Rattle.std.proofs.Common.{rules, ◌≡◌, List, subst}
use Rattle.std.specs.HashSet as bag
use Rattle.std.proofs.lemmas.Map.Made.{hash_set_len-Decides}
use Rattle.plan.specs.declared.input.Occurrence.{Occurrence}
use Rattle.plan.proofs.Occurrences.{is_one, is_one-Decides, is_one-equivalence}
use Rattle.plan.proofs.input.are_distinct.Goals as goal

pub returns-clause-distinct : goal.returns-clause-distinct
returns-clause-distinct c =
    let run = c.in_ok-distinct.ensures.runs tt in
    let items : run.0.items ≡ c.args.occurrences.now = search rules in
    let made = subst (λ (xs : List Occurrence). bag.IsFromIterResult is_one xs c.in_ok-distinct.distinct) items run.3.1 in
    rw c.len.ensures.len (hash_set_len-Decides is_one-Decides is_one-equivalence c.args.occurrences.now c.in_ok-distinct.distinct made)
