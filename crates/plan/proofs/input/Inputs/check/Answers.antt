use Rattle.std.proofs.Common.{rules, ◌≡◌, ◌≢◌, List, map, sym, subst}
use Rattle.std.specs.Prelude.{All, AllPairs, Some}
use Rattle.tag.specs.LogicalTime.{IsFinite}
use Rattle.plan.specs.declared.input.Input.{Input}
use Rattle.plan.specs.declared.input.Occurrence.{Occurrence}
use Rattle.plan.specs.External.{AreForDifferentActions}
use Rattle.plan.specs.Occurrences.{occurrence_of}
use Rattle.plan.proofs.Occurrences.{all_known, apart_from_distinct, distinct_from_apart}
use Rattle.plan.proofs.input.Inputs.check.Goals as goal

pub returns-then-not-branch-clause-accepts : goal.returns-then-not-branch-clause-accepts
returns-then-not-branch-clause-accepts c = λ inputs.
    let are_those : map (λ (o : Occurrence). Some o) c.in_ok-occurrences.occurrences.items ≡ map (occurrence_of c.args.plan.now.federates) c.args.inputs.items
    = rw c.federates.ensures at (rw c.as_slice.ensures.value at c.in_ok-occurrences.ensures.ok) in
    let distinct : AllPairs (λ a b. a ≢ b) c.as_slice-2.result.now
    = subst (λ (os : List Occurrence). AllPairs (λ a b. a ≢ b) os) (sym c.as_slice-2.ensures.value)
    (distinct_from_apart c.args.plan.now.federates c.args.inputs.items c.in_ok-occurrences.occurrences.items are_those inputs.apart) in
    let yes = c.in_ok-are_distinct.ensures.distinct.1 distinct in
    cc (yes, c.if-not-branch.true)

pub returns-then-not-branch-clause-repeated : goal.returns-then-not-branch-clause-repeated
returns-then-not-branch-clause-repeated c = λ _.
    let are_those : map (λ (o : Occurrence). Some o) c.in_ok-occurrences.occurrences.items ≡ map (occurrence_of c.args.plan.now.federates) c.args.inputs.items
    = rw c.federates.ensures at (rw c.as_slice.ensures.value at c.in_ok-occurrences.ensures.ok) in
    let repeated : ¬ (AllPairs AreForDifferentActions c.args.inputs.items)
    = λ apart.
    let distinct : AllPairs (λ a b. a ≢ b) c.as_slice-2.result.now
    = subst (λ (os : List Occurrence). AllPairs (λ a b. a ≢ b) os) (sym c.as_slice-2.ensures.value)
    (distinct_from_apart c.args.plan.now.federates c.args.inputs.items c.in_ok-occurrences.occurrences.items are_those apart) in
    let yes = c.in_ok-are_distinct.ensures.distinct.1 distinct in
    cc (yes, c.if-not-branch.true) in
    (all_known c.args.plan.now.federates c.args.inputs.items c.in_ok-occurrences.occurrences.items are_those, repeated)

pub returns-then-len-gt-MOST_INPUTS-clause-over : goal.returns-then-len-gt-MOST_INPUTS-clause-over
returns-then-len-gt-MOST_INPUTS-clause-over c = λ _.
    let are_those : map (λ (o : Occurrence). Some o) c.in_ok-occurrences.occurrences.items ≡ map (occurrence_of c.args.plan.now.federates) c.args.inputs.items
    = rw c.federates.ensures at (rw c.as_slice.ensures.value at c.in_ok-occurrences.ensures.ok) in
    let distinct = subst (λ (os : List Occurrence). AllPairs (λ a b. a ≢ b) os) c.as_slice-2.ensures.value
    (c.in_ok-are_distinct.ensures.distinct.0 c.if-not-branch.false) in (
      all_known c.args.plan.now.federates c.args.inputs.items c.in_ok-occurrences.occurrences.items are_those,
      apart_from_distinct c.args.plan.now.federates c.args.inputs.items c.in_ok-occurrences.occurrences.items are_those distinct,
      search rules,
    )

pub returns-clause-known : goal.returns-clause-known
returns-clause-known c =
    let are_those : map (λ (o : Occurrence). Some o) c.in_ok-occurrences.occurrences.items ≡ map (occurrence_of c.args.plan.now.federates) c.args.inputs.items
    = rw c.federates.ensures at (rw c.as_slice.ensures.value at c.in_ok-occurrences.ensures.ok) in
    let distinct = subst (λ (os : List Occurrence). AllPairs (λ a b. a ≢ b) os) c.as_slice-2.ensures.value
    (c.in_ok-are_distinct.ensures.distinct.0 c.if-not-branch.false) in
    record {
      known = all_known c.args.plan.now.federates c.args.inputs.items c.in_ok-occurrences.occurrences.items are_those;
      apart = apart_from_distinct c.args.plan.now.federates c.args.inputs.items c.in_ok-occurrences.occurrences.items are_those distinct;
      few = search rules;
      finite = subst (λ (xs : List Input). All (λ i. IsFinite i.tag) xs) c.as_slice-3.ensures.value c.know_tags.ensures;
    }
