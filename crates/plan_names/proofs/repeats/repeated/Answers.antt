use Rattle.std.proofs.Common.{arith, rules, ◌≡◌, ℕ, ◌<◌, map, get_or, [], below_more}
use Rattle.std.proofs.lemmas.List.{length-map}
use Rattle.plan_names.proofs.Twice.{twice_mapped, apart_before, distinct_from_apart}
use Rattle.plan_names.proofs.repeats.repeated.Goals as goal

pub returns-then-stands_in : goal.returns-then-stands_in
returns-then-stands_in c =
    twice_mapped (λ n. n.now) c.args.names.now c.loop-place.place c.index-names-place.result c.in_ok-clone.field-0
    (omega arith) c.index-names-place.is (search rules) (search rules)

pub loop-place-preserved : goal.loop-place-preserved
loop-place-preserved c = λ j k j_below k_below.
    below_more
    (λ k. (j : ℕ) → j < k → get_or (map (λ n. n.now) c.args.names.now) j [] ≡ get_or (map (λ n. n.now) c.args.names.now) k [] → ⊥)
    c.loop-place.place
    (λ k k_below j j_below. c.loop-place.invariant j k j_below k_below)
    (λ j j_below.
    apart_before (λ n. n.now) c.args.names.now c.loop-place.place c.index-names-place.result []
    (omega arith) c.index-names-place.is (search rules) j j_below)
    k k_below j j_below

pub returns : goal.returns
returns c =
    distinct_from_apart (map (λ n. n.now) c.args.names.now)
    (λ j k j_below k_below. c.loop-place.invariant j k j_below (omega (arith, length-map c.args.names.now (λ n. n.now))))
