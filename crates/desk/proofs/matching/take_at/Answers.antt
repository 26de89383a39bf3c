use Rattle.std.proofs.Common.{◌≡◌, ◌∙◌, ap, ◌++◌, ◌∷◌, [], slice_get, Some, arith}
use Rattle.std.proofs.lemmas.Option.{slice_get-get_or, slice_get_within}
use Rattle.desk.proofs.Backwards.{step_back}
use Rattle.desk.proofs.matching.take_at.Goals as goal

pub returns-then-position-shares-clause-taken : goal.returns-then-position-shares-clause-taken
returns-then-position-shares-clause-taken c =
    λ taken journal is.
    let found : slice_get c.args.shares.now c.args.position ≡ Some (c.take_last.new.share ++ c.args.slip.now ∷ []) =
    slice_get-get_or c.args.shares.now c.args.position c.index-shares-position.result (omega arith) ∙ ap Some (c.take_last.ensures.taken taken) in
    step_back journal c.args.slip.now c.args.shares.now c.args.position c.take_last.new.share found is

pub returns-then-position-shares-clause-not_last : goal.returns-then-position-shares-clause-not_last
returns-then-position-shares-clause-not_last c =
    λ not_last front is.
    let found = slice_get-get_or c.args.shares.now c.args.position c.index-shares-position.result (omega arith) in
    c.take_last.ensures.not_last not_last front (grind (arith, found, is))

pub returns-else-position-shares-clause-not_last : goal.returns-else-position-shares-clause-not_last
returns-else-position-shares-clause-not_last c =
    λ _ front is.
    let within = slice_get_within c.args.shares.now c.args.position (front ++ c.args.slip.now ∷ []) is in
    omega arith
