use Rattle.std.proofs.Common.{◌≡◌, ◌<◌, ◌∙◌, ap, arith}
use Rattle.grants.specs.Records.{Records, is_eligible_by}
use Rattle.grants.proofs.Tables.{eligible_by_flag}
use Rattle.grants.proofs.table.Table.eligible.Goals as goal

pub returns-clause-paths : goal.returns-clause-paths
returns-clause-paths c =
    let t = c.self.inside in
    let there : c.args.federate < t.wiring.federates = let e = ap (λ (r : Records). r.wiring.federates) c.self.view_is in omega (arith, e, c.requires) in
    let flag : c.is_eligible.result ≡ is_eligible_by t.wiring t.federate_records.items c.args.federate = c.is_eligible.ensures ∙ c.self.invariant.each c.args.federate there in
    eligible_by_flag t.wiring t.federate_records.items t.affected.looks c.args.federate c.is_eligible.result c.args.self.now c.self.view_is c.invariant.ensures flag
