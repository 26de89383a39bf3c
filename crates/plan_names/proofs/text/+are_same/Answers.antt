use Rattle.std.proofs.Common.{◌≡◌, arith}
use Rattle.plan_names.proofs.First.{uncons}
use Rattle.plan_names.proofs.text.+are_same.Goals as goal

pub returns-then-is_same : goal.returns-then-is_same
returns-then-is_same t c =
    let p = uncons c.args.names.now c.first-item.result (omega arith) c.first-item.is in
    let q = uncons c.args.others.now c.other-item.result (omega arith) c.other-item.is in
    let same : c.first-item.result ≡ c.other-item.result = c.is_same.ensures.0 c.if-is_same.true in
    (λ h. let rest = c.are_same.ensures.0 h in cc, λ e. c.are_same.ensures.1 (cc))
