use Rattle.std.proofs.Common.{◌≡◌, inr, rules}
use Rattle.files_keeping.proofs.memory_device.append_noted.Goals as goal

pub returns-clause-noted : goal.returns-clause-noted
returns-clause-noted c =
    let same : c.in_ok-to_vec.field-0.items ≡ c.args.appended.now = search rules in
    (c.in_ok-to_vec.field-0, same, c.in_ok-push.ensures.items)

pub returns-in_err-extend_from_slice-clause-perhaps : goal.returns-in_err-extend_from_slice-clause-perhaps
returns-in_err-extend_from_slice-clause-perhaps c =
    let same : c.in_ok-to_vec.field-0.items ≡ c.args.appended.now = search rules in
    inr (c.in_ok-to_vec.field-0, same, c.in_ok-push.ensures.items)

pub returns-clause-perhaps : goal.returns-clause-perhaps
returns-clause-perhaps c =
    let same : c.in_ok-to_vec.field-0.items ≡ c.args.appended.now = search rules in
    inr (c.in_ok-to_vec.field-0, same, c.in_ok-push.ensures.items)
