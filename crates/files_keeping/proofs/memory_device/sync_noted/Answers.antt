use Rattle.std.proofs.Common.{◌≡◌, rules}
use Rattle.files_keeping.proofs.memory_device.sync_noted.Goals as goal

pub returns-clause-noted : goal.returns-clause-noted
returns-clause-noted c =
    let same : c.in_ok-noted.noted.items ≡ c.args.bytes.now = search rules in
    (c.in_ok-noted.noted, same, c.in_ok-push.ensures.items)
