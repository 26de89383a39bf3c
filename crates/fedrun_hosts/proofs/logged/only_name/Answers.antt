use Rattle.std.proofs.Common.{◌≡◌, ◌⊎◌, ℕ, List, rules, subst}
use Rattle.fedrun_hosts.specs.EndedLogs.{IsSpare}
use Rattle.fedrun_hosts.proofs.logged.only_name.Goals as goal

pub returns-in-Some-clause-ended : goal.returns-in-Some-clause-ended
returns-in-Some-clause-ended g c =
    let bytes = c.in-Some.field-0.bytes.items in
    let same : c.as_slice.result.now ≡ bytes = search rules in
    let spare = subst (λ (b : List ℕ). IsSpare c.args.beside.now b ⊎ (g.D.Disk.contents c.remove_spare.new.disk ≡ g.D.Disk.contents c.args.disk.now)) same c.remove_spare.ensures.spare in
    (bytes, c.in-Some.ensures.held, c.in-Some.ensures.ended, spare)
