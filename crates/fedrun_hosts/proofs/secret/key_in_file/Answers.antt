use Rattle.std.proofs.Common.{◌≡◌, Some, refl, subst}
use Rattle.wires_greeting.specs.Secret.{secret_fault}
use Rattle.fedrun_hosts.specs.Begun.{secret_unfit}
use Rattle.fedrun_hosts.proofs.secret.key_in_file.Goals as goal

pub returns-in-Ok-clause-fault : goal.returns-in-Ok-clause-fault
returns-in-Ok-clause-fault g c =
    let refused = subst (λ bytes. secret_fault bytes ≡ Some c.in-Err.why) c.as_slice.ensures.value c.in-Err.ensures in
    secret_unfit c.in-Ok.secret.items c.in-Ok.ensures.whole c.in-Err.why refused refl
