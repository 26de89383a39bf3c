use Rattle.std.proofs.Common.{refl}
use Rattle.wires_hosts.proofs.source.random_bytes.Goals as goal

pub returns-in-Err : goal.returns-in-Err
returns-in-Err g c =
    (c.in-Err.field-0, _, record { shown = _; shows = refl; left = _; met = c.in-Err.ensures; leaves = refl })
