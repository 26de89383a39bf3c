use Rattle.std.proofs.Common.{◌<◌, length, arith}
use Rattle.grants.proofs.Changes.{others_stay, alone_changes, none_changes}
use Rattle.grants.proofs.meaning.others_stay.Goals as goal

pub returns-clause-apart : goal.returns-clause-apart
returns-clause-apart c = λ r i j mine are away. others_stay r.wiring r.federate_records i j mine are.wiring away

pub returns-clause-alone : goal.returns-clause-alone
returns-clause-alone c = λ r i j mine are there next completed other.
    let within : i < length r.federate_records = omega (arith, are.count, there) in
    alone_changes r.wiring r.federate_records i j mine are.wiring within next completed other

pub returns-clause-transit : goal.returns-clause-transit
returns-clause-transit c = λ r i j tags are there.
    let within : i < length r.federate_records = omega (arith, are.count, there) in
    none_changes r.wiring r.federate_records i j tags are.wiring within
