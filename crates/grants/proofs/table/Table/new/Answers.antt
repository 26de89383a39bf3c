use Rattle.std.proofs.Common.{◌∙◌, ap, sym, false, replicate}
use Rattle.protocol.specs.FederateRecord.{initial_federate_record}
use Rattle.protocol.specs.FederateRecords.{federate_records_listed}
use Rattle.grants.specs.Wiring.{Wiring}
use Rattle.grants.specs.Invariant.{Looked}
use Rattle.grants.proofs.Tables.{kept_at_first}
use Rattle.grants.proofs.table.Table.new.Goals as goal

pub invariant_of-result : goal.invariant_of-result
invariant_of-result c =
    let count = ap (λ (w : Wiring). w.federates) (sym c.in_ok-wiring.ensures) in
    kept_at_first c.in_ok-wiring.wiring c.in_ok-federate_records.federate_records.items c.in_ok-affected.affected.eligible
    (c.in_ok-federate_records.ensures ∙ ap (λ n. federate_records_listed n (λ j. initial_federate_record)) (c.federate_count.ensures ∙ count))
    (ap (λ (l : Looked). l.eligible) c.in_ok-affected.ensures ∙ ap (λ n. replicate n false) (c.federate_count-2.ensures ∙ count))
