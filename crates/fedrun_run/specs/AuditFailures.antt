-- What an audit doesn't believe, with the plan's names: its number, and how it is printed.
use Rattle.std.specs.Prelude.{◌≡◌, ◌⊎◌, ℕ, List, ◌++◌, codes}
use Rattle.std.specs.Fmt.{decimal}
use Rattle.plan.specs.declared.draft.Draft.{Draft}
use Rattle.node.specs.declared.node_id.NodeId.{NodeId}
use Rattle.node.specs.declared.node_id.NodeId.TheVariants.{Coordinator, Federate}
use Rattle.files_text.specs.PlanText.{federate_name}
use Rattle.recorder_reports.specs.declared.unproved.Unproved.{Unproved}
use Rattle.recorder_reports.specs.declared.unproved.Unproved.TheVariants as unproved
use Rattle.recorder_reports.specs.Numbers as numbers
use Rattle.fedrun_run.specs.declared.audit_failure.AuditFailure.{AuditFailure}
use Rattle.fedrun_run.specs.declared.audit_failure.AuditFailure.TheVariants.{Stranger, Double, Missing, Stuck, Mismatch}
use Rattle.fedrun_run.specs.declared.audit_failure.AuditFailure.TheVariants.{Memory}

-- a node's name
abbrev pub node_name : Draft → NodeId → List ℕ
node_name d Coordinator = codes "coordinator"
node_name d (Federate j) = federate_name d j

-- what an audit answers, with the plan's names
abbrev pub failure_of : Draft → Unproved → AuditFailure
failure_of d unproved.Stranger = Stranger
failure_of d unproved.Double = Double
failure_of d (unproved.Missing j) = Missing (federate_name d j)
failure_of d (unproved.Stuck node event) = Stuck (node_name d node) event
failure_of d (unproved.Mismatch j row) = Mismatch (federate_name d j) row
failure_of d unproved.Memory = Memory

-- without memory for a name it is printed as out of memory
abbrev pub IsFailureOf : Draft → Unproved → AuditFailure → Type 0
IsFailureOf d fault failure = (failure ≡ Memory) ⊎ (failure ≡ failure_of d fault)

-- its number is the audit's
abbrev pub number_of : AuditFailure → ℕ
number_of Stranger = numbers.number_of unproved.Stranger
number_of Double = numbers.number_of unproved.Double
number_of (Missing name) = numbers.number_of (unproved.Missing 0)
number_of (Stuck node event) = numbers.number_of (unproved.Stuck Coordinator 0)
number_of (Mismatch name row) = numbers.number_of (unproved.Mismatch 0 0)
number_of Memory = numbers.number_of unproved.Memory

-- what is printed after the number
abbrev pub text_of : AuditFailure → List ℕ
text_of Stranger = codes " Stranger"
text_of Double = codes " Double"
text_of (Missing name) = codes " Missing " ++ name
text_of (Stuck node event) = codes " Stuck " ++ (node ++ (codes " " ++ decimal event))
text_of (Mismatch name row) = codes " Mismatch " ++ (name ++ (codes " " ++ decimal row))
text_of Memory = codes " Memory"

-- how it is printed
abbrev pub printed_failure : AuditFailure → List ℕ
printed_failure failure = decimal (number_of failure) ++ text_of failure
