-- A schedule's fault that stands where answers are known up to it stands too where others came before.
use Rattle.std.proofs.Common.{ℕ, List}
use Rattle.std.specs.Borrow.{Bor}
use Rattle.plan.specs.declared.draft.Draft.{Draft}
use Rattle.fedrun_words.specs.declared.fault.Fault.{Fault}
use Rattle.fedrun_files.specs.Answers.{Answer}
use Rattle.fedrun_files.specs.Contents.{Contents}
use Rattle.fedrun_files.proofs.FaultsInTurn.{unread_after}
use Rattle.fedrun_commands.specs.declared.fault.NodeFault.{NodeFault}
use Rattle.fedrun_commands.specs.Refused.{IsScheduleFault, schedule_unread, schedule_refused}

pub schedule_fault_after : {first all : List Answer → Type 0} (come : (answers : List Answer) → first answers → all answers) (d : Draft) (name : Bor (List ℕ))
    (contents : Contents) (fault : Fault NodeFault) → IsScheduleFault d name contents first fault → IsScheduleFault d name contents all fault
schedule_fault_after come d name contents fault (schedule_unread unread) = schedule_unread (unread_after come _ _ _ _ unread)
schedule_fault_after come d name contents fault (schedule_refused asked why is_script stands) = schedule_refused (come _ asked) why is_script stands
