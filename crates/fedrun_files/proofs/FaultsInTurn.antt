-- A fault that stands where answers are known up to it stands too where others came before.
use Rattle.std.proofs.Common.{ℕ, List, Option}
use Rattle.std.specs.Borrow.{Bor}
use Rattle.plan.specs.declared.draft.Draft.{Draft}
use Rattle.fedrun_words.specs.declared.fault.Fault.{Fault}
use Rattle.fedrun_files.specs.Answers.{Answer}
use Rattle.fedrun_files.specs.Contents.{Contents}
use Rattle.fedrun_files.specs.Refused.{IsUnread, IsInputFault, input_unread, input_unloaded}

module _ {M : Type 0} {first all : List Answer → Type 0} (come : (answers : List Answer) → first answers → all answers) where
  -- a file's bytes that can't be had
  pub unread_after : (most : ℕ) (name : Bor (List ℕ)) (known : Option (List ℕ)) (fault : Fault M) → IsUnread most name known first fault
      → IsUnread most name known all fault
  unread_after most name known fault unread = record {
    why = unread.why;
    fault_is = unread.fault_is;
    answer = come _ unread.answer;
    over = unread.over;
  }

  -- the input file's fault
  pub input_fault_after : (d : Draft) (name : Bor (List ℕ)) (contents : Contents) (fault : Fault M) → IsInputFault d name contents first fault
      → IsInputFault d name contents all fault
  input_fault_after d name contents fault (input_unread named unread) = input_unread named (unread_after _ _ _ _ unread)
  input_fault_after d name contents fault (input_unloaded asked unloaded) = input_unloaded (come _ asked) unloaded
