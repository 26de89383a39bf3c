-- Files that are looked at, one after the other.
use Rattle.std.proofs.Common.{◌≡◌, ℕ, List, Option, None, Some, refl, subst, ◌∙◌}
use Rattle.std.specs.Borrow.{Bor}
use Rattle.std.specs.Global.{Vec}
use Rattle.loadfed.specs.declared.federation.TheConstants.{MOST_BYTES}
use Rattle.loadfed.specs.declared.recorded.TheConstants.{MOST_INPUT_BYTES}
use Rattle.fedrun_words.specs.declared.fault.Fault.{Fault}
use Rattle.fedrun_words.specs.declared.request.LintRequest.{LintRequest}
use Rattle.fedrun_files.specs.Answers.{Answer}
use Rattle.fedrun_files.specs.Contents.{Contents}
use Rattle.fedrun_files.specs.Loaded.{input_file}
use Rattle.fedrun_lint.specs.Answered.{GivenFile}
use Rattle.fedrun_commands.specs.declared.fault.NodeFault.{NodeFault}
use Rattle.fedrun_commands.specs.Linted.{AreLookedAt, known_bytes, file_of, IsAskedSchedule, AreFiles, IsScheduleUnread}

-- the files, of which each was read where the one before it had been
pub are_files : (contents next last : Contents) (asked : LintRequest) (first second : Option (Vec ℕ)) (third : Option GivenFile) → next ≡ contents → last ≡ next
    → AreLookedAt MOST_BYTES (contents asked.federation.now) (known_bytes first)
    → AreLookedAt MOST_INPUT_BYTES (input_file next asked.inputs.now) (known_bytes second)
    → IsAskedSchedule last asked.schedule third
    → AreFiles contents asked (file_of asked.federation.now first) (file_of asked.inputs.now second) third
are_files contents next last asked first second third same still one two three = record {
  first_name = refl;
  second_name = refl;
  first_bytes = one;
  second_bytes = subst (λ (here : Contents). AreLookedAt MOST_INPUT_BYTES (input_file here asked.inputs.now) (known_bytes second)) same two;
  third_is = subst (λ (here : Contents). IsAskedSchedule here asked.schedule third) (still ∙ same) three;
}

-- the schedule can't be read, and others were asked for before
pub schedule_later : (now all : List Answer → Type 0) (name : Option (Bor (List ℕ))) (fault : Fault NodeFault) → ((answers : List Answer) → now answers → all answers)
    → IsScheduleUnread name now fault → IsScheduleUnread name all fault
schedule_later now all None fault come is = absurd is
schedule_later now all (Some name) fault come is = record { why = is.why; not_long = is.not_long; fault_is = is.fault_is; answer = come _ is.answer }
