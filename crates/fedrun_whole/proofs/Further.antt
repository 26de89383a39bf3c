-- Requests of commands that a program with `whole` and `check` alone doesn't have.
use Rattle.std.proofs.Common.{◌≡◌, ℕ, List, Option, refl}
use Rattle.fedrun_words.specs.declared.request.CheckRequest.{CheckRequest}
use Rattle.fedrun_words.specs.declared.request.Request.{Request}
use Rattle.fedrun_words.specs.declared.request.Request.TheVariants.{Whole, Check, Replay, Run, Record, Frames, Trace, DrawFederation, DrawSchedule, Audit, Lint, About}
use Rattle.fedrun_words.specs.declared.request.WholeRequest.{WholeRequest}
use Rattle.fedrun_words.specs.declared.fault.Fault.{Fault}
use Rattle.fedrun_words.specs.declared.more.NoSuchCommand.{NoSuchCommand}
use Rattle.fedrun_files.specs.Answers.{Answer}
use Rattle.fedrun_files.specs.Contents.{Contents}
use Rattle.fedrun_whole.specs.Refused.{IsNoSuchCommand, IsFaultAlone}

pub of_further_commands : (contents : Contents) (answered : List Answer → Type 0) (before after : Option (List ℕ)) (request : Request) (fault : Fault NoSuchCommand)
    → ((asked : WholeRequest) → request ≡ Whole asked → ⊥) → ((asked : CheckRequest) → request ≡ Check asked → ⊥) → IsNoSuchCommand answered fault
    → IsFaultAlone contents answered before after request fault
of_further_commands contents answered before after (Whole asked) fault no_whole no_check is = absurd (no_whole asked refl)
of_further_commands contents answered before after (Check asked) fault no_whole no_check is = absurd (no_check asked refl)
of_further_commands contents answered before after (Replay asked) fault no_whole no_check is = is
of_further_commands contents answered before after (Run asked) fault no_whole no_check is = is
of_further_commands contents answered before after (Record asked) fault no_whole no_check is = is
of_further_commands contents answered before after (Frames asked) fault no_whole no_check is = is
of_further_commands contents answered before after (Trace asked) fault no_whole no_check is = is
of_further_commands contents answered before after (DrawFederation asked) fault no_whole no_check is = is
of_further_commands contents answered before after (DrawSchedule asked) fault no_whole no_check is = is
of_further_commands contents answered before after (Audit asked) fault no_whole no_check is = is
of_further_commands contents answered before after (Lint asked) fault no_whole no_check is = is
of_further_commands contents answered before after (About asked) fault no_whole no_check is = is
