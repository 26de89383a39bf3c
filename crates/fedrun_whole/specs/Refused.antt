-- Which fault stands where a command prints nothing more: in the words, in the files of the request, or after all was
-- loaded. What a writer holds before and after is said of faults that come after that.
use Rattle.std.specs.Prelude.{◌≡◌, ℕ, ◌⊎◌, List, [], ◌∷◌, Option}
use Rattle.plan.specs.declared.draft.Draft.{Draft}
use Rattle.plan.specs.declared.input.Input.{Input}
use Rattle.reactor_program.specs.Behaviour.{Behaviour}
use Rattle.reactor.specs.declared.memory.Memory as turns
use Rattle.files_text.specs.declared.memory.Memory as text
use Rattle.files_text.specs.declared.row_format.RowFormat.{RowFormat}
use Rattle.fedrun_words.specs.declared.reading.WordsFault.{WordsFault}
use Rattle.fedrun_words.specs.declared.request.CheckRequest.{CheckRequest}
use Rattle.fedrun_words.specs.declared.request.Request.{Request}
use Rattle.fedrun_words.specs.declared.request.Request.TheVariants.{Whole, Check}
use Rattle.fedrun_words.specs.declared.request.WholeRequest.{WholeRequest}
use Rattle.fedrun_words.specs.declared.fault.Fault.{Fault}
use Rattle.fedrun_words.specs.declared.fault.Fault.TheVariants.{CannotWrite, Turns, Print, More}
use Rattle.fedrun_words.specs.declared.more.NoSuchCommand.{NoSuchCommand}
use Rattle.fedrun_words.specs.Faults.{fault_of_words}
use Rattle.fedrun_files.specs.Answers.{Answer, given}
use Rattle.fedrun_files.specs.Contents.{Contents}
use Rattle.fedrun_files.specs.Loaded.{input_file, IsFederation, HoldsOfSources}
use Rattle.fedrun_files.specs.Refused.{asked_sources, IsFederationFault, IsSourcesFault}
use Rattle.fedrun_whole.specs.PrintedTurns.{PrintsFirstRows}

-- the fault is one of words
abbrev pub IsWordsFault : {M : Type 0} → Fault M → Type 0
IsWordsFault fault = (why : WordsFault) × (fault ≡ fault_of_words why)

-- the request is a command of another program, and no file was asked for
abbrev pub IsNoSuchCommand : (List Answer → Type 0) → Fault NoSuchCommand → Type 0
IsNoSuchCommand answered fault = ((which : NoSuchCommand) × (fault ≡ More which)) × answered []

-- why not all rows are printed, once all was loaded: it can't be written, or there was no memory for a turn; then the
-- rows of those before it are written
abbrev pub IsTurnsFault : {M : Type 0} → Draft → List Behaviour → List Input → ℕ → RowFormat → Option (List ℕ)
    → Option (List ℕ) → Fault M → Type 0
IsTurnsFault d programs inputs most format before after fault =
    ((memory : turns.Memory) × (fault ≡ Turns memory) × PrintsFirstRows d programs inputs most format before after)
    ⊎ (fault ≡ CannotWrite)

-- why the plan isn't printed, once it was loaded: it can't be written, or there was no memory for its text; then
-- nothing is written
abbrev pub IsPlanFault : {M : Type 0} → Option (List ℕ) → Option (List ℕ) → Fault M → Type 0
IsPlanFault before after fault =
    ((memory : text.Memory) × (fault ≡ Print memory) × (after ≡ before)) ⊎ (fault ≡ CannotWrite)

-- the federation file is taken, and this fault comes after it
pub record IsPrintFault {M : Type 0} (federation before after : Option (List ℕ)) (fault : Fault M) : Type 0 where
  pub draft : Draft
  pub programs : List Behaviour
  pub federation_is : IsFederation federation draft programs
  pub later : IsPlanFault before after fault

-- why `whole` isn't done, and what was answered about files till then: the federation file's fault comes first, then
-- the input file's
abbrev pub IsWholeFault : {M : Type 0} → Contents → (List Answer → Type 0) → Option (List ℕ) → Option (List ℕ)
    → WholeRequest → Fault M → Type 0
IsWholeFault contents answered before after asked fault =
    IsSourcesFault asked.federation asked.inputs contents answered fault
    ⊎ (answered (asked_sources asked.federation.now asked.inputs.now)
    × HoldsOfSources (contents asked.federation.now) (input_file contents asked.inputs.now)
    (λ s. IsTurnsFault s.plan s.programs s.inputs asked.turns asked.format before after fault))

-- why `check` isn't done, and what was answered about files till then
abbrev pub IsCheckFault : {M : Type 0} → Contents → (List Answer → Type 0) → Option (List ℕ) → Option (List ℕ)
    → CheckRequest → Fault M → Type 0
IsCheckFault contents answered before after asked fault =
    IsFederationFault asked.federation contents answered fault
    ⊎ (answered (given asked.federation.now ∷ []) × IsPrintFault (contents asked.federation.now) before after fault)

-- why this request isn't done by a program that has `whole` and `check` alone, and what was answered about files till
-- then
abbrev pub IsFaultAlone : Contents → (List Answer → Type 0) → Option (List ℕ) → Option (List ℕ) → Request
    → Fault NoSuchCommand → Type 0
IsFaultAlone contents answered before after (Whole asked) fault =
    IsWholeFault contents answered before after asked fault
IsFaultAlone contents answered before after (Check asked) fault =
    IsCheckFault contents answered before after asked fault
IsFaultAlone contents answered before after request fault = IsNoSuchCommand answered fault

-- the fault is one of words, and no file was asked for, or it stands against some request
pub data Stands {M : Type 0} (IsFaultOf : Contents → (List Answer → Type 0) → Option (List ℕ) → Option (List ℕ)
    → Request → Fault M → Type 0) (contents : Contents) (answered : List Answer → Type 0)
    (before after : Option (List ℕ)) (fault : Fault M) : Type 0 where
  words : IsWordsFault fault → answered [] → Stands IsFaultOf contents answered before after fault
  request : (asked : Request) → IsFaultOf contents answered before after asked fault
      → Stands IsFaultOf contents answered before after fault
