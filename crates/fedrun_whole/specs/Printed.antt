-- What a command prints where all went well.
use Rattle.std.specs.Prelude.{ℕ, List, Option}
use Rattle.std.specs.Io.KnownBytes.{Appends}
use Rattle.plan.specs.declared.draft.Draft.{Draft}
use Rattle.reactor_program.specs.Behaviour.{Behaviour}
use Rattle.files_text.specs.PlanText.{printed_plan}
use Rattle.fedrun_words.specs.declared.request.Request.{Request}
use Rattle.fedrun_words.specs.declared.request.Request.TheVariants.{Whole, Check}
use Rattle.fedrun_words.specs.declared.request.WholeRequest.{WholeRequest}
use Rattle.fedrun_files.specs.Contents.{Contents}
use Rattle.fedrun_files.specs.Loaded.{input_file, IsFederation, HoldsOfSources}
use Rattle.fedrun_whole.specs.PrintedTurns.{PrintsRows}

-- a writer's bytes grew by the rows of the federation in a file after at most the turns that are asked for, in the
-- format that is, with the recorded inputs in another
abbrev pub PrintsWhole : Contents → WholeRequest → Option (List ℕ) → Option (List ℕ) → Type 0
PrintsWhole contents asked before after =
    HoldsOfSources (contents asked.federation.now) (input_file contents asked.inputs.now)
    (λ s. PrintsRows s.plan s.programs s.inputs asked.turns asked.format before after)

-- a writer's bytes grew by the plan of the federation in a file
pub record PrintsPlan (federation before after : Option (List ℕ)) : Type 0 where
  pub draft : Draft
  pub programs : List Behaviour
  pub federation_is : IsFederation federation draft programs
  pub printed : Appends before after (printed_plan draft)

-- what this request asks for was printed, by a program that has `whole` and `check` alone
abbrev pub PrintsAlone : Contents → Request → Option (List ℕ) → Option (List ℕ) → Type 0
PrintsAlone contents (Whole asked) before after = PrintsWhole contents asked before after
PrintsAlone contents (Check asked) before after = PrintsPlan (contents asked.federation.now) before after
PrintsAlone contents request before after = ⊥

-- what some request asks for was printed
pub record PrintsAnswer (PrintsFor : Contents → Request → Option (List ℕ) → Option (List ℕ) → Type 0)
    (contents : Contents) (before after : Option (List ℕ)) : Type 0 where
  pub request : Request
  pub prints : PrintsFor contents request before after
