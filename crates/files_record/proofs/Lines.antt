-- Lines of steps, one after the other.
use Rattle.std.proofs.Common.{◌≡◌, ℕ, ◌+◌, ◌<◌, ◌≤◌, ◌||◌, true, false, if◌then◌else◌, List, [], ◌∷◌, ◌++◌, length, take, get_or, codes, refl, sym, ap, subst, ◌∙◌, append_assoc, arith}
use Rattle.std.specs.Prelude.{All, Option, None, Some, is_some}
use Rattle.std.specs.Io.KnownBytes.{Appends}
use Rattle.std.specs.List.{list_all, onto_first}
use Rattle.std.proofs.KnownBytes.{Appends-trans}
use Rattle.std.proofs.lemmas.Bool.{and_parts}
use Rattle.std.proofs.lemmas.Grind.{flat_map-append}
use Rattle.std.proofs.lemmas.List.{append-nil, take_more}
use Rattle.std.proofs.lemmas.List.Elements.{All-head, All-tail}
use Rattle.plan.specs.declared.draft.Draft.{Draft}
use Rattle.world_stations.specs.declared.step.Step.{Step}
use Rattle.files_script.specs.declared.command.Command.{Command}
use Rattle.files_script.specs.declared.command.Command.TheVariants.{Make}
use Rattle.files_script.specs.declared.script.ScheduleLine.{ScheduleLine}
use Rattle.files_script.specs.declared.script.TheConstants.{MOST_BYTES}
use Rattle.files_script.specs.declared.fault.ScriptFault.{ScriptFault}
use Rattle.files_script.specs.declared.fault.ScriptFault.TheVariants as fault
use Rattle.files_script.specs.Words.{words_of, command_of}
use Rattle.files_script.specs.Scripts.{is_within_line, lines_of, line_count, is_idle, listed, spelled, first_bad, IsStepOf, Script, IsScriptOf, IsFaultOf}
use Rattle.files_record.specs.StepText.{step_text, printed_step, printed_steps}
use Rattle.files_record.specs.ReadAgain.{IsNamed, AreRecorded, lines_from, SaysSteps}
use Rattle.files_record.proofs.Words.{asks_for, is_one_line, is_busy}

-- a byte goes onto the first line of what follows it
onto_line : (byte next : ℕ) (rest : List ℕ) → is_within_line byte ≡ true → lines_of (byte ∷ next ∷ rest) ≡ onto_first byte (lines_of (next ∷ rest))
onto_line byte next rest within = ap (λ b. if b then onto_first byte (lines_of (next ∷ rest)) else [] ∷ lines_of (next ∷ rest)) within

-- a line feed ends a line
pub line_cut : (line rest : List ℕ) → list_all is_within_line line ≡ true → lines_of (line ++ 10 ∷ rest) ≡ line ∷ lines_of rest
line_cut [] [] within = refl
line_cut [] (next ∷ rest) within = refl
line_cut (byte ∷ []) rest within =
    let parts = and_parts (is_within_line byte) true within in
    onto_line byte 10 rest parts.0 ∙ ap (onto_first byte) (line_cut [] rest refl)
line_cut (byte ∷ next ∷ line) rest within =
    let parts = and_parts (is_within_line byte) (list_all is_within_line (next ∷ line)) within in
    onto_line byte next (line ++ 10 ∷ rest) parts.0 ∙ ap (onto_first byte) (line_cut (next ∷ line) rest parts.1)

-- what a line of some command adds
spelled_line : (d : Draft) (number : ℕ) (line : List ℕ) (more : List (List ℕ)) (command : Command) → is_idle line ≡ false → command_of d (words_of line) ≡ Some command →
    spelled d number (line ∷ more) ≡ record { number = number; command = command } ∷ spelled d (number + 1) more
spelled_line d number line more command busy asks =
    ap (λ b. if b then spelled d (number + 1) more else listed number (command_of d (words_of line)) ++ spelled d (number + 1) more) busy
    ∙ ap (λ found. listed number found ++ spelled d (number + 1) more) asks

good_line : (d : Draft) (number : ℕ) (line : List ℕ) (more : List (List ℕ)) (command : Command) → is_idle line ≡ false → command_of d (words_of line) ≡ Some command →
    first_bad d number (line ∷ more) ≡ first_bad d (number + 1) more
good_line d number line more command busy asks =
    ap (λ b. if b || is_some (command_of d (words_of line)) then first_bad d (number + 1) more else Some number) busy
    ∙ ap (λ found. if is_some found then first_bad d (number + 1) more else Some number) asks

module _ (d : Draft) (named : IsNamed d) where
  -- the first line is the first step's
  first_line : (step : Step) (rest : List Step) → IsStepOf d step → lines_of (printed_steps d (step ∷ rest)) ≡ step_text d step ∷ lines_of (printed_steps d rest)
  first_line step rest is =
      ap lines_of (append_assoc (step_text d step) (codes "\n") (printed_steps d rest))
      ∙ line_cut (step_text d step) (printed_steps d rest) (is_one_line d named step is)

  -- the lines spell the steps
  spelled_again : (steps : List Step) (number : ℕ) → All (IsStepOf d) steps → spelled d number (lines_of (printed_steps d steps)) ≡ lines_from number steps
  spelled_again [] number are = refl
  spelled_again (step ∷ rest) number are =
      let is = All-head (IsStepOf d) step rest are in
      ap (spelled d number) (first_line step rest is)
      ∙ (spelled_line d number (step_text d step) (lines_of (printed_steps d rest)) (Make step) (is_busy d step) (asks_for d named step is)
      ∙ ap (λ lines. record { number = number; command = Make step } ∷ lines) (spelled_again rest (number + 1) (All-tail (IsStepOf d) step rest are)))

  -- none is bad
  none_bad : (steps : List Step) (number : ℕ) → All (IsStepOf d) steps → first_bad d number (lines_of (printed_steps d steps)) ≡ None
  none_bad [] number are = refl
  none_bad (step ∷ rest) number are =
      let is = All-head (IsStepOf d) step rest are in
      ap (first_bad d number) (first_line step rest is)
      ∙ (good_line d number (step_text d step) (lines_of (printed_steps d rest)) (Make step) (is_busy d step) (asks_for d named step is)
      ∙ none_bad rest (number + 1) (All-tail (IsStepOf d) step rest are))

  -- there are as many as steps
  as_many : (steps : List Step) → All (IsStepOf d) steps → line_count (printed_steps d steps) ≡ length steps
  as_many [] are = refl
  as_many (step ∷ rest) are =
      let one : line_count (printed_steps d (step ∷ rest)) ≡ length (step_text d step ∷ lines_of (printed_steps d rest)) =
      ap length (first_line step rest (All-head (IsStepOf d) step rest are)) in
      let others : line_count (printed_steps d rest) ≡ length rest = as_many rest (All-tail (IsStepOf d) step rest are) in
      omega (arith, one, others)

-- the schedule that is read from the text says the steps
pub read_again : (d : Draft) (steps : List Step) (s : Script) → AreRecorded d steps → IsScriptOf d (printed_steps d steps) s → SaysSteps steps s
read_again d steps s recorded is = record {
  lines = is.spells ∙ spelled_again d recorded.named steps 1 recorded.steps_of;
  last = is.last ∙ as_many d recorded.named steps recorded.steps_of;
}

-- no fault stands but out of memory, where the text is short enough
pub only_memory : (d : Draft) (steps : List Step) (answered : ScriptFault) → AreRecorded d steps → length (printed_steps d steps) ≤ MOST_BYTES →
    IsFaultOf d (printed_steps d steps) answered → answered ≡ fault.Memory
only_memory d steps fault.OverLimit recorded short stands = absurd (omega arith)
only_memory d steps (fault.ScheduleLine number) recorded short stands =
    let bad : None ≡ Some number = sym (none_bad d recorded.named steps 1 recorded.steps_of) ∙ stands.0 in
    cc
only_memory d steps fault.Memory recorded short stands = refl

-- one step more is written
pub step_more : (d : Draft) (steps : List Step) (i : ℕ) (other : Step) (a b c : Option (List ℕ)) → i < length steps →
    Appends a b (printed_steps d (take i steps)) → Appends b c (printed_step d (get_or steps i other)) → Appends a c (printed_steps d (take (i + 1) steps))
step_more d steps i other a b c there so_far more =
    let text : printed_steps d (take (i + 1) steps) ≡ printed_steps d (take i steps) ++ printed_step d (get_or steps i other) =
    ap (printed_steps d) (take_more steps i other there)
    ∙ (flat_map-append (printed_step d) (take i steps) (get_or steps i other ∷ [])
    ∙ ap (λ t. printed_steps d (take i steps) ++ t) (append-nil (printed_step d (get_or steps i other)))) in
    subst (Appends a c) (sym text) (Appends-trans a b c _ _ so_far more)
