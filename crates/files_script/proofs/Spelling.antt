-- How the commands of lines are found, one after the other.
use Rattle.std.proofs.Common.{◌≡◌, ℕ, ◌+◌, Bool, true, false, ◌||◌, if◌then◌else◌, List, [], ◌∷◌, ◌++◌, Option, None, Some, is_some, refl, sym, ap, ◌∙◌, append_assoc}
use Rattle.plan.specs.declared.draft.Draft.{Draft}
use Rattle.files_script.specs.declared.command.Command.{Command}
use Rattle.files_script.specs.declared.script.ScheduleLine.{ScheduleLine}
use Rattle.files_script.specs.Words.{words_of, command_of}
use Rattle.files_script.specs.Scripts.{is_idle, listed, spelled, first_bad}

-- a line that does nothing spells no command
pub spelled_nothing : (d : Draft) (lines all : List ScheduleLine) (n : ℕ) (rest after : List (List ℕ)) (line : List ℕ) → rest ≡ line ∷ after → is_idle line ≡ true
    → lines ++ spelled d n rest ≡ all → lines ++ spelled d (n + 1) after ≡ all
spelled_nothing d lines all n rest after line e idle h =
    let step : spelled d n (line ∷ after) ≡ spelled d (n + 1) after = rw idle refl in
    ap (λ more. lines ++ more) (sym (ap (spelled d n) e ∙ step)) ∙ h

-- a line that has a form spells its command
pub spelled_one : (d : Draft) (lines all : List ScheduleLine) (n : ℕ) (rest after : List (List ℕ)) (line : List ℕ) (command : Command) (made : ScheduleLine)
    → rest ≡ line ∷ after → is_idle line ≡ false → command_of d (words_of line) ≡ Some command → made ≡ record { number = n; command = command }
    → lines ++ spelled d n rest ≡ all → (lines ++ made ∷ []) ++ spelled d (n + 1) after ≡ all
spelled_one d lines all n rest after line command made e busy is made_is h =
    let first : spelled d n (line ∷ after) ≡ listed n (command_of d (words_of line)) ++ spelled d (n + 1) after = rw busy refl in
    let step : spelled d n (line ∷ after) ≡ made ∷ spelled d (n + 1) after =
    first ∙ ap (λ found. listed n found ++ spelled d (n + 1) after) is ∙ ap (λ one. one ∷ spelled d (n + 1) after) (sym made_is) in
    append_assoc lines (made ∷ []) (spelled d (n + 1) after) ∙ ap (λ more. lines ++ more) (sym (ap (spelled d n) e ∙ step)) ∙ h

-- after a good line the first bad one is the same
pub good_so_far : (d : Draft) (all : Option ℕ) (n : ℕ) (rest after : List (List ℕ)) (line : List ℕ) → rest ≡ line ∷ after
    → (is_idle line || is_some (command_of d (words_of line))) ≡ true → first_bad d n rest ≡ all → first_bad d (n + 1) after ≡ all
good_so_far d all n rest after line e good h =
    let step : first_bad d n (line ∷ after) ≡ first_bad d (n + 1) after = rw good refl in
    sym (ap (first_bad d n) e ∙ step) ∙ h

-- the first line of no form is the bad one
pub bad_line : (d : Draft) (all : Option ℕ) (n : ℕ) (rest after : List (List ℕ)) (line : List ℕ) → rest ≡ line ∷ after → is_idle line ≡ false
    → command_of d (words_of line) ≡ None → first_bad d n rest ≡ all → all ≡ Some n
bad_line d all n rest after line e busy bad h =
    let tested : (is_idle line || is_some (command_of d (words_of line))) ≡ false = rw (busy, bad) refl in
    let step : first_bad d n (line ∷ after) ≡ Some n = rw tested refl in
    sym h ∙ ap (first_bad d n) e ∙ step
