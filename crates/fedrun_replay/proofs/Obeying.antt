-- Lines of a schedule that are obeyed one after the other.
use Rattle.std.proofs.Common.{◌≡◌, ℕ, ◌+◌, ◌<◌, List, [], ◌∷◌, ◌++◌, length, get_or, take, drop, Option, Result, Ok, Err, refl, sym, ap, ◌∙◌, subst, append_assoc, append-nil}
use Rattle.std.proofs.lemmas.List.{take_more, take-append-drop}
use Rattle.plan.specs.Federation.{federate_count}
use Rattle.world_progress.specs.Rounds.{Playing, steps_of_tasks, after_tasks}
use Rattle.world.specs.World.{WorldView}
use Rattle.files_script.specs.declared.script.ScheduleLine.{ScheduleLine}
use Rattle.fedrun_replay.specs.declared.fault.ReplayFault.{ReplayFault}
use Rattle.fedrun_replay.specs.Play.{PlayerView, playing_of, count_in, tasks_of, after_lines, Made, made_for, made_by, Plays, HasMade, HasStopped, HasPlayed, HasDone}
use Rattle.fedrun_replay.proofs.Playing.{plays_nothing, played_on, stopped_of_more}

-- lines, and then further ones
pub made_by_append : (n : ℕ) (xs ys : List ScheduleLine) (p : Playing) → made_by n (xs ++ ys) p ≡ made_by n xs p ++ made_by n ys (after_lines n xs p)
made_by_append n [] ys p = refl
made_by_append n (line ∷ xs) ys p =
    let here : List Made = made_for line.number (steps_of_tasks (tasks_of n line.command) p) in
    let next : Playing = after_tasks (tasks_of n line.command) p in
    ap (λ more. here ++ more) (made_by_append n xs ys next) ∙ sym (append_assoc here (made_by n xs next) (made_by n ys (after_lines n xs next)))

pub after_lines_append : (n : ℕ) (xs ys : List ScheduleLine) (p : Playing) → after_lines n (xs ++ ys) p ≡ after_lines n ys (after_lines n xs p)
after_lines_append n [] ys p = refl
after_lines_append n (line ∷ xs) ys p = after_lines_append n xs ys (after_tasks (tasks_of n line.command) p)

-- as many federates are there after steps
pub same_count : (made : List Made) (v later : PlayerView) (a b : Option (List ℕ)) → Plays made v.world later.world a b → count_in later ≡ count_in v
same_count made v later a b plays = ap (λ (w : WorldView). federate_count w.draft) plays.later_is

-- a player did what these lines ask for
abbrev pub Obeys : List ScheduleLine → PlayerView → PlayerView → Option (List ℕ) → Option (List ℕ) → Type 0
Obeys lines v later a b = HasMade (made_by (count_in v) lines (playing_of v)) (after_lines (count_in v) lines (playing_of v)) v later a b

-- it stopped while it did
abbrev pub StopsIn : ReplayFault → List ScheduleLine → PlayerView → PlayerView → Option (List ℕ) → Option (List ℕ) → Type 0
StopsIn fault lines v later a b = HasStopped fault (made_by (count_in v) lines (playing_of v)) v.world later.world a b

-- no line was obeyed
pub obeyed_none : (v : PlayerView) (bytes : Option (List ℕ)) → Obeys [] v v bytes bytes
obeyed_none v bytes = record { plays = plays_nothing v.world bytes; is = refl }

-- lines were obeyed, and then one more was to be
obeyed_on : {T : Type 0} (result : Result T ReplayFault) (xs : List ScheduleLine) (line : ScheduleLine) (v mid later : PlayerView) (a b c : Option (List ℕ))
    → Obeys xs v mid a b → HasDone result line.number (tasks_of (count_in mid) line.command) mid later b c
    → HasPlayed result (made_by (count_in v) (xs ++ line ∷ []) (playing_of v)) (after_lines (count_in v) (xs ++ line ∷ []) (playing_of v)) v later a c
obeyed_on {T} result xs line v mid later a b c first more =
    let p : Playing = playing_of v in
    let n : ℕ = count_in v in
    let q : Playing = after_lines n xs p in
    let count : count_in mid ≡ n = same_count (made_by n xs p) v mid a b first.plays in
    let here : HasDone result line.number (tasks_of n line.command) mid later b c =
    subst (λ (k : ℕ). HasDone result line.number (tasks_of k line.command) mid later b c) count more in
    let made : made_by n (xs ++ line ∷ []) p ≡ made_by n xs p ++ made_for line.number (steps_of_tasks (tasks_of n line.command) (playing_of mid)) =
    made_by_append n xs (line ∷ []) p
    ∙ ap (λ one. made_by n xs p ++ one) (append-nil (made_for line.number (steps_of_tasks (tasks_of n line.command) q)))
    ∙ ap (λ (r : Playing). made_by n xs p ++ made_for line.number (steps_of_tasks (tasks_of n line.command) r)) (sym first.is) in
    let last : after_tasks (tasks_of n line.command) (playing_of mid) ≡ after_lines n (xs ++ line ∷ []) p =
    ap (after_tasks (tasks_of n line.command)) first.is ∙ sym (after_lines_append n xs (line ∷ []) p) in
    subst (λ (r : Playing). HasPlayed result (made_by n (xs ++ line ∷ []) p) r v later a c) last
    (played_on result (made_by n xs p) (made_for line.number (steps_of_tasks (tasks_of n line.command) (playing_of mid))) (made_by n (xs ++ line ∷ []) p)
    q (after_tasks (tasks_of n line.command) (playing_of mid)) v mid later a b c made first here)

-- the line at this place was obeyed too
pub obeyed_next : (lines : List ScheduleLine) (place : ℕ) (d : ScheduleLine) (v mid later : PlayerView) (a b c : Option (List ℕ)) → place < length lines
    → Obeys (take place lines) v mid a b
    → HasDone {T = Unit {0}} (Ok tt) (get_or lines place d).number (tasks_of (count_in mid) (get_or lines place d).command) mid later b c
    → Obeys (take (place + 1) lines) v later a c
obeyed_next lines place d v mid later a b c there first more =
    subst (λ (front : List ScheduleLine). Obeys front v later a c) (sym (take_more lines place d there))
    (obeyed_on {T = Unit {0}} (Ok tt) (take place lines) (get_or lines place d) v mid later a b c first more)

-- there was no memory for a step of it
pub obeyed_stopped : (fault : ReplayFault) (lines : List ScheduleLine) (place : ℕ) (d : ScheduleLine) (v mid later : PlayerView) (a b c : Option (List ℕ))
    → place < length lines → Obeys (take place lines) v mid a b
    → HasDone {T = Unit {0}} (Err fault) (get_or lines place d).number (tasks_of (count_in mid) (get_or lines place d).command) mid later b c
    → StopsIn fault lines v later a c
obeyed_stopped fault lines place d v mid later a b c there first more =
    let p : Playing = playing_of v in
    let n : ℕ = count_in v in
    let by_then : List ScheduleLine = take place lines ++ get_or lines place d ∷ [] in
    let rest : List ScheduleLine = drop (place + 1) lines in
    let parts : lines ≡ by_then ++ rest =
    sym (take-append-drop (place + 1) lines) ∙ ap (λ (front : List ScheduleLine). front ++ rest) (take_more lines place d there) in
    stopped_of_more fault (made_by n by_then p) (made_by n lines p) (made_by n rest (after_lines n by_then p)) v.world later.world a c
    (ap (λ (all : List ScheduleLine). made_by n all p) parts ∙ made_by_append n by_then rest p)
    (obeyed_on {T = Unit {0}} (Err fault) (take place lines) (get_or lines place d) v mid later a b c first more)
