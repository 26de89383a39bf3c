-- Closing rounds that are enough, after a schedule by which nobody forgets, end with the world stuck; and then every row is printed.
use Rattle.std.proofs.Common.{◌≡◌, ℕ, zero, suc, ◌+◌, ◌*◌, ◌^◌, ◌<◌, ◌≤◌, inl, inr, Bool, true, if◌then◌else◌, List, [], ◌∷◌, ◌++◌, length, length-append, Option, None, Some, refl, sym, ap, ◌∙◌, subst, append-nil, codes, arith}
use Rattle.std.proofs.lemmas.Bool.{cases_lt}
use Rattle.std.proofs.lemmas.List.{map-append}
use Rattle.std.specs.Io.KnownBytes.{Appends}
use Rattle.network.specs.Lawful.{IsLawful}
use Rattle.network.specs.Network.{Network}
use Rattle.network.specs.Undivided.{Row, whole, part}
use Rattle.network_laws.proofs.Prefix.{part_begins}
use Rattle.plan.specs.declared.draft.Draft.{Draft}
use Rattle.plan.specs.declared.input.Input.{Input}
use Rattle.plan.specs.External.{AreInputsOf}
use Rattle.plan.specs.Federation.{federate_count}
use Rattle.plan.specs.Legal.{IsLegal}
use Rattle.reactor_program.specs.Behaviour.{Behaviour}
use Rattle.reactor_programs.specs.Programs.{AreProgramsOf}
use Rattle.plan_network.specs.Network.{network_of}
use Rattle.plan_network.proofs.LawfulNetwork.{gives_lawful, gives_lawful_with}
use Rattle.node_cores.specs.FederateCore.{federate_core}
use Rattle.node_cores.specs.CoordinatorCore.{coordinator_core}
use Rattle.world_stations.specs.declared.step.Step.{Step}
use Rattle.world_stations.specs.World.{after_steps}
use Rattle.world_stations.specs.Kept.{is_kept}
use Rattle.world_stations.specs.Federation.{Federation, rows_in, IsPrefix, IsWhole, IsStuck}
use Rattle.world_stations.proofs.Rows.{all_kept}
use Rattle.world_progress.specs.Fuel.{enough_turns, fuel_of}
use Rattle.world_progress.specs.Rounds.{Playing, Task, steps_of_tasks, after_tasks, closing_rounds_tasks, after_closing_rounds}
use Rattle.world_progress.proofs.Parts.{no_more_rows}
use Rattle.world_progress.proofs.TaskLists.{world_after_append, world_after_tasks}
use Rattle.world_progress.proofs.ClosingRounds.{closing_rounds_end}
use Rattle.world.specs.World.{WorldView, stations_of, with_steps}
use Rattle.world.specs.Faithful.{IsFaithful}
use Rattle.files_text.specs.declared.row_format.RowFormat.{RowFormat}
use Rattle.files_text.specs.declared.row_format.RowFormat.TheVariants.{Text, Csv}
use Rattle.files_text.specs.CsvText.{csv_header}
use Rattle.files_text.specs.Formats.{formatted_rows}
use Rattle.files_text.specs.PlanText.{printed_each}
use Rattle.files_script.specs.declared.script.ScheduleLine.{ScheduleLine}
use Rattle.files_script.specs.Scripts.{Script}
use Rattle.fedrun_replay.specs.Play.{playing_of, unasked, unasked_player, tasks_of, after_lines, Made, made_for, made_by, steps_of}
use Rattle.fedrun_replay.specs.Closing.{most_rounds, made_in_all, PlaysSchedule}
use Rattle.fedrun_replay.specs.Enough.{AsksForEnough, whole_part, every_row, EndsWithEveryRow, every_row_as_csv, EndsWithEveryRowAsCsv}
use Rattle.fedrun_replay.specs.Replayed.{forgotten, history, each_history, histories, verdict, IsClosed, IsEnded, IsReplayed}
use Rattle.fedrun_replay.specs.AsCsv.{HasPlayedUnseen, IsReplayedAsCsv}
use Rattle.fedrun_replay.proofs.Playing.{stations_after, steps_made_for}
use Rattle.fedrun_replay.proofs.Leaving.{IsLeft, unasked_left, lines_left, within_left}

-- the world after these steps from another
abbrev after : Federation → List Step → Federation
after w steps = after_steps coordinator_core federate_core w steps

-- the world that lines leave is the one after the steps that they make
lines_world : (n : ℕ) (lines : List ScheduleLine) (p : Playing) → (after_lines n lines p).world ≡ after p.world (steps_of (made_by n lines p))
lines_world n [] p = refl
lines_world n (line ∷ rest) p =
    let tasks : List Task = tasks_of n line.command in
    let next : Playing = after_tasks tasks p in
    let here : List Step = steps_of_tasks tasks p in
    let more : List Step = steps_of (made_by n rest next) in
    lines_world n rest next ∙ ap (λ (w : Federation). after w more) (world_after_tasks tasks p) ∙ sym (world_after_append p.world here more)
    ∙ ap (λ (steps : List Step). after p.world (steps ++ more)) (sym (steps_made_for line.number here))
    ∙ ap (after p.world) (sym (map-append (λ (m : Made). m.step) (made_for line.number here) (made_by n rest next)))

-- so is the world after closing rounds that come then
closed_world : (n : ℕ) (s : Script) (rounds : ℕ) (p : Playing)
    → (after_closing_rounds n rounds (after_lines n s.lines p)).world ≡ after p.world (steps_of (made_in_all n s rounds p))
closed_world n s rounds p =
    let q : Playing = after_lines n s.lines p in
    let here : List Step = steps_of (made_by n s.lines p) in
    let more : List Step = steps_of_tasks (closing_rounds_tasks n rounds) q in
    world_after_tasks (closing_rounds_tasks n rounds) q ∙ ap (λ (w : Federation). after w more) (lines_world n s.lines p)
    ∙ sym (world_after_append p.world here more)
    ∙ ap (λ (steps : List Step). after p.world (here ++ steps)) (sym (steps_made_for (s.last_line + 1) more))
    ∙ ap (after p.world) (sym (map-append (λ (m : Made). m.step) (made_by n s.lines p) (made_for (s.last_line + 1) more)))

small_fuel : (fuel most : ℕ) → 2 * fuel ≤ most → most < 2 ^ 32 → fuel < 2 ^ 63
small_fuel fuel most enough few = omega arith

-- closing rounds that are enough end with the world stuck
ends_stuck : (d : Draft) (programs : List Behaviour) (inputs : List Input) (s : Script) (most : ℕ) (last : WorldView) (before played : Option (List ℕ))
    → IsLegal d → AreProgramsOf d programs → AreInputsOf d inputs → most < 2 ^ 32 → AsksForEnough d programs inputs s (Some most)
    → PlaysSchedule s (Some most) (unasked_player d programs inputs) last before played → IsStuck (stations_of last)
ends_stuck d programs inputs s most last before played legal are given few asks plays =
    let n : ℕ = federate_count d in
    let p : Playing = playing_of (unasked_player d programs inputs) in
    let q : Playing = after_lines n s.lines p in
    let fuel : ℕ = fuel_of (network_of d programs inputs) in
    let enough : 2 * fuel ≤ most = asks.1 in
    let lawful = gives_lawful_with d programs inputs legal are given in
    let left : IsLeft d programs inputs q = lines_left d programs inputs lawful s.lines p asks.0 (unasked_left d programs inputs) in
    let some = closing_rounds_end d programs inputs legal lawful (small_fuel fuel most enough few) left.steps q left.kept left.is
    (within_left d programs inputs lawful q left) in
    let soon : some.0 ≤ 2 * fuel = some.1 in
    let world : (after_closing_rounds n plays.rounds q).world ≡ stations_of last =
    closed_world n s plays.rounds p ∙ sym (stations_after (unasked d programs inputs) (steps_of (made_in_all n s plays.rounds p)))
    ∙ ap stations_of (sym plays.plays.later_is) in
    elim plays.all.ended [
      | inr stuck ↦ subst IsStuck world stuck
      | inl all ↦
          let made : plays.rounds ≡ most = all in
          elim (cases_lt some.0 plays.rounds) [
            | inl earlier ↦ absurd (plays.all.may.not_before some.0 earlier some.2)
            | inr not_earlier ↦
                let same : some.0 ≡ plays.rounds = omega arith in
                subst IsStuck world (subst (λ (rounds : ℕ). IsStuck (after_closing_rounds n rounds q).world) same some.2)
          ]
    ]

-- of two lists of rows that begin with each other none is longer
no_longer : (all rows rest : List Row) → all ≡ rows ++ rest → length rows ≤ length all
no_longer all rows rest e =
    let size = length-append rows rest in
    let same : length all ≡ length (rows ++ rest) = ap length e in
    omega arith

same_rows : (all rows rest : List Row) → all ≡ rows ++ rest → length all ≤ length rows → all ≡ rows
same_rows all rows [] e few = e ∙ append-nil rows
same_rows all rows (row ∷ rest) e few =
    let size = length-append rows (row ∷ rest) in
    let same : length all ≡ length (rows ++ row ∷ rest) = ap length e in
    let more : length (row ∷ rest) ≡ suc (length rest) = refl in
    absurd (omega arith)

more_turns : (turns enough : ℕ) → enough ≤ turns + enough
more_turns turns enough = omega arith

-- a prefix of a federate's part, of which no row is missing, is its whole part
rows_are_whole : (d : Draft) (programs : List Behaviour) (inputs : List Input) (w : Federation) (j : ℕ) → IsLawful (network_of d programs inputs)
    → IsPrefix d programs inputs w j → IsWhole d programs inputs w j → rows_in w j ≡ whole_part d programs inputs j
rows_are_whole d programs inputs w j lawful prefix every =
    let n : Network = network_of d programs inputs in
    let turns : ℕ = prefix.0 in
    let later : ℕ = turns + enough_turns n in
    let some : List Row = part j (whole n turns) in
    let all : List Row = part j (whole n later) in
    let further = part_begins n j turns later (omega arith) in
    let at_most = no_longer some (rows_in w j) prefix.1.0 prefix.1.1 in
    let no_more = no_longer all some further.0 further.1 in
    let begins = every later in
    let few : length (rows_in w j) ≤ length all = omega arith in
    same_rows (rows_in w j) all begins.0 begins.1 few ∙ ap (part j) (no_more_rows n later lawful (more_turns turns (enough_turns n)))

-- the texts of this many numbers, where each is the same
each_same : (f g : ℕ → List ℕ) (count : ℕ) → ((j : ℕ) → j < count → f j ≡ g j) → printed_each f count ≡ printed_each g count
each_same f g zero same = refl
each_same f g (suc count) same =
    ap (λ (front : List ℕ). front ++ f count) (each_same f g count (λ j below. same j (omega arith)))
    ∙ ap (λ (text : List ℕ). printed_each g count ++ text) (same count (omega arith))

-- in a stuck world each federate's history is its whole part
history_is_whole : (format : RowFormat) (d : Draft) (programs : List Behaviour) (inputs : List Input) (steps : List Step) (j : ℕ) → IsLawful (network_of d programs inputs)
    → IsFaithful (with_steps (unasked d programs inputs) steps) → IsStuck (stations_of (with_steps (unasked d programs inputs) steps)) → j < federate_count d
    → history format (with_steps (unasked d programs inputs) steps) j ≡ formatted_rows format d.federates (whole_part d programs inputs j)
history_is_whole format d programs inputs steps j lawful faithful stuck below =
    let w : WorldView = with_steps (unasked d programs inputs) steps in
    let rows : List Row = rows_in (stations_of w) j in
    let kept : is_kept w.steps j ≡ true = all_kept d programs inputs w.steps stuck.kept j in
    ap (λ (b : Bool). if b then formatted_rows format d.federates rows else forgotten format d j) kept
    ∙ ap (formatted_rows format d.federates)
    (rows_are_whole d programs inputs (stations_of w) j lawful (faithful.prefix j below kept) (faithful.stuck stuck j below))

-- so all histories are every row
histories_are_whole : (format : RowFormat) (d : Draft) (programs : List Behaviour) (inputs : List Input) (last : WorldView) (steps : List Step)
    → IsLawful (network_of d programs inputs) → last ≡ with_steps (unasked d programs inputs) steps → IsFaithful last → IsStuck (stations_of last)
    → each_history format last ≡ printed_each (λ j. formatted_rows format d.federates (whole_part d programs inputs j)) (federate_count d)
histories_are_whole format d programs inputs last steps lawful is faithful stuck =
    ap (each_history format) is
    ∙ each_same (history format (with_steps (unasked d programs inputs) steps)) (λ j. formatted_rows format d.federates (whole_part d programs inputs j)) (federate_count d)
    (λ j below. history_is_whole format d programs inputs steps j lawful (subst IsFaithful is faithful) (subst (λ (v : WorldView). IsStuck (stations_of v)) is stuck) below)

-- what is printed at the end of a stuck world is every row
closed_whole : (d : Draft) (programs : List Behaviour) (inputs : List Input) (most : ℕ) (last : WorldView) (steps : List Step) (before after : Option (List ℕ))
    → IsLawful (network_of d programs inputs) → last ≡ with_steps (unasked d programs inputs) steps → IsFaithful last → IsStuck (stations_of last)
    → IsClosed most last before after → EndsWithEveryRow d programs inputs last before after
closed_whole d programs inputs most last steps before after lawful is faithful stuck closed =
    let tells : closed.is_stuck ≡ true = closed.tells.1 stuck in
    let text : verdict most closed.is_stuck ++ histories last ≡ every_row d programs inputs =
    ap (λ (b : Bool). verdict most b ++ histories last) tells
    ∙ ap (λ (rows : List ℕ). codes "stuck\n" ++ (rows ++ codes "end\n")) (histories_are_whole Text d programs inputs last steps lawful is faithful stuck) in
    record { stuck = stuck; printed = subst (Appends before after) text closed.printed }

-- all of a replay
pub replayed : (d : Draft) (programs : List Behaviour) (inputs : List Input) (s : Script) (closing : Option ℕ) (last : WorldView) (before played after : Option (List ℕ))
    → IsLegal d → AreProgramsOf d programs → AreInputsOf d inputs → most_rounds closing < 2 ^ 32 → PlaysSchedule s closing (unasked_player d programs inputs) last before played
    → IsEnded closing last played after → IsFaithful last → IsReplayed d programs inputs s closing before after
replayed d programs inputs s closing last before played after legal are given few plays ended faithful =
    record { last = last; played = played; plays = plays; ended = ended; faithful = faithful; enough = whole_if_enough closing few plays ended }
  where
    whole_if_enough : (closing : Option ℕ) → most_rounds closing < 2 ^ 32 → PlaysSchedule s closing (unasked_player d programs inputs) last before played
        → IsEnded closing last played after → AsksForEnough d programs inputs s closing → EndsWithEveryRow d programs inputs last played after
    whole_if_enough None few plays ended asks = absurd asks
    whole_if_enough (Some most) few plays ended asks =
        let steps : List Step = steps_of (made_in_all (federate_count d) s plays.rounds (playing_of (unasked_player d programs inputs))) in
        let stuck : IsStuck (stations_of last) = ends_stuck d programs inputs s most last before played legal are given few asks plays in
        closed_whole d programs inputs most last steps played after (gives_lawful d programs inputs legal are given) plays.plays.later_is faithful stuck ended

-- all of one whose rows are printed as comma-separated values
pub replayed_as_csv : (d : Draft) (programs : List Behaviour) (inputs : List Input) (s : Script) (closing : Option ℕ) (last : WorldView) (before after : Option (List ℕ))
    → IsLegal d → AreProgramsOf d programs → AreInputsOf d inputs → most_rounds closing < 2 ^ 32 → HasPlayedUnseen s closing (unasked_player d programs inputs) last
    → Appends before after (csv_header ++ each_history Csv last) → IsFaithful last → IsReplayedAsCsv d programs inputs s closing before after
replayed_as_csv d programs inputs s closing last before after legal are given few plays printed faithful =
    record { last = last; plays = plays; printed = printed; faithful = faithful; enough = whole_if_enough closing few plays }
  where
    whole_if_enough : (closing : Option ℕ) → most_rounds closing < 2 ^ 32 → HasPlayedUnseen s closing (unasked_player d programs inputs) last
        → AsksForEnough d programs inputs s closing → EndsWithEveryRowAsCsv d programs inputs last before after
    whole_if_enough None few plays asks = absurd asks
    whole_if_enough (Some most) few plays asks =
        let steps : List Step = steps_of (made_in_all (federate_count d) s plays.rounds (playing_of (unasked_player d programs inputs))) in
        let stuck : IsStuck (stations_of last) = ends_stuck d programs inputs s most last None None legal are given few asks plays in
        let text : csv_header ++ each_history Csv last ≡ every_row_as_csv d programs inputs =
        ap (λ (rows : List ℕ). csv_header ++ rows)
        (histories_are_whole Csv d programs inputs last steps (gives_lawful d programs inputs legal are given) plays.plays.later_is faithful stuck) in
        record { stuck = stuck; printed = subst (Appends before after) text printed }
