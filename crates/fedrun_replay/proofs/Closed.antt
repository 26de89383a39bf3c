-- Closing rounds that are made one after the other.
use Rattle.std.proofs.Common.{◌≡◌, ℕ, suc, ◌+◌, ◌<◌, inl, inr, List, ◌++◌, Option, None, Some, Result, Ok, Err, refl, sym, ap, ◌∙◌, subst, append-nil, arith}
use Rattle.std.proofs.lemmas.Bool.{cases_lt}
use Rattle.plan.specs.declared.draft.Draft.{Draft}
use Rattle.plan.specs.declared.input.Input.{Input}
use Rattle.plan.specs.Federation.{federate_count}
use Rattle.reactor_program.specs.Behaviour.{Behaviour}
use Rattle.world_stations.specs.Federation.{IsStuck}
use Rattle.world_progress.specs.Rounds.{Playing, closing_round_tasks, closing_rounds_tasks, after_closing_rounds, steps_of_tasks}
use Rattle.world.specs.World.{stations_of}
use Rattle.files_script.specs.Scripts.{Script}
use Rattle.fedrun_replay.specs.declared.fault.ReplayFault.{ReplayFault}
use Rattle.fedrun_replay.specs.declared.fault.ReplayFault.TheVariants.{World, CannotWrite}
use Rattle.fedrun_replay.specs.Play.{PlayerView, playing_of, count_in, unasked, unasked_player, Made, made_for, made_by, Plays, PlaysSome}
use Rattle.fedrun_replay.specs.Closing.{MayMake, MakesAll, HasClosed, IsClosing, made_in_all, PlaysSchedule, PlaysSomeOf, IsPlaying}
use Rattle.fedrun_replay.proofs.Playing.{plays_on, some_on, some_of_none}
use Rattle.fedrun_replay.proofs.Doing.{Does, Stops, does_nothing, each_on, stopped_on}
use Rattle.fedrun_replay.proofs.Obeying.{Obeys, StopsIn, same_count}

-- this many closing rounds were made, each where the world wasn't stuck
pub record Closes (line most : ℕ) (v later : PlayerView) (a b : Option (List ℕ)) (rounds : ℕ) : Type 0 where
  pub may : MayMake (count_in v) most (playing_of v) rounds
  pub made : Does line (closing_rounds_tasks (count_in v) rounds) v later a b

-- none was made
pub closed_none : (line most : ℕ) (v : PlayerView) (bytes : Option (List ℕ)) → Closes line most v v bytes bytes 0
closed_none line most v bytes = record {
  may = record { at_most = omega arith; not_before = λ earlier less. absurd (omega arith) };
  made = does_nothing line v bytes;
}

-- the world is the one after these rounds
where_it_is : (line most : ℕ) (v later : PlayerView) (a b : Option (List ℕ)) (rounds : ℕ) → Closes line most v later a b rounds
    → stations_of later.world ≡ (after_closing_rounds (count_in v) rounds (playing_of v)).world
where_it_is line most v later a b rounds closes = ap (λ (p : Playing). p.world) closes.made.is

-- one more may be made
may_go_on : (line most : ℕ) (v mid : PlayerView) (a b : Option (List ℕ)) (rounds : ℕ) → rounds < most → ¬ (IsStuck (stations_of mid.world))
    → Closes line most v mid a b rounds → MayMake (count_in v) most (playing_of v) (rounds + 1)
may_go_on line most v mid a b rounds below not_stuck closes = record { at_most = omega arith; not_before = before }
  where
    before : (earlier : ℕ) → earlier < rounds + 1 → ¬ (IsStuck (after_closing_rounds (count_in v) earlier (playing_of v)).world)
    before earlier less =
        elim (cases_lt earlier rounds) [
          | inl first ↦ closes.may.not_before earlier first
          | inr last ↦
              let same : rounds ≡ earlier = omega arith in
              subst (λ (k : ℕ). ¬ (IsStuck (after_closing_rounds (count_in v) k (playing_of v)).world)) same
              (subst (λ w. ¬ (IsStuck w)) (where_it_is line most v mid a b rounds closes) not_stuck)
        ]

-- one more was made
pub closed_next : (line most : ℕ) (v mid later : PlayerView) (a b c : Option (List ℕ)) (rounds : ℕ) → rounds < most → ¬ (IsStuck (stations_of mid.world))
    → Closes line most v mid a b rounds → Does line (closing_round_tasks (count_in mid)) mid later b c → Closes line most v later a c (rounds + 1)
closed_next line most v mid later a b c rounds below not_stuck closes more =
    let count : count_in mid ≡ count_in v = same_count (made_for line (steps_of_tasks (closing_rounds_tasks (count_in v) rounds) (playing_of v))) v mid a b closes.made.plays in
    record {
      may = may_go_on line most v mid a b rounds below not_stuck closes;
      made =
          each_on line (λ round. closing_round_tasks (count_in v)) rounds v mid later a b c closes.made
          (subst (λ (n : ℕ). Does line (closing_round_tasks n) mid later b c) count more);
    }

-- there was no memory for a step of one
pub closed_stopped : {T : Type 0} (result : Result T ReplayFault) (fault : ReplayFault) (line most : ℕ) (v mid later : PlayerView) (a b c : Option (List ℕ)) (rounds : ℕ)
    → result ≡ Err fault → rounds < most → ¬ (IsStuck (stations_of mid.world)) → Closes line most v mid a b rounds
    → Stops fault line (closing_round_tasks (count_in mid)) mid later b c → IsClosing result line most v later a c
closed_stopped {T} result fault line most v mid later a b c rounds failed below not_stuck closes stopped =
    let count : count_in mid ≡ count_in v =
    same_count (made_for line (steps_of_tasks (closing_rounds_tasks (count_in v) rounds) (playing_of v))) v mid a b closes.made.plays in
    subst (λ (r : Result T ReplayFault). IsClosing r line most v later a c) (sym failed)
    (by_fault fault (stopped_on fault line (closing_rounds_tasks (count_in v) rounds) (closing_round_tasks (count_in v)) v mid later a b c closes.made
    (subst (λ (n : ℕ). Stops fault line (closing_round_tasks n) mid later b c) count stopped)))
  where
    by_fault : (fault : ReplayFault) → Stops fault line (closing_rounds_tasks (count_in v) rounds ++ closing_round_tasks (count_in v)) v later a c
        → IsClosing {T = T} (Err fault) line most v later a c
    by_fault (World memory) some =
        let next : rounds + 1 ≡ suc rounds = omega arith in
        record {
          rounds = rounds + 1;
          may = may_go_on line most v mid a b rounds below not_stuck closes;
          plays =
              subst (λ (n : ℕ). PlaysSome (made_for line (steps_of_tasks (closing_rounds_tasks (count_in v) n) (playing_of v))) v.world later.world a c)
              (sym next) some;
        }
    by_fault CannotWrite none = tt

-- all were made that there are until the world is stuck
pub closed_stuck : (line most : ℕ) (v later : PlayerView) (a b : Option (List ℕ)) (rounds : ℕ) → IsStuck (stations_of later.world)
    → Closes line most v later a b rounds → HasClosed line most v later a b
closed_stuck line most v later a b rounds stuck closes = record {
  rounds = rounds;
  all = record { may = closes.may; ended = inr (subst IsStuck (where_it_is line most v later a b rounds closes) stuck) };
  made = closes.made;
}

-- or all that are asked for
pub closed_all : (line most : ℕ) (v later : PlayerView) (a b : Option (List ℕ)) (rounds : ℕ) → rounds ≡ most
    → Closes line most v later a b rounds → HasClosed line most v later a b
closed_all line most v later a b rounds all closes = record {
  rounds = rounds;
  all = record { may = closes.may; ended = inl all };
  made = closes.made;
}

-- a schedule's lines were obeyed, and no closing round is asked for
pub played_alone : (s : Script) (v later : PlayerView) (a b : Option (List ℕ)) → Obeys s.lines v later a b → PlaysSchedule s None v later.world a b
played_alone s v later a b obeyed = record {
  rounds = 0;
  all = record { may = record { at_most = omega arith; not_before = λ earlier less. absurd (omega arith) }; ended = inl refl };
  plays =
      subst (λ (made : List Made). Plays made v.world later.world a b) (sym (append-nil (made_by (count_in v) s.lines (playing_of v)))) obeyed.plays;
}

-- there was no memory for a step of the lines
pub stopped_in_lines : {T : Type 0} (result : Result T ReplayFault) (fault : ReplayFault) (s : Script) (closing : Option ℕ) (v later : PlayerView) (a b : Option (List ℕ))
    → result ≡ Err fault → StopsIn fault s.lines v later a b → IsPlaying result s closing v later a b
stopped_in_lines {T} result fault s closing v later a b failed stopped =
    subst (λ (r : Result T ReplayFault). IsPlaying r s closing v later a b) (sym failed) (by_fault fault stopped)
  where
    by_fault : (fault : ReplayFault) → StopsIn fault s.lines v later a b → IsPlaying {T = T} (Err fault) s closing v later a b
    by_fault (World memory) some = record {
      rounds = 0;
      may = record { at_most = omega arith; not_before = λ earlier less. absurd (omega arith) };
      plays =
          subst (λ (made : List Made). PlaysSome made v.world later.world a b) (sym (append-nil (made_by (count_in v) s.lines (playing_of v)))) some;
    }
    by_fault CannotWrite none = tt

-- a schedule's lines were obeyed, and then closing rounds were to be made for the line after its last
pub played_to_end : {T : Type 0} (result : Result T ReplayFault) (s : Script) (line most : ℕ) (v mid later : PlayerView) (a b c : Option (List ℕ)) → line ≡ s.last_line + 1
    → Obeys s.lines v mid a b → IsClosing result line most mid later b c → IsPlaying result s (Some most) v later a c
played_to_end {T} result s line most v mid later a b c last obeyed closed =
    by_result result (subst (λ (n : ℕ). IsClosing result n most mid later b c) last closed)
  where
    count : count_in mid ≡ count_in v
    count = same_count (made_by (count_in v) s.lines (playing_of v)) v mid a b obeyed.plays

    then_made : (rounds : ℕ) → made_in_all (count_in v) s rounds (playing_of v)
        ≡ made_by (count_in v) s.lines (playing_of v) ++ made_for (s.last_line + 1) (steps_of_tasks (closing_rounds_tasks (count_in mid) rounds) (playing_of mid))
    then_made rounds =
        ap (λ (q : Playing). made_by (count_in v) s.lines (playing_of v) ++ made_for (s.last_line + 1) (steps_of_tasks (closing_rounds_tasks (count_in v) rounds) q)) (sym obeyed.is)
        ∙ ap (λ (k : ℕ). made_by (count_in v) s.lines (playing_of v) ++ made_for (s.last_line + 1) (steps_of_tasks (closing_rounds_tasks k rounds) (playing_of mid))) (sym count)

    by_result : (r : Result T ReplayFault) → IsClosing r (s.last_line + 1) most mid later b c → IsPlaying r s (Some most) v later a c
    by_result (Ok done) closes = record {
      rounds = closes.rounds;
      all =
          subst (λ (q : Playing). MakesAll (count_in v) most q closes.rounds) obeyed.is
          (subst (λ (k : ℕ). MakesAll k most (playing_of mid) closes.rounds) count closes.all);
      plays =
          subst (λ (made : List Made). Plays made v.world later.world a c) (sym (then_made closes.rounds))
          (plays_on (made_by (count_in v) s.lines (playing_of v))
          (made_for (s.last_line + 1) (steps_of_tasks (closing_rounds_tasks (count_in mid) closes.rounds) (playing_of mid)))
          v.world mid.world later.world a b c obeyed.plays closes.made.plays);
    }
    by_result (Err (World memory)) closes = record {
      rounds = closes.rounds;
      may =
          subst (λ (q : Playing). MayMake (count_in v) most q closes.rounds) obeyed.is
          (subst (λ (k : ℕ). MayMake k most (playing_of mid) closes.rounds) count closes.may);
      plays =
          subst (λ (made : List Made). PlaysSome made v.world later.world a c) (sym (then_made closes.rounds))
          (some_on (made_by (count_in v) s.lines (playing_of v))
          (made_for (s.last_line + 1) (steps_of_tasks (closing_rounds_tasks (count_in mid) closes.rounds) (playing_of mid)))
          v.world mid.world later.world a b c obeyed.plays closes.plays);
    }
    by_result (Err CannotWrite) none = tt

-- there was no memory for the first step
pub played_none : (s : Script) (closing : Option ℕ) (d : Draft) (programs : List Behaviour) (inputs : List Input) (bytes : Option (List ℕ))
    → PlaysSomeOf s closing (unasked_player d programs inputs) (unasked d programs inputs) bytes bytes
played_none s closing d programs inputs bytes = record {
  rounds = 0;
  may = record { at_most = omega arith; not_before = λ earlier less. absurd (omega arith) };
  plays = some_of_none (made_in_all (federate_count d) s 0 (playing_of (unasked_player d programs inputs))) (unasked d programs inputs) bytes;
}
