-- Tasks that a player does one after the other.
use Rattle.std.proofs.Common.{◌≡◌, ℕ, suc, ◌+◌, ◌<◌, List, [], ◌∷◌, ◌++◌, Option, Result, Ok, Err, refl, sym, ap, ◌∙◌, subst, arith}
use Rattle.plan.specs.Federation.{federate_count}
use Rattle.world_stations.specs.declared.dir.Dir.{Dir}
use Rattle.world_progress.specs.Rounds.{Playing, Task, skips, moved_to, sent_in, steps_of_tasks, after_tasks, for_each}
use Rattle.world_progress.proofs.TaskLists.{steps_append, after_append, Parts, each_parts}
use Rattle.world.specs.World.{WorldView, stations_of}
use Rattle.fedrun_replay.specs.declared.fault.ReplayFault.{ReplayFault}
use Rattle.fedrun_replay.specs.Play.{PlayerView, playing_of, count_in, Made, made_for, Plays, HasMade, HasStopped, HasPlayed, HasDone}
use Rattle.fedrun_replay.proofs.Playing.{plays_nothing, made_for_append, played_on, stopped_of_more}

-- a player did this for a line
abbrev pub Does : ℕ → List Task → PlayerView → PlayerView → Option (List ℕ) → Option (List ℕ) → Type 0
Does line tasks v later a b = HasMade (made_for line (steps_of_tasks tasks (playing_of v))) (after_tasks tasks (playing_of v)) v later a b

-- it stopped while it did
abbrev pub Stops : ReplayFault → ℕ → List Task → PlayerView → PlayerView → Option (List ℕ) → Option (List ℕ) → Type 0
Stops fault line tasks v later a b = HasStopped fault (made_for line (steps_of_tasks tasks (playing_of v))) v.world later.world a b

-- it did nothing
pub does_nothing : (line : ℕ) (v : PlayerView) (bytes : Option (List ℕ)) → Does line [] v v bytes bytes
does_nothing line v bytes = record { plays = plays_nothing v.world bytes; is = refl }

-- the steps of tasks, and then those of others, from where a player is after the first
made_append : (line : ℕ) (xs ys : List Task) (p mid : Playing) → mid ≡ after_tasks xs p
    → made_for line (steps_of_tasks (xs ++ ys) p) ≡ made_for line (steps_of_tasks xs p) ++ made_for line (steps_of_tasks ys mid)
made_append line xs ys p mid is =
    ap (made_for line) (steps_append xs ys p) ∙ made_for_append line (steps_of_tasks xs p) (steps_of_tasks ys (after_tasks xs p))
    ∙ ap (λ q. made_for line (steps_of_tasks xs p) ++ made_for line (steps_of_tasks ys q)) (sym is)

-- it did some, and then was to do others
pub done_on : {T : Type 0} (result : Result T ReplayFault) (line : ℕ) (xs ys : List Task) (v mid later : PlayerView) (a b c : Option (List ℕ))
    → Does line xs v mid a b → HasDone result line ys mid later b c → HasDone result line (xs ++ ys) v later a c
done_on {T} result line xs ys v mid later a b c first more =
    let p : Playing = playing_of v in
    let last : after_tasks ys (playing_of mid) ≡ after_tasks (xs ++ ys) p = ap (after_tasks ys) first.is ∙ sym (after_append xs ys p) in
    let played : HasPlayed result (made_for line (steps_of_tasks (xs ++ ys) p)) (after_tasks ys (playing_of mid)) v later a c =
    played_on result (made_for line (steps_of_tasks xs p)) (made_for line (steps_of_tasks ys (playing_of mid)))
    (made_for line (steps_of_tasks (xs ++ ys) p)) (after_tasks xs p) (after_tasks ys (playing_of mid)) v mid later a b c
    (made_append line xs ys p (playing_of mid) first.is) first more in
    subst (λ q. HasPlayed result (made_for line (steps_of_tasks (xs ++ ys) p)) q v later a c) last played

-- it stopped while it did the first of them
pub stopped_early : (fault : ReplayFault) (line : ℕ) (xs ys : List Task) (v later : PlayerView) (a b : Option (List ℕ))
    → Stops fault line xs v later a b → Stops fault line (xs ++ ys) v later a b
stopped_early fault line xs ys v later a b stopped =
    let p : Playing = playing_of v in
    stopped_of_more fault (made_for line (steps_of_tasks xs p)) (made_for line (steps_of_tasks (xs ++ ys) p))
    (made_for line (steps_of_tasks ys (after_tasks xs p))) v.world later.world a b (made_append line xs ys p (after_tasks xs p) refl) stopped

-- it did some, and stopped while it did those after them
pub stopped_on : (fault : ReplayFault) (line : ℕ) (xs ys : List Task) (v mid later : PlayerView) (a b c : Option (List ℕ))
    → Does line xs v mid a b → Stops fault line ys mid later b c → Stops fault line (xs ++ ys) v later a c
stopped_on fault line xs ys v mid later a b c first stopped = done_on {T = Unit {0}} (Err fault) line xs ys v mid later a b c first stopped

-- of what is to be done for each number, it did that of one more
pub each_on : (line : ℕ) (tasks : ℕ → List Task) (k : ℕ) (v mid later : PlayerView) (a b c : Option (List ℕ))
    → Does line (for_each tasks k) v mid a b → Does line (tasks k) mid later b c → Does line (for_each tasks (k + 1)) v later a c
each_on line tasks k v mid later a b c first more =
    let next : k + 1 ≡ suc k = omega arith in
    subst (λ (n : ℕ). Does line (for_each tasks n) v later a c) (sym next)
    (done_on {T = Unit {0}} (Ok tt) line (for_each tasks k) (tasks k) v mid later a b c first more)

-- it stopped while it did that of one of them
pub each_stopped : (fault : ReplayFault) (line : ℕ) (tasks : ℕ → List Task) (k count : ℕ) (v mid later : PlayerView) (a b c : Option (List ℕ)) → k < count
    → Does line (for_each tasks k) v mid a b → Stops fault line (tasks k) mid later b c → Stops fault line (for_each tasks count) v later a c
each_stopped fault line tasks k count v mid later a b c below first stopped =
    let parts : Parts tasks k count = each_parts tasks k count below in
    subst (λ (all : List Task). Stops fault line all v later a c) (sym parts.are)
    (stopped_early fault line (for_each tasks k ++ tasks k) parts.later v later a c
    (stopped_on fault line (for_each tasks k) (tasks k) v mid later a b c first stopped))

-- it did that of all of them
pub each_all : (line : ℕ) (tasks : ℕ → List Task) (k count : ℕ) (v later : PlayerView) (a b : Option (List ℕ)) → k ≡ count
    → Does line (for_each tasks k) v later a b → Does line (for_each tasks count) v later a b
each_all line tasks k count v later a b all done = subst (λ (n : ℕ). Does line (for_each tasks n) v later a b) all done

-- a call that failed with this stopped there
pub if_stopped : {T : Type 0} (result : Result T ReplayFault) (fault : ReplayFault) (asked : List Made) (then : Playing) (v later : PlayerView) (a b : Option (List ℕ))
    → result ≡ Err fault → HasStopped fault asked v.world later.world a b → HasPlayed result asked then v later a b
if_stopped {T} result fault asked then v later a b failed stopped =
    subst (λ (r : Result T ReplayFault). HasPlayed r asked then v later a b) (sym failed) stopped

-- a call that failed with this stopped while it did that of one federate
pub each_failed : {T : Type 0} (result : Result T ReplayFault) (fault : ReplayFault) (line : ℕ) (tasks : ℕ → List Task) (k : ℕ) (v mid later : PlayerView) (a b c : Option (List ℕ))
    → result ≡ Err fault → k < count_in v → Does line (for_each tasks k) v mid a b → Stops fault line (tasks k) mid later b c
    → HasDone result line (for_each tasks (count_in v)) v later a c
each_failed result fault line tasks k v mid later a b c failed below first stopped =
    let all : List Task = for_each tasks (count_in v) in
    if_stopped result fault (made_for line (steps_of_tasks all (playing_of v))) (after_tasks all (playing_of v)) v later a c failed
    (each_stopped fault line tasks k (count_in v) v mid later a b c below first stopped)

-- the count of a world's federates, where the world is a player's
pub counted : (count : ℕ) (w : WorldView) (v : PlayerView) → count ≡ federate_count w.draft → w ≡ v.world → count ≡ count_in v
counted count w v count_is same = count_is ∙ ap (λ (world : WorldView). federate_count world.draft) same

-- a cursor was moved, and no step was made
pub skipped : (line : ℕ) (dir : Dir) (v later : PlayerView) (bytes : Option (List ℕ)) → later.world ≡ v.world
    → later.cursors ≡ moved_to v.cursors dir (sent_in (playing_of v) dir) → Does line (skips dir ∷ []) v later bytes bytes
skipped line dir v later bytes world cursors =
    record {
      plays = subst (λ w. Plays [] v.world w bytes bytes) (sym world) (plays_nothing v.world bytes);
      is =
          ap (λ w. let p : Playing = record { world = stations_of w; cursors = later.cursors } in p) world
          ∙ ap (λ c. let p : Playing = record { world = stations_of v.world; cursors = c } in p) cursors;
    }
