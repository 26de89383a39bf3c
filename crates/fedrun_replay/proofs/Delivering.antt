-- Frames of a direction that come one after the other.
use Rattle.std.proofs.Common.{◌≡◌, ℕ, ◌+◌, ◌-◌, ◌<◌, ◌≤◌, List, [], ◌∷◌, ◌++◌, Option, Result, Ok, Err, refl, sym, ap, ◌∙◌, subst, append-nil, arith}
use Rattle.world_stations.specs.declared.dir.Dir.{Dir}
use Rattle.world_stations.specs.declared.step.Step.{Step}
use Rattle.world_stations.specs.declared.step.Step.TheVariants.{Deliver}
use Rattle.world_stations.specs.Federation.{Federation}
use Rattle.world_progress.specs.Rounds.{Playing, brings, delivers, waiting, with_made, with_cursor, moved_to, sent_in}
use Rattle.world_progress.proofs.TaskLists.{delivers_append, world_after_append}
use Rattle.world.specs.World.{stations_of}
use Rattle.fedrun_replay.specs.declared.fault.ReplayFault.{ReplayFault}
use Rattle.fedrun_replay.specs.Play.{PlayerView, playing_of, made_for, Plays, HasMade, HasStopped, HasPlayed, HasTried}
use Rattle.fedrun_replay.proofs.Playing.{plays_nothing, made_for_append, played_on, stopped_of_more}
use Rattle.fedrun_replay.proofs.Doing.{Does, Stops}

-- a player made these steps for a line, and moved no cursor
abbrev pub Tries : ℕ → List Step → PlayerView → PlayerView → Option (List ℕ) → Option (List ℕ) → Type 0
Tries line steps v later a b = HasMade (made_for line steps) (with_made (playing_of v) steps) v later a b

-- this many frames, and then the next
delivers_next : (dir : Dir) (from gone : ℕ) → from ≤ gone → delivers dir from (gone + 1 - from) ≡ delivers dir from (gone - from) ++ Deliver dir (gone + 1) ∷ []
delivers_next dir from gone within =
    let count : gone + 1 - from ≡ (gone - from) + 1 = omega arith in
    let last : from + (gone - from) ≡ gone = omega arith in
    ap (delivers dir from) count ∙ delivers_append dir from (gone - from) 1
    ∙ ap (λ before. delivers dir from (gone - from) ++ Deliver dir (before + 1) ∷ []) last

-- and then those after it
delivers_parts : (dir : Dir) (from gone sent : ℕ) → from ≤ gone → gone < sent
    → delivers dir from (sent - from) ≡ delivers dir from (gone + 1 - from) ++ delivers dir (gone + 1) (sent - (gone + 1))
delivers_parts dir from gone sent within below =
    let count : sent - from ≡ (gone + 1 - from) + (sent - (gone + 1)) = omega arith in
    let last : from + (gone + 1 - from) ≡ gone + 1 = omega arith in
    ap (delivers dir from) count ∙ delivers_append dir from (gone + 1 - from) (sent - (gone + 1))
    ∙ ap (λ before. delivers dir from (gone + 1 - from) ++ delivers dir before (sent - (gone + 1))) last

-- no frame came yet
pub tried_none : (line : ℕ) (dir : Dir) (from : ℕ) (v : PlayerView) (bytes : Option (List ℕ)) → Tries line (delivers dir from (from - from)) v v bytes bytes
tried_none line dir from v bytes =
    let none : from - from ≡ 0 = omega arith in
    subst (λ (n : ℕ). Tries line (delivers dir from n) v v bytes bytes) (sym none) (record { plays = plays_nothing v.world bytes; is = refl })

-- steps were made, and then others were to be made
tried_on : {T : Type 0} (result : Result T ReplayFault) (line : ℕ) (xs ys : List Step) (v mid later : PlayerView) (a b c : Option (List ℕ))
    → Tries line xs v mid a b → HasTried result line ys mid later b c → HasTried result line (xs ++ ys) v later a c
tried_on {T} result line xs ys v mid later a b c first more =
    let p : Playing = playing_of v in
    let last : with_made (playing_of mid) ys ≡ with_made p (xs ++ ys) =
    ap (λ (q : Playing). with_made q ys) first.is ∙ ap (λ (w : Federation). record p { world = w }) (sym (world_after_append p.world xs ys)) in
    let played : HasPlayed result (made_for line (xs ++ ys)) (with_made (playing_of mid) ys) v later a c =
    played_on result (made_for line xs) (made_for line ys) (made_for line (xs ++ ys)) (with_made p xs) (with_made (playing_of mid) ys) v mid later a b c
    (made_for_append line xs ys) first more in
    subst (λ (q : Playing). HasPlayed result (made_for line (xs ++ ys)) q v later a c) last played

-- one more frame came
pub tried_next : (line : ℕ) (dir : Dir) (from gone : ℕ) (v mid later : PlayerView) (a b c : Option (List ℕ)) → from ≤ gone
    → Tries line (delivers dir from (gone - from)) v mid a b → Tries line (Deliver dir (gone + 1) ∷ []) mid later b c
    → Tries line (delivers dir from (gone + 1 - from)) v later a c
tried_next line dir from gone v mid later a b c within first more =
    subst (λ (steps : List Step). Tries line steps v later a c) (sym (delivers_next dir from gone within))
    (tried_on {T = Unit {0}} (Ok tt) line (delivers dir from (gone - from)) (Deliver dir (gone + 1) ∷ []) v mid later a b c first more)

-- there was no memory for one of them
pub tried_stopped : (fault : ReplayFault) (line : ℕ) (dir : Dir) (from gone sent : ℕ) (v mid later : PlayerView) (a b c : Option (List ℕ)) → from ≤ gone → gone < sent
    → Tries line (delivers dir from (gone - from)) v mid a b → HasStopped fault (made_for line (Deliver dir (gone + 1) ∷ [])) mid.world later.world b c
    → HasStopped fault (made_for line (delivers dir from (sent - from))) v.world later.world a c
tried_stopped fault line dir from gone sent v mid later a b c within below first stopped =
    let by_then : List Step = delivers dir from (gone + 1 - from) in
    let rest : List Step = delivers dir (gone + 1) (sent - (gone + 1)) in
    let one : HasStopped fault (made_for line (delivers dir from (gone - from) ++ Deliver dir (gone + 1) ∷ [])) v.world later.world a c =
    tried_on {T = Unit {0}} (Err fault) line (delivers dir from (gone - from)) (Deliver dir (gone + 1) ∷ []) v mid later a b c first stopped in
    stopped_of_more fault (made_for line by_then) (made_for line (delivers dir from (sent - from))) (made_for line rest) v.world later.world a c
    (ap (made_for line) (delivers_parts dir from gone sent within below) ∙ made_for_append line by_then rest)
    (subst (λ (steps : List Step). HasStopped fault (made_for line steps) v.world later.world a c) (sym (delivers_next dir from gone within)) one)

-- all of them came
pub tried_all : (line : ℕ) (dir : Dir) (from gone sent : ℕ) (v later : PlayerView) (a b : Option (List ℕ)) → gone - from ≡ sent - from
    → Tries line (delivers dir from (gone - from)) v later a b → Tries line (delivers dir from (sent - from)) v later a b
tried_all line dir from gone sent v later a b all made = subst (λ (n : ℕ). Tries line (delivers dir from n) v later a b) all made

-- those of a direction above its cursor came, and the cursor was moved
pub brought : (line : ℕ) (dir : Dir) (sent : ℕ) (v mid later : PlayerView) (a b : Option (List ℕ)) → sent ≡ sent_in (playing_of v) dir
    → later.world ≡ mid.world → later.cursors ≡ moved_to mid.cursors dir sent → Tries line (waiting (playing_of v) dir) v mid a b
    → Does line (brings dir ∷ []) v later a b
brought line dir sent v mid later a b count world cursors made =
    let p : Playing = playing_of v in
    let moved : playing_of later ≡ with_cursor (playing_of mid) dir sent =
    ap (λ w. let q : Playing = record { world = stations_of w; cursors = later.cursors } in q) world
    ∙ ap (λ c. let q : Playing = record { world = stations_of mid.world; cursors = c } in q) cursors in
    record {
      plays =
          subst (λ (steps : List Step). Plays (made_for line steps) v.world later.world a b) (sym (append-nil (waiting p dir)))
          (subst (λ w. Plays (made_for line (waiting p dir)) v.world w a b) (sym world) made.plays);
      is = moved ∙ ap (λ (q : Playing). with_cursor q dir sent) made.is ∙ ap (with_cursor (with_made p (waiting p dir)) dir) count;
    }

-- there was no memory for one of them
pub brought_stopped : (fault : ReplayFault) (line : ℕ) (dir : Dir) (v later : PlayerView) (a b : Option (List ℕ))
    → HasStopped fault (made_for line (waiting (playing_of v) dir)) v.world later.world a b → Stops fault line (brings dir ∷ []) v later a b
brought_stopped fault line dir v later a b stopped =
    subst (λ (steps : List Step). HasStopped fault (made_for line steps) v.world later.world a b) (sym (append-nil (waiting (playing_of v) dir))) stopped
