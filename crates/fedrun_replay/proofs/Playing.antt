-- Steps that are made one after the other, and what is printed of them.
use Rattle.std.proofs.Common.{◌≡◌, ℕ, List, [], ◌∷◌, ◌++◌, Option, Result, Ok, Err, OnOk, IfErr, refl, sym, ap, ◌∙◌, subst, append_assoc, append-nil}
use Rattle.std.proofs.lemmas.List.{map-append}
use Rattle.std.specs.Io.KnownBytes.{Appends}
use Rattle.std.proofs.KnownBytes.{Appends-nil, Appends-trans}
use Rattle.node_cores.specs.FederateCore.{federate_core}
use Rattle.node_cores.specs.CoordinatorCore.{coordinator_core}
use Rattle.world_stations.specs.declared.step.Step.{Step}
use Rattle.world_stations.specs.declared.outcome.Outcome.{Outcome}
use Rattle.world_stations.specs.World.{after_steps}
use Rattle.world_stations.specs.Federation.{Federation, initial_world, step_in}
use Rattle.world_progress.specs.Rounds.{Playing, with_made}
use Rattle.world_progress.proofs.TaskLists.{world_after_append}
use Rattle.world.specs.World.{WorldView, stations_of, with_step, with_steps}
use Rattle.fedrun_replay.specs.declared.fault.ReplayFault.{ReplayFault}
use Rattle.fedrun_replay.specs.declared.fault.ReplayFault.TheVariants.{World, CannotWrite}
use Rattle.fedrun_replay.specs.Play.{PlayerView, playing_of, Made, made_for, steps_of, told, refusals, Plays, PlaysSome, HasMade, HasStopped, HasPlayed, HasTried}

-- the world after these steps from another
abbrev after : Federation → List Step → Federation
after w steps = after_steps coordinator_core federate_core w steps

refusals_append : (w : Federation) (first then : List Made) → refusals w (first ++ then) ≡ refusals w first ++ refusals (after w (steps_of first)) then
refusals_append w [] then = refl
refusals_append w (made ∷ rest) then =
    let here : List ℕ = told made.line (step_in w made.step).outcome in
    let next : Federation = (step_in w made.step).world in
    ap (λ text. here ++ text) (refusals_append next rest then) ∙ sym (append_assoc here (refusals next rest) (refusals (after next (steps_of rest)) then))

-- a world after further steps
pub stations_after : (w : WorldView) (steps : List Step) → stations_of (with_steps w steps) ≡ after (stations_of w) steps
stations_after w steps = world_after_append (initial_world w.draft w.programs w.inputs) w.steps steps

-- the steps made for a line
pub steps_made_for : (line : ℕ) (steps : List Step) → steps_of (made_for line steps) ≡ steps
steps_made_for line [] = refl
steps_made_for line (step ∷ rest) = ap (λ more. step ∷ more) (steps_made_for line rest)

pub made_for_append : (line : ℕ) (first then : List Step) → made_for line (first ++ then) ≡ made_for line first ++ made_for line then
made_for_append line first then = map-append (λ (step : Step). let made : Made = record { line = line; step = step } in made) first then

-- no step was made
pub plays_nothing : (w : WorldView) (bytes : Option (List ℕ)) → Plays [] w w bytes bytes
plays_nothing w bytes = record {
  later_is = ap (λ steps. record w { steps = steps }) (sym (append-nil w.steps));
  printed = Appends-nil bytes;
}

-- and then further ones
pub plays_on :
    (xs ys : List Made) (w mid later : WorldView) (a b c : Option (List ℕ)) → Plays xs w mid a b → Plays ys mid later b c → Plays (xs ++ ys) w later a c
plays_on xs ys w mid later a b c first then =
    let stations : stations_of mid ≡ after (stations_of w) (steps_of xs) =
    ap stations_of first.later_is ∙ stations_after w (steps_of xs) in
    let text : refusals (stations_of w) (xs ++ ys) ≡ refusals (stations_of w) xs ++ refusals (stations_of mid) ys =
    refusals_append (stations_of w) xs ys ∙ ap (λ v. refusals (stations_of w) xs ++ refusals v ys) (sym stations) in
    let steps : (w.steps ++ steps_of xs) ++ steps_of ys ≡ w.steps ++ steps_of (xs ++ ys) =
    append_assoc w.steps (steps_of xs) (steps_of ys) ∙ ap (λ (s : List Step). w.steps ++ s) (sym (map-append (λ (m : Made). m.step) xs ys)) in
    record {
      later_is = then.later_is ∙ ap (λ v. with_steps v (steps_of ys)) first.later_is ∙ ap (λ (s : List Step). record w { steps = s }) steps;
      printed = subst (Appends a c) (sym text) (Appends-trans a b c _ _ first.printed then.printed);
    }

-- one step was made, and what is to be printed of it was printed
plays_one :
    (w later : WorldView) (line : ℕ) (step : Step) (outcome : Outcome) (a b : Option (List ℕ)) → later ≡ with_step w step →
    outcome ≡ (step_in (stations_of w) step).outcome → Appends a b (told line outcome) → Plays (made_for line (step ∷ [])) w later a b
plays_one w later line step outcome a b later_is ended printed = record {
  later_is = later_is;
  printed = subst (Appends a b) (ap (told line) ended ∙ sym (append-nil (told line (step_in (stations_of w) step).outcome))) printed;
}

-- the first of what was to be made after others
pub some_on :
    (xs ys : List Made) (w mid later : WorldView) (a b c : Option (List ℕ)) → Plays xs w mid a b → PlaysSome ys mid later b c → PlaysSome (xs ++ ys) w later a c
some_on xs ys w mid later a b c first then = record {
  made = xs ++ then.made;
  unmade = then.unmade;
  first = ap (λ more. xs ++ more) then.first ∙ sym (append_assoc xs then.made then.unmade);
  plays = plays_on xs then.made w mid later a b c first then.plays;
}

-- the first of what was to be made are the first of that and of more
pub some_of_more :
    (asked all more : List Made) (w later : WorldView) (a b : Option (List ℕ)) → all ≡ asked ++ more → PlaysSome asked w later a b → PlaysSome all w later a b
some_of_more asked all more w later a b e some = record {
  made = some.made;
  unmade = some.unmade ++ more;
  first = e ∙ ap (λ front. front ++ more) some.first ∙ append_assoc some.made some.unmade more;
  plays = some.plays;
}

-- none of it was made
pub some_of_none : (asked : List Made) (w : WorldView) (bytes : Option (List ℕ)) → PlaysSome asked w w bytes bytes
some_of_none asked w bytes = record { made = []; unmade = asked; first = refl; plays = plays_nothing w bytes }

-- where the steps that a player made are these, its world and cursors are those after them
pub made_is : (asked : List Made) (v later : PlayerView) (a b : Option (List ℕ)) (steps : List Step) → steps_of asked ≡ steps → later.cursors ≡ v.cursors
    → Plays asked v.world later.world a b → playing_of later ≡ with_made (playing_of v) steps
made_is asked v later a b steps are same plays =
    let world : stations_of later.world ≡ after (stations_of v.world) steps =
    ap stations_of plays.later_is ∙ stations_after v.world (steps_of asked) ∙ ap (after (stations_of v.world)) are in
    ap (λ w. let p : Playing = record { world = w; cursors = later.cursors } in p) world
    ∙ ap (λ c. let p : Playing = record { world = after (stations_of v.world) steps; cursors = c } in p) same

-- a player made steps, and then was to make others
pub played_on : {T : Type 0} (result : Result T ReplayFault) (xs ys all : List Made) (then last : Playing) (v mid later : PlayerView) (a b c : Option (List ℕ))
    → all ≡ xs ++ ys → HasMade xs then v mid a b → HasPlayed result ys last mid later b c → HasPlayed result all last v later a c
played_on {T} (Ok done) xs ys all then last v mid later a b c e first more = record {
  plays = subst (λ made. Plays made v.world later.world a c) (sym e) (plays_on xs ys v.world mid.world later.world a b c first.plays more.plays);
  is = more.is;
}
played_on (Err (World memory)) xs ys all then last v mid later a b c e first more =
    subst (λ made. PlaysSome made v.world later.world a c) (sym e) (some_on xs ys v.world mid.world later.world a b c first.plays more)
played_on (Err CannotWrite) xs ys all then last v mid later a b c e first more = tt

-- a player that stopped was to make more than it was to make by then
pub stopped_of_more : (fault : ReplayFault) (asked all more : List Made) (w later : WorldView) (a b : Option (List ℕ)) → all ≡ asked ++ more
    → HasStopped fault asked w later a b → HasStopped fault all w later a b
stopped_of_more (World memory) asked all more w later a b e stopped = some_of_more asked all more w later a b e stopped
stopped_of_more CannotWrite asked all more w later a b e stopped = tt

-- a step was made, and what is to be printed of it was printed with this result
pub played_one : {T : Type 0} (result : Result T ReplayFault) (v later : PlayerView) (line : ℕ) (step : Step) (outcome : Outcome) (a b : Option (List ℕ))
    → later.world ≡ with_step v.world step → later.cursors ≡ v.cursors → outcome ≡ (step_in (stations_of v.world) step).outcome
    → OnOk result (Appends a b (told line outcome)) → IfErr result (λ fault. fault ≡ CannotWrite) → HasTried result line (step ∷ []) v later a b
played_one (Ok done) v later line step outcome a b later_is same ended ok err =
    let plays : Plays (made_for line (step ∷ [])) v.world later.world a b = plays_one v.world later.world line step outcome a b later_is ended ok in
    record { plays = plays; is = made_is (made_for line (step ∷ [])) v later a b (step ∷ []) refl same plays }
played_one {T} (Err fault) v later line step outcome a b later_is same ended ok err =
    subst (λ f. HasTried {T = T} (Err f) line (step ∷ []) v later a b) (sym err) tt
