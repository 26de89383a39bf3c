-- A world in which nobody forgot, beside a run of the machine: how much is still to be done, and how it falls by each step.
use Rattle.std.proofs.Common.{◌≡◌, ℕ, zero, suc, ◌+◌, ◌<◌, ◌≤◌, inl, inr, Bool, true, false, List, [], ◌∷◌, ◌++◌, refl, sym, ap, subst, ◌∙◌, arith, if◌then◌else◌}
use Rattle.std.specs.Prelude.{nat_eq}
use Rattle.std.specs.List.{list_any}
use Rattle.std.proofs.lemmas.Bool.{cases_lt, or_parts, or_from}
use Rattle.network.specs.Tables.{IsLawfulWith}
use Rattle.plan.specs.declared.draft.Draft.{Draft}
use Rattle.plan.specs.declared.input.Input.{Input}
use Rattle.plan.specs.Federation.{federate_count}
use Rattle.plan.specs.Least.{least_of}
use Rattle.reactor_program.specs.Behaviour.{Behaviour}
use Rattle.plan_network.specs.Network.{network_of}
use Rattle.protocol.specs.Outcome.{Done}
use Rattle.protocol.specs.Machine.{Member, Move, ToCoordinator, ToFederate, Announce, Advance, Lose, outcome_of}
use Rattle.protocol_laws.proofs.Eligibility.{lawful_is_wired}
use Rattle.protocol_laws.proofs.SafeGrants.{widest_rule_is_safe}
use Rattle.node_cores.specs.FederateCore.{federate_core}
use Rattle.node_cores.specs.CoordinatorCore.{coordinator_core}
use Rattle.link_laws.specs.Link.{Link}
use Rattle.world_stations.specs.declared.limits.TheConstants.{LINK_ROOM}
use Rattle.world_stations.specs.declared.step.Step.{Step}
use Rattle.world_stations.specs.World.{does}
use Rattle.world_stations.specs.Kept.{is_forget}
use Rattle.world_stations.specs.Federation.{Federation, IsHarmless, initial_world, step_in, world_after}
use Rattle.world_stations.proofs.Moves.{rule_of}
use Rattle.world_stations.proofs.Runs.{IsRun}
use Rattle.world_stations.proofs.Shown.{shown_listed}
use Rattle.world_stations.proofs.Steps.{members_after}
use Rattle.world_stations.proofs.Worlds.{step_goes, open_link, initial_run, one_more}
use Rattle.world_progress.specs.Fuel.{sum_below, fuel_of}
use Rattle.world_progress.specs.Worth.{left_of}
use Rattle.world_progress.specs.Runs.{IsOfMember, AreOfMembers, takes, is_done}
use Rattle.world_progress.proofs.Sums.{where_so, at_one, sum_at_most, sum_same, sum_plus, sum_of_each, sum_of_one_at_most}
use Rattle.world_progress.proofs.SparingGrants.{widest_is_sparing}
use Rattle.world_progress.proofs.Moves.{move_costs}
use Rattle.world_progress.proofs.Runs.{initial_left, made_costs}
use Rattle.world_progress.proofs.Ending.{nobody_lost}
use Rattle.world_progress.proofs.Walking.{takes_up, takes_down, IsOfOne, IsActed, stays, moves_on, walks}
use Rattle.world_progress.proofs.Growing.{Grown, links_grown, links_take}

-- one of the numbers of a sum
pub sum_has : (count : ℕ) (f : ℕ → ℕ) (j : ℕ) → j < count → f j ≤ sum_below count f
sum_has zero f j l = absurd (omega arith)
sum_has (suc count) f j l = elim (cases_lt j count) [
  | inl less ↦ let more = sum_has count f j less in omega arith
  | inr last ↦ let same : j ≡ count = omega arith in let here : f j ≡ f count = ap f same in omega arith
]

-- where no number falls and the sum stays, each number stays
pub each_same : (count : ℕ) (f g : ℕ → ℕ) → ((j : ℕ) → j < count → f j ≤ g j) → sum_below count g ≤ sum_below count f → (j : ℕ) → j < count → g j ≡ f j
each_same zero f g h e j l = absurd (omega arith)
each_same (suc count) f g h e j l =
    let others = sum_at_most count f g (λ k m. h k (omega arith)) in
    let last = h count (omega arith) in
    elim (cases_lt j count) [
      | inl less ↦ each_same count f g (λ k m. h k (omega arith)) (omega arith) j less
      | inr beyond ↦
          let same : count ≡ j = omega arith in
          let here : g count ≡ f count = omega arith in
          let P : ℕ → Type 0 = λ x. g x ≡ f x in
          subst P same here
    ]

-- what all ends took, and what all know to be taken
abbrev pub taken_of_link : Link → ℕ
taken_of_link l = l.first.end.taken + l.second.end.taken

abbrev pub acknowledged_of_link : Link → ℕ
acknowledged_of_link l = l.first.end.acknowledged + l.second.end.acknowledged

abbrev pub all_taken : ℕ → (ℕ → Link) → ℕ
all_taken count links = sum_below count (λ j. taken_of_link (links j))

abbrev pub all_acknowledged : ℕ → (ℕ → Link) → ℕ
all_acknowledged count links = sum_below count (λ j. acknowledged_of_link (links j))

-- such a world: the steps that led to it, and the links and moves beside it. What was taken and what is left are no more than there
-- was to do
pub record Reached (d : Draft) (programs : List Behaviour) (inputs : List Input) (w : Federation) : Type 0 where
  pub steps : List Step
  pub is : w ≡ world_after d programs inputs steps
  pub unforgot : list_any is_forget steps ≡ false
  pub links : ℕ → Link
  pub moves : List Move
  pub run : IsRun d programs inputs w links (members_after d programs inputs moves)
  pub there : AreOfMembers (network_of d programs inputs) moves
  pub rooms : (j : ℕ) → j < federate_count d → ((links j).first.end.room ≡ LINK_ROOM) × ((links j).second.end.room ≡ LINK_ROOM)
  pub spent : all_taken (federate_count d) links + left_of (network_of d programs inputs) (members_after d programs inputs moves) ≤ fuel_of (network_of d programs inputs)

-- signals taken, and what is left to do: no step makes it more
abbrev pub ahead : (d : Draft) (programs : List Behaviour) (inputs : List Input) (w : Federation) → Reached d programs inputs w → ℕ
ahead d programs inputs w r = all_taken (federate_count d) r.links + left_of (network_of d programs inputs) (members_after d programs inputs r.moves)

-- signals acknowledged: no step makes it less
abbrev pub acked : (d : Draft) (programs : List Behaviour) (inputs : List Input) (w : Federation) → Reached d programs inputs w → ℕ
acked d programs inputs w r = all_acknowledged (federate_count d) r.links

-- a world after a step of such a world
pub record Next (d : Draft) (programs : List Behaviour) (inputs : List Input) (w : Federation) (r : Reached d programs inputs w) (step : Step) : Type 0 where
  pub now : Reached d programs inputs (step_in w step).world
  pub ahead_falls : ahead d programs inputs (step_in w step).world now ≤ ahead d programs inputs w r
  pub grown : (j : ℕ) → Grown (r.links j).first (now.links j).first × Grown (r.links j).second (now.links j).second
  pub same : ahead d programs inputs w r ≤ ahead d programs inputs (step_in w step).world now → now.moves ≡ r.moves
  pub harmless : IsHarmless (step_in w step).outcome

-- a world is such a one at first
pub initial_reached : (d : Draft) (programs : List Behaviour) (inputs : List Input) → Reached d programs inputs (initial_world d programs inputs)
initial_reached d programs inputs =
    let left = initial_left (network_of d programs inputs) in
    let none = sum_same (federate_count d) (λ j. taken_of_link (open_link j)) (λ j. 0) (λ j l. refl) in
    let all = sum_of_each 0 (federate_count d) in
    record {
      steps = [];
      is = refl;
      links = open_link;
      moves = [];
      run = initial_run d programs inputs;
      there = tt;
      rooms = λ j l. (refl, refl);
      unforgot = refl;
      spent = omega arith;
    }

-- nobody forgets by one more step
any_more : (steps : List Step) (step : Step) → list_any is_forget steps ≡ false → is_forget step ≡ false → list_any is_forget (steps ++ step ∷ []) ≡ false
any_more [] step none not_this = or_from (is_forget step) false not_this refl
any_more (first ∷ rest) step none not_this =
    let both = or_parts (is_forget first) (list_any is_forget rest) none in
    or_from (is_forget first) (list_any is_forget (rest ++ step ∷ [])) both.0 (any_more rest step both.1 not_this)

-- the list of steps is no part of what stands
run_listed : (d : Draft) (programs : List Behaviour) (inputs : List Input) (w : Federation) (links : ℕ → Link) (members : ℕ → Member) (steps : List Step) → IsRun d programs inputs w links members → IsRun d programs inputs (record w { steps = steps }) links members
run_listed d programs inputs w links members steps r =
    record { shown = shown_listed w (federate_count d) links steps r.shown; draft = r.draft; size = r.size; federate_records = r.federate_records; site = λ j l s there. r.site j l s there }

-- what a move takes, in sum
one_up : (b : Bool) → (if b then 1 else 0) + 0 ≤ where_so b 1
one_up true = omega arith
one_up false = omega arith

one_down : (b : Bool) → 0 + (if b then 1 else 0) ≤ where_so b 1
one_down true = omega arith
one_down false = omega arith

takes_all : (count : ℕ) (move : Move) → sum_below count (λ j. takes_up move j + takes_down move j) ≤ takes move
takes_all count (ToCoordinator i) =
    let few = sum_at_most count (λ j. takes_up (ToCoordinator i) j + takes_down (ToCoordinator i) j) (at_one i 1) (λ j l. one_up (nat_eq j i)) in
    let one = sum_of_one_at_most i 1 count in
    omega arith
takes_all count (ToFederate i) =
    let few = sum_at_most count (λ j. takes_up (ToFederate i) j + takes_down (ToFederate i) j) (at_one i 1) (λ j l. one_down (nat_eq j i)) in
    let one = sum_of_one_at_most i 1 count in
    omega arith
takes_all count (Announce i) =
    let few = sum_at_most count (λ j. takes_up (Announce i) j + takes_down (Announce i) j) (λ j. 0) (λ j l. omega arith) in
    let none = sum_of_each 0 count in
    omega arith
takes_all count (Advance i) =
    let few = sum_at_most count (λ j. takes_up (Advance i) j + takes_down (Advance i) j) (λ j. 0) (λ j l. omega arith) in
    let none = sum_of_each 0 count in
    omega arith
takes_all count (Lose i) =
    let few = sum_at_most count (λ j. takes_up (Lose i) j + takes_down (Lose i) j) (λ j. 0) (λ j l. omega arith) in
    let none = sum_of_each 0 count in
    omega arith

of_member : (d : Draft) (programs : List Behaviour) (inputs : List Input) (move : Move) → IsOfOne (federate_count d) move → IsOfMember (network_of d programs inputs) move
of_member d programs inputs (ToCoordinator i) l = l
of_member d programs inputs (ToFederate i) l = l
of_member d programs inputs (Announce i) l = l
of_member d programs inputs (Advance i) l = l
of_member d programs inputs (Lose i) l = l

-- a sum of what is taken rises by what is taken
taken_rises : (links after : ℕ → Link) (count : ℕ) (ups downs : ℕ → ℕ) → IsActed links after count ups downs → all_taken count after ≤ all_taken count links + sum_below count (λ j. ups j + downs j)
taken_rises links after count ups downs acts =
    let split = sum_plus count (λ j. taken_of_link (links j)) (λ j. ups j + downs j) in
    let each = sum_at_most count (λ j. taken_of_link (after j)) (λ j. taken_of_link (links j) + (ups j + downs j))
    (λ j l. (let both = links_take links after count ups downs acts j l in omega (arith, both.0, both.1))) in
    omega arith

taken_stays : (links after : ℕ → Link) (count : ℕ) → IsActed links after count (λ j. 0) (λ j. 0) → all_taken count after ≤ all_taken count links
taken_stays links after count acts =
    sum_at_most count (λ j. taken_of_link (after j)) (λ j. taken_of_link (links j))
    (λ j l. (let both = links_take links after count (λ j. 0) (λ j. 0) acts j l in omega (arith, both.0, both.1)))

rooms_stay : (links after : ℕ → Link) (count : ℕ) → ((j : ℕ) → Grown (links j).first (after j).first × Grown (links j).second (after j).second) → ((j : ℕ) → j < count → ((links j).first.end.room ≡ LINK_ROOM) × ((links j).second.end.room ≡ LINK_ROOM))
    → (j : ℕ) → j < count → ((after j).first.end.room ≡ LINK_ROOM) × ((after j).second.end.room ≡ LINK_ROOM)
rooms_stay links after count grown rooms j l = let g = grown j in let r = rooms j l in (g.0.room ∙ r.0, g.1.room ∙ r.1)

-- what is left falls by a move
left_falls : (d : Draft) (programs : List Behaviour) (inputs : List Input) (moves : List Move) (move : Move) (made : ℕ → Member) → IsLawfulWith (network_of d programs inputs) (least_of d) → IsOfMember (network_of d programs inputs) move
    → outcome_of (network_of d programs inputs) (rule_of d programs inputs) (members_after d programs inputs moves) move ≡ Done made
    → left_of (network_of d programs inputs) (members_after d programs inputs (move ∷ moves)) + (1 + takes move) ≤ left_of (network_of d programs inputs) (members_after d programs inputs moves)
left_falls d programs inputs moves move made lawful of is =
    let n = network_of d programs inputs in
    let rules = (λ (k : ℕ). rule_of d programs inputs) in
    let wired = lawful_is_wired n lawful.lawful in
    let cost = move_costs n (least_of d) rules lawful.lawful lawful.facts (λ k. widest_rule_is_safe n (least_of d) wired) (λ k. widest_is_sparing n (least_of d) wired) moves move of in
    let all = made_costs n (takes move) (members_after d programs inputs moves) (outcome_of n (rule_of d programs inputs) (members_after d programs inputs moves) move) cost in
    by_done (takes move) (is_done (outcome_of n (rule_of d programs inputs) (members_after d programs inputs moves) move)) (left_of n (members_after d programs inputs (move ∷ moves))) (left_of n (members_after d programs inputs moves)) (ap is_done is) all
  where
    by_done : (taken : ℕ) (b : Bool) (after before : ℕ) → b ≡ true → where_so b 1 + (where_so b taken + after) ≤ before → after + (1 + taken) ≤ before
    by_done taken true after before e h = omega arith
    by_done taken false after before e h = cc

-- one more step
pub next : (d : Draft) (programs : List Behaviour) (inputs : List Input) → IsLawfulWith (network_of d programs inputs) (least_of d) → (w : Federation) (r : Reached d programs inputs w) (step : Step) → is_forget step ≡ false → Next d programs inputs w r step
next d programs inputs lawful w r step not_forget =
    let n = network_of d programs inputs in
    let made = does coordinator_core federate_core w step in
    let g = walks d programs inputs w r.links r.moves step lawful not_forget (nobody_lost (network_of d programs inputs) (λ k. rule_of d programs inputs) r.moves r.there) r.run in
    let harmless = (step_goes d programs inputs w r.links r.moves step lawful r.run).harmless in
    let run = run_listed d programs inputs made.world g.links (members_after d programs inputs g.moved) (made.world.steps ++ step ∷ []) g.run in
    let is : (step_in w step).world ≡ world_after d programs inputs (r.steps ++ step ∷ []) = ap (λ (x : Federation). (step_in x step).world) r.is ∙ sym (one_more d programs inputs r.steps step) in
    let unforgot = any_more r.steps step r.unforgot not_forget in
    let spent = r.spent in
    elim g.change [
      | stays same acts ↦
          let grown = links_grown r.links g.links (federate_count d) (λ j. 0) (λ j. 0) acts in
          let taken = taken_stays r.links g.links (federate_count d) acts in
          let left : left_of (network_of d programs inputs) (members_after d programs inputs g.moved) ≡ left_of (network_of d programs inputs) (members_after d programs inputs r.moves) = ap (λ (x : List Move). left_of (network_of d programs inputs) (members_after d programs inputs x)) same in
          let P : List Move → Type 0 = λ x. AreOfMembers n x in
          record {
            now = record { steps = r.steps ++ step ∷ []; is = is; unforgot = unforgot; links = g.links; moves = g.moved; run = run; there = subst P (sym same) r.there; rooms = rooms_stay r.links g.links (federate_count d) grown r.rooms; spent = omega arith };
            ahead_falls = omega arith;
            grown = grown;
            same = λ h. same;
            harmless = harmless;
          }
      | moves_on move made_then of is_made same acts ↦
          let grown = links_grown r.links g.links (federate_count d) (takes_up move) (takes_down move) acts in
          let taken = taken_rises r.links g.links (federate_count d) (takes_up move) (takes_down move) acts in
          let some = takes_all (federate_count d) move in
          let of_it = of_member d programs inputs move of in
          let falls = left_falls d programs inputs r.moves move made_then lawful of_it is_made in
          let left : left_of (network_of d programs inputs) (members_after d programs inputs g.moved) ≡ left_of (network_of d programs inputs) (members_after d programs inputs (move ∷ r.moves)) = ap (λ (x : List Move). left_of (network_of d programs inputs) (members_after d programs inputs x)) same in
          let P : List Move → Type 0 = λ x. AreOfMembers n x in
          record {
            now = record { steps = r.steps ++ step ∷ []; is = is; unforgot = unforgot; links = g.links; moves = g.moved; run = run; there = subst P (sym same) (of_it, r.there); rooms = rooms_stay r.links g.links (federate_count d) grown r.rooms; spent = omega arith };
            ahead_falls = omega arith;
            grown = grown;
            same = λ h. absurd (omega arith);
            harmless = harmless;
          }
    ]
