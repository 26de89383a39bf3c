-- What a federation's disks keep, and what its processes have: by the laws of its worlds, since both are worlds after
-- steps by which nobody forgets.
use Rattle.std.proofs.Common.{◌≡◌, ◌≢◌, inl, inr, ℕ, ◌<◌, Bool, true, false, if◌then◌else◌, List, [], ◌∷◌, ◌++◌}
use Rattle.std.proofs.Common.{slice_get, refl, sym, ◌∙◌, ap, subst, Option, None, Some, arith}
use Rattle.std.specs.Prelude.{nat_lt, All}
use Rattle.std.specs.List.{list_any}
use Rattle.std.proofs.lemmas.Bool.Decides.{nat_tests}
use Rattle.std.proofs.lemmas.List.Elements.{All-nil}
use Rattle.network.specs.Tables.{IsLawfulWith}
use Rattle.network.specs.Undivided.{Row}
use Rattle.signal.specs.declared.signal.Signal.{Signal}
use Rattle.link.specs.Image.{Image}
use Rattle.plan.specs.declared.draft.Draft.{Draft}
use Rattle.plan.specs.declared.input.Input.{Input}
use Rattle.plan.specs.Federation.{federate_count}
use Rattle.plan.specs.Least.{least_of}
use Rattle.reactor_program.specs.Behaviour.{Behaviour}
use Rattle.plan_network.specs.Network.{network_of}
use Rattle.protocol_laws.specs.Rows.{HasEveryRow}
use Rattle.node.specs.declared.node_id.NodeId.{NodeId}
use Rattle.node.specs.declared.node_id.NodeId.TheVariants.{Coordinator, Federate}
use Rattle.node.specs.Step.{Station}
use Rattle.node_cores.specs.FederateCore.{FederateNode, federate_core}
use Rattle.node_cores.specs.CoordinatorCore.{CoordinatorNode, coordinator_core}
use Rattle.world_stations.specs.declared.dir.Dir.TheVariants.{Down}
use Rattle.world_stations.specs.declared.step.Step.{Step}
use Rattle.world_stations.specs.World.{Applied, Occurrence, occurrence_of, outcome_of}
use Rattle.world_stations.specs.Taken.{own_end, number_taken, brought_by, newly_taken}
use Rattle.world_stations.specs.Kept.{is_forget, is_kept}
use Rattle.world_stations.specs.Federation.{Federation, initial_world, world_after, step_in, rows_at, IsHarmless}
use Rattle.world_stations.specs.Federation.{IsLaterThan, TakesNothingLate, IsPrefix, IsWhole, IsStuck}
use Rattle.world_stations.proofs.Rows as rows
use Rattle.world_stations.proofs.Rows.{rows_begin, stuck_rows, finished_rows}
use Rattle.world_stations.proofs.Late.{nothing_late}
use Rattle.world_stations.proofs.Worlds.{refusals_are_harmless, listed_so}
use Rattle.world_disks.specs.Machine.{StepsAreLocal}
use Rattle.world_disks.specs.Disks.{Disks, Move, nothing_pending, moved, events_at, replay}
use Rattle.world_disks.specs.Disks.Move.{Live, Keep, Crash}
use Rattle.world_disks.specs.Worlds.{federate_station, station_in, stepped_by, answered_by}
use Rattle.world_disks.specs.Federation.{federation_machine, disks_after, live_in, coordinator_in, federate_in}
use Rattle.world_disks.specs.Federation.{live_coordinator, live_federate, live_rows, ArePrefix, taken_between}
use Rattle.world_disks.specs.Federation.{newly_taken_live}
use Rattle.world_disks.proofs.Pending.{same_or_other}
use Rattle.world_disks.proofs.Disks.{moves_both, keeps_a_world, catches_up, makes_own, makes_no_other, makes_none}
use Rattle.world_disks.proofs.Disks.{keeping_is_unseen, crashes_go_back, stations_are_replays}
use Rattle.world_disks.proofs.Worlds.{steps_are_local, machine_steps, none_forgets, does_event, outcome_at}
use Rattle.world_disks.proofs.Worlds.{brings_the_same}

-- each step of a federation is an event at one node
pub federation_is_local : StepsAreLocal federation_machine
federation_is_local = steps_are_local coordinator_core federate_core

-- a federate's station is found where there is one
found : (o : Option (Station FederateNode)) → federate_in (federate_station o) ≡ o
found None = refl
found (Some s) = refl

-- between equal states nothing is taken
nothing_between : (incarnation : ℕ) (e : Option Image) (delivered : List Signal) →
    taken_between incarnation e e delivered ≡ []
nothing_between incarnation e delivered =
    ap (λ (b : Bool). if b then delivered else []) (not_below (number_taken incarnation e))
  where
    not_below : (n : ℕ) → nat_lt n n ≡ false
    not_below n = grind (arith, nat_tests)

module _ (d : Draft) (programs : List Behaviour) (inputs : List Input) where
  -- no step made was to forget
  none_listed : (steps : List Step) → list_any is_forget steps ≡ false →
      list_any is_forget (world_after d programs inputs steps).steps ≡ false
  none_listed steps none = ap (list_any is_forget) (listed_so d programs inputs steps) ∙ none

  kept_so : (steps : List Step) → list_any is_forget steps ≡ false → (j : ℕ) → is_kept steps j ≡ true
  kept_so steps none j = rows.all_kept d programs inputs steps (none_listed steps none) j

  module _ (moves : List Move) where
    one_more_move : (move : Move) → disks_after d programs inputs (moves ++ move ∷ [])
        ≡ moved federation_machine (disks_after d programs inputs moves) move
    one_more_move move =
        moves_both federation_machine (nothing_pending (initial_world d programs inputs)) moves (move ∷ [])

    -- what the disks keep is the world after steps by which nobody forgets
    pub keeps_a_federation : (steps : List Step) × (list_any is_forget steps ≡ false)
        × ((disks_after d programs inputs moves).world ≡ world_after d programs inputs steps)
    keeps_a_federation =
        let w = initial_world d programs inputs in
        let kept = keeps_a_world federation_machine federation_is_local w moves in (
          kept.0,
          none_forgets coordinator_core federate_core w kept.0 kept.1,
          kept.2 ∙ machine_steps coordinator_core federate_core w kept.0,
        )

    -- the world in which a node has kept all that its process has
    record IsCaughtUp (disks : Disks Federation) (node : NodeId) : Type 0 where
      steps : List Step
      none : list_any is_forget steps ≡ false
      own : live_in disks node ≡ station_in (world_after d programs inputs steps) node
      others : (other : NodeId) → other ≢ node →
          station_in (world_after d programs inputs steps) other ≡ station_in disks.world other
      stays : (step : Step) (o : Occurrence) → occurrence_of disks.world step ≡ Some o →
          occurrence_of (world_after d programs inputs steps) step ≡ Some o

    caught_up : (node : NodeId) → IsCaughtUp (disks_after d programs inputs moves) node
    caught_up node =
        let w = initial_world d programs inputs in
        let up = catches_up federation_machine federation_is_local w moves node in
        let there = machine_steps coordinator_core federate_core w up.steps in
        record {
          steps = up.steps;
          none = none_forgets coordinator_core federate_core w up.steps up.events;
          own = up.own ∙ ap (λ (v : Federation). station_in v node) there;
          others = λ other apart. ap (λ (v : Federation). station_in v other) (sym there) ∙ up.others other apart;
          stays = λ step o is. ap (λ (v : Federation). occurrence_of v step) (sym there) ∙ up.stays step o is;
        }

    -- what a process has is its node's station in such a world
    pub lives_in_a_federation : (node : NodeId) → (steps : List Step) × (list_any is_forget steps ≡ false)
        × (live_in (disks_after d programs inputs moves) node
        ≡ station_in (world_after d programs inputs steps) node)
    lives_in_a_federation node = let up = caught_up node in (up.steps, up.none, up.own)

    -- what a process has after a step of its own
    pub makes_in_a_federation : (step : Step) (o : Occurrence) →
        occurrence_of (disks_after d programs inputs moves).world step ≡ Some o →
        live_in (disks_after d programs inputs (moves ++ Live step ∷ [])) o.node
        ≡ stepped_by coordinator_core federate_core (live_in (disks_after d programs inputs moves) o.node) o.event
    makes_in_a_federation step o is =
        ap (λ (x : Disks Federation). live_in x o.node) (one_more_move (Live step))
        ∙ makes_own federation_machine (disks_after d programs inputs moves) step o is

    -- what each has after a disk kept steps
    pub keeping_in_a_federation : (node : NodeId) (count : ℕ) (other : NodeId) →
        live_in (disks_after d programs inputs (moves ++ Keep node count ∷ [])) other
        ≡ live_in (disks_after d programs inputs moves) other
    keeping_in_a_federation node count other =
        let w = initial_world d programs inputs in
        ap (λ (x : Disks Federation). live_in x other) (one_more_move (Keep node count))
        ∙ keeping_is_unseen federation_machine federation_is_local w moves node count other

    -- with what a process begins again
    pub begins_again : (node : NodeId) → (steps : List Step) × (list_any is_forget steps ≡ false)
        × ((disks_after d programs inputs moves).world ≡ world_after d programs inputs steps)
        × (live_in (disks_after d programs inputs (moves ++ Crash node ∷ [])) node
        ≡ replay federation_machine (station_in (initial_world d programs inputs) node)
        (events_at federation_machine node (initial_world d programs inputs) steps))
    begins_again node =
        let w = initial_world d programs inputs in
        let kept = keeps_a_world federation_machine federation_is_local w moves in (
          kept.0,
          none_forgets coordinator_core federate_core w kept.0 kept.1,
          kept.2 ∙ machine_steps coordinator_core federate_core w kept.0,
          ap (λ (x : Disks Federation). live_in x node) (one_more_move (Crash node))
              ∙ crashes_go_back federation_machine (disks_after d programs inputs moves) node
              ∙ ap (λ (v : Federation). station_in v node) kept.2
              ∙ stations_are_replays federation_machine federation_is_local w kept.0 node kept.1,
        )

    live_found : (j : ℕ) → live_federate (disks_after d programs inputs moves) j
        ≡ slice_get (world_after d programs inputs (caught_up (Federate j)).steps).federates j
    live_found j =
        let up = caught_up (Federate j) in
        ap federate_in up.own ∙ found (slice_get (world_after d programs inputs up.steps).federates j)

    module _ (lawful : IsLawfulWith (network_of d programs inputs) (least_of d)) where
      -- rows that disks keep
      pub kept_rows_begin : (j : ℕ) → j < federate_count d →
          IsPrefix d programs inputs (disks_after d programs inputs moves).world j
      kept_rows_begin j below =
          let kept = keeps_a_federation in
          subst (λ (w : Federation). IsPrefix d programs inputs w j) (sym kept.2)
          (rows_begin d programs inputs kept.0 j lawful below (kept_so kept.0 kept.1 j))

      -- rows that a process has
      pub live_rows_begin : (j : ℕ) → j < federate_count d →
          ArePrefix d programs inputs j (live_rows (disks_after d programs inputs moves) j)
      live_rows_begin j below =
          let up = caught_up (Federate j) in
          subst (λ (made : List Row). ArePrefix d programs inputs j made) (sym (ap rows_at (live_found j)))
          (rows_begin d programs inputs up.steps j lawful below (kept_so up.steps up.none j))

      -- what was taken, by what disks keep
      pub keeps_nothing_late : (j : ℕ) → (steps : List Step) × (list_any is_forget steps ≡ false)
          × ((disks_after d programs inputs moves).world ≡ world_after d programs inputs steps)
          × TakesNothingLate d programs inputs steps j
      keeps_nothing_late j =
          let kept = keeps_a_federation in (kept.0, kept.1, kept.2, nothing_late d programs inputs kept.0 j lawful)

      -- what a process takes
      pub live_takes_nothing_late : (step : Step) (j incarnation : ℕ) →
          All (IsLaterThan (live_rows (disks_after d programs inputs moves) j))
          (newly_taken_live (disks_after d programs inputs moves) j incarnation step)
      live_takes_nothing_late step j incarnation = by_event (occurrence_of disks.world step) refl
        where
          disks : Disks Federation
          disks = disks_after d programs inputs moves

          after : Disks Federation
          after = moved federation_machine disks (Live step)

          quiet : live_federate after j ≡ live_federate disks j →
              All (IsLaterThan (live_rows disks j)) (newly_taken_live disks j incarnation step)
          quiet same =
              let e = own_end (live_federate disks j) in
              let delivered = brought_by disks.world step in
              let none : newly_taken_live disks j incarnation step ≡ [] =
              ap (λ (s : Option (Station FederateNode)). taken_between incarnation e (own_end s) delivered) same
              ∙ nothing_between incarnation e delivered in
              subst (λ (signals : List Signal). All (IsLaterThan (live_rows disks j)) signals) (sym none)
              (All-nil (IsLaterThan (live_rows disks j)))

          taken : (o : Occurrence) → occurrence_of disks.world step ≡ Some o → Federate j ≡ o.node →
              All (IsLaterThan (live_rows disks j)) (newly_taken_live disks j incarnation step)
          taken o is at =
              let up = caught_up (Federate j) in
              let w = world_after d programs inputs up.steps in
              let later = (step_in w step).world in
              let there = up.stays step o is in
              let makes : live_in after (Federate j)
              ≡ stepped_by coordinator_core federate_core
              (live_in disks (Federate j)) o.event =
              subst (λ (node : NodeId). live_in after node
              ≡ stepped_by coordinator_core federate_core (live_in disks node) o.event)
              (sym at) (makes_own federation_machine disks step o is) in
              let own : station_in later (Federate j)
              ≡ stepped_by coordinator_core federate_core (station_in w (Federate j)) o.event =
              subst (λ (node : NodeId). station_in later node
              ≡ stepped_by coordinator_core federate_core (station_in w node) o.event)
              (sym at) (federation_is_local.own w step o there) in
              let found_later : live_federate after j ≡ slice_get later.federates j =
              ap federate_in
              (makes ∙ ap (λ s. stepped_by coordinator_core federate_core s o.event) up.own ∙ sym own)
              ∙ found (slice_get later.federates j) in
              let same : newly_taken_live disks j incarnation step ≡ newly_taken w later (Down j) incarnation step =
              ap (λ (s : Option (Station FederateNode)). taken_between incarnation (own_end s)
              (own_end (live_federate after j)) (brought_by disks.world step)) (live_found j)
              ∙ ap (λ (s : Option (Station FederateNode)). taken_between incarnation
              (own_end (slice_get w.federates j)) (own_end s) (brought_by disks.world step)) found_later
              ∙ ap (λ (signals : List Signal). taken_between incarnation (own_end (slice_get w.federates j))
              (own_end (slice_get later.federates j)) signals) (brings_the_same disks.world w step o is there) in
              subst (λ (signals : List Signal). All (IsLaterThan (live_rows disks j)) signals) (sym same)
              (subst (λ (made : List Row). All (IsLaterThan made) (newly_taken w later (Down j) incarnation step))
              (sym (ap rows_at (live_found j)))
              (nothing_late d programs inputs (up.steps ++ step ∷ []) j lawful up.steps [] step incarnation refl))

          by_event : (o : Option Occurrence) → occurrence_of disks.world step ≡ o →
              All (IsLaterThan (live_rows disks j)) (newly_taken_live disks j incarnation step)
          by_event None is =
              quiet (ap (λ (x : Disks Federation). live_federate x j) (makes_none federation_machine disks step is))
          by_event (Some o) is =
              elim (same_or_other (Federate j) o.node) [
                | inl at ↦ taken o is at
                | inr apart ↦
                    quiet (ap federate_in (makes_no_other federation_machine disks step o (Federate j) is apart))
              ]

      -- what a process refuses
      pub live_refusals_are_harmless : (step : Step) (o : Occurrence) →
          occurrence_of (disks_after d programs inputs moves).world step ≡ Some o →
          IsHarmless (outcome_of (answered_by coordinator_core federate_core
          (live_in (disks_after d programs inputs moves) o.node) o.event))
      live_refusals_are_harmless step o is =
          let up = caught_up o.node in
          let w = world_after d programs inputs up.steps in
          subst IsHarmless
          (ap (λ (a : Applied CoordinatorNode FederateNode). a.outcome)
          (does_event coordinator_core federate_core w step o (up.stays step o is))
          ∙ outcome_at coordinator_core federate_core w o.node o.event
          ∙ ap (λ s. outcome_of (answered_by coordinator_core federate_core s o.event)) (sym up.own))
          (refusals_are_harmless d programs inputs up.steps step lawful)

      -- where what disks keep is stuck
      pub kept_stuck_rows : (j : ℕ) → j < federate_count d →
          IsStuck (disks_after d programs inputs moves).world →
          IsWhole d programs inputs (disks_after d programs inputs moves).world j
      kept_stuck_rows j below stuck =
          let kept = keeps_a_federation in
          subst (λ (w : Federation). IsWhole d programs inputs w j) (sym kept.2)
          (stuck_rows d programs inputs kept.0 j lawful (subst IsStuck kept.2 stuck) below)

      -- where the coordinator's process says that all is finished
      pub finished_on_disks : (j : ℕ) (s : Station CoordinatorNode) → j < federate_count d →
          live_coordinator (disks_after d programs inputs moves) ≡ Some s →
          coordinator_core.finished s.node ≡ true →
          IsWhole d programs inputs (disks_after d programs inputs moves).world j
      finished_on_disks j s below is finished =
          let disks = disks_after d programs inputs moves in
          let up = caught_up Coordinator in
          let w = world_after d programs inputs up.steps in
          let same : Some w.coordinator ≡ Some s = sym (ap coordinator_in up.own) ∙ is in
          let apart : Federate j ≢ Coordinator = λ e. cc in
          let stay : slice_get w.federates j ≡ slice_get disks.world.federates j =
          sym (found (slice_get w.federates j)) ∙ ap federate_in (up.others (Federate j) apart)
          ∙ found (slice_get disks.world.federates j) in
          subst (λ (made : List Row). HasEveryRow (network_of d programs inputs) j made) (ap rows_at stay)
          (finished_rows d programs inputs up.steps j lawful
          (record {
            kept = none_listed up.steps up.none;
            finished = says w.coordinator same;
          })
          below)
        where
          says : (c : Station CoordinatorNode) → ◌≡◌ {A = Option (Station CoordinatorNode)} (Some c) (Some s) →
              coordinator_core.finished c.node ≡ true
          says c same = ap (λ (o : Option (Station CoordinatorNode)). finished_in o) same ∙ finished
            where
              finished_in : Option (Station CoordinatorNode) → Bool
              finished_in None = false
              finished_in (Some x) = coordinator_core.finished x.node
