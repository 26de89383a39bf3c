-- The world of a federation after any steps stands beside a run of the machine of queues.
use Rattle.std.proofs.Common.{◌≡◌, ℕ, Bool, true, false, List, [], ◌∷◌, ◌++◌, set, slice_get, refl, sym, ap, subst, ◌∙◌, Option, None, Some, if◌then◌else◌}
use Rattle.std.specs.Prelude.{not, ◌||◌}
use Rattle.std.specs.List.{list_any}
use Rattle.std.proofs.Math.Path.{fun_ext}
use Rattle.std.proofs.lemmas.List.{append-nil, append_assoc}
use Rattle.network.specs.Tables.{IsLawfulWith}
use Rattle.signal.specs.declared.frame.Frame.{Frame}
use Rattle.link.specs.Image.{blank}
use Rattle.plan.specs.declared.draft.Draft.{Draft}
use Rattle.plan.specs.declared.input.Input.{Input}
use Rattle.plan.specs.Federation.{federate_count}
use Rattle.plan.specs.Least.{least_of}
use Rattle.reactor_program.specs.Behaviour.{Behaviour}
use Rattle.plan_network.specs.Network.{network_of}
use Rattle.protocol.specs.FederateRecord.{initial_federate_record}
use Rattle.protocol.specs.Machine.{Member, Move, initial_member as first_federate}
use Rattle.protocol_laws.proofs.ListedFederateRecords.{listed_length, initial_read}
use Rattle.node.specs.Step.{Station}
use Rattle.node_cores.specs.FederateCore.{FederateNode, federate_core}
use Rattle.node_cores.specs.CoordinatorCore.{coordinator_core}
use Rattle.link_laws.specs.Link.{Link, initial_link}
use Rattle.link_laws.proofs.Acts.{held}
use Rattle.world_stations.specs.declared.limits.TheConstants.{LINK_ROOM}
use Rattle.node.specs.declared.node_id.NodeId.{NodeId}
use Rattle.node.specs.declared.node_id.NodeId.TheVariants.{Coordinator, Federate}
use Rattle.world_stations.specs.declared.outcome.Outcome.TheVariants as outcome
use Rattle.world_stations.specs.declared.step.Step.{Step}
use Rattle.world_stations.specs.declared.step.Step.TheVariants.{Deliver, Resend, Reconnect, Announce, Advance, Forget}
use Rattle.world_stations.specs.World.{Occurrence, occurrence_of, unchanged, at_federate, at_node, happens, has_next, forgotten, forgets, does, after_steps}
use Rattle.world_stations.specs.Kept.{is_forget_of, is_kept}
use Rattle.world_stations.specs.Federation.{Federation, IsHarmless, initial_world, initial_coordinator, initial_member}
use Rattle.world_stations.specs.Federation.{world_after, step_in}
use Rattle.world_stations.proofs.Shown.{shown_listed, opened_shown, made_at}
use Rattle.world_stations.proofs.Courses.{some_of}
use Rattle.world_stations.proofs.Site.{IsSite, keeps}
use Rattle.world_stations.proofs.Runs.{IsRun}
use Rattle.world_stations.proofs.Steps.{members_after, Goes, goes}

run_listed : (d : Draft) (programs : List Behaviour) (inputs : List Input) (w : Federation) (links : ℕ → Link) (members : ℕ → Member) (steps : List Step) → IsRun d programs inputs w links members → IsRun d programs inputs (record w { steps = steps }) links members
run_listed d programs inputs w links members steps r =
    record { shown = shown_listed w (federate_count d) links steps r.shown; draft = r.draft; size = r.size; federate_records = r.federate_records; site = λ j l s there. r.site j l s there }

-- a step of the world
pub step_goes : (d : Draft) (programs : List Behaviour) (inputs : List Input) (w : Federation) (links : ℕ → Link) (moves : List Move) (step : Step) → IsLawfulWith (network_of d programs inputs) (least_of d) → IsRun d programs inputs w links (members_after d programs inputs moves) → Goes d programs inputs (step_in w step) step moves
step_goes d programs inputs w links moves step lawful run =
    let g = goes d programs inputs w links moves step lawful run in
    let made = does coordinator_core federate_core w step in
    record {
      links = g.links;
      moved = g.moved;
      run = run_listed d programs inputs made.world g.links (members_after d programs inputs g.moved) (made.world.steps ++ step ∷ []) g.run;
      harmless = g.harmless;
      lost = g.lost;
    }

-- a world beside a run, since steps before it
pub record Stands (d : Draft) (programs : List Behaviour) (inputs : List Input) (w : Federation) : Type 0 where
  pub links : ℕ → Link
  pub moves : List Move
  pub run : IsRun d programs inputs w links (members_after d programs inputs moves)

pub record GoesOn (d : Draft) (programs : List Behaviour) (inputs : List Input) (w : Federation) (moves : List Move) (steps : List Step) : Type 0 where
  pub stands : Stands d programs inputs w
  pub lost : (j : ℕ) → is_kept steps j ≡ true → (members_after d programs inputs stands.moves j).lost ≡ (members_after d programs inputs moves j).lost

not_first : (a b : Bool) → not (a || b) ≡ true → (a ≡ false) × (not b ≡ true)
not_first true b e = cc
not_first false true e = cc
not_first false false e = (refl, refl)

all_go : (d : Draft) (programs : List Behaviour) (inputs : List Input) (w : Federation) (links : ℕ → Link) (moves : List Move) (steps : List Step) → IsLawfulWith (network_of d programs inputs) (least_of d) → IsRun d programs inputs w links (members_after d programs inputs moves) → GoesOn d programs inputs (after_steps coordinator_core federate_core w steps) moves steps
all_go d programs inputs w links moves [] lawful run = record { stands = record { links = links; moves = moves; run = run }; lost = λ j kept. refl }
all_go d programs inputs w links moves (step ∷ steps) lawful run =
    let first = step_goes d programs inputs w links moves step lawful run in
    let rest = all_go d programs inputs (step_in w step).world first.links first.moved steps lawful first.run in
    record {
      stands = rest.stands;
      lost = λ j kept. (
          let both = not_first (is_forget_of j step) (list_any (is_forget_of j) steps) kept in
          rest.lost j both.1 ∙ first.lost j both.0);
    }

abbrev pub open_link : ℕ → Link
open_link j = initial_link j 1 LINK_ROOM

pub initial_run : (d : Draft) (programs : List Behaviour) (inputs : List Input) → IsRun d programs inputs (initial_world d programs inputs) open_link (members_after d programs inputs [])
initial_run d programs inputs =
    let count = federate_count d in
    let w = initial_world d programs inputs in
    let station : ℕ → Station FederateNode = λ j. record { node = initial_member d programs inputs j; ends = blank j 1 LINK_ROOM ∷ [] } in
    let none : ℕ → List Frame = λ j. [] in
    record {
      shown = opened_shown (initial_coordinator d) count (initial_member d programs inputs) LINK_ROOM;
      draft = refl;
      size = listed_length count (λ j. initial_federate_record);
      federate_records = fun_ext (λ j. initial_read count j);
      site = λ j l s there. (
          let same : station j ≡ s = some_of (station j) s (sym (made_at station count j l) ∙ there) in
          let P : Station FederateNode → Type 0 = λ x. IsSite d programs inputs j (open_link j) (first_federate (network_of d programs inputs) j) x.node in
          subst P same
          (record {
            held = held j 1 LINK_ROOM [];
            unclosed = refl;
            ups_calm = tt;
            downs_calm = tt;
            up = refl;
            own = keeps refl refl refl refl refl tt;
          }));
    }

-- the world after any steps
pub stands : (d : Draft) (programs : List Behaviour) (inputs : List Input) (steps : List Step) → IsLawfulWith (network_of d programs inputs) (least_of d) → GoesOn d programs inputs (world_after d programs inputs steps) [] steps
stands d programs inputs steps lawful = all_go d programs inputs (initial_world d programs inputs) open_link [] steps lawful (initial_run d programs inputs)

-- no step is refused but by a link
pub refusals_are_harmless : (d : Draft) (programs : List Behaviour) (inputs : List Input) (steps : List Step) (step : Step) → IsLawfulWith (network_of d programs inputs) (least_of d) → IsHarmless (step_in (world_after d programs inputs steps) step).outcome
refusals_are_harmless d programs inputs steps step lawful =
    let s = (stands d programs inputs steps lawful).stands in
    (step_goes d programs inputs (world_after d programs inputs steps) s.links s.moves step lawful s.run).harmless

-- an event lists no step
happens_steps : (w : Federation) (o : Option Occurrence) → (happens coordinator_core federate_core w o).world.steps ≡ w.steps
happens_steps w None = refl
happens_steps w (Some o) = at_node_steps o.node
  where
    at_one : (j : ℕ) (found : Option (Station FederateNode)) → (at_federate federate_core w j o.event found).world.steps ≡ w.steps
    at_one j None = refl
    at_one j (Some s) = refl

    at_node_steps : (node : NodeId) → (at_node coordinator_core federate_core w node o.event).world.steps ≡ w.steps
    at_node_steps Coordinator = refl
    at_node_steps (Federate j) = at_one j (slice_get w.federates j)

forgets_steps : (w : Federation) (j : ℕ) (o : Option (Station FederateNode)) → (forgets federate_core w j o).world.steps ≡ w.steps
forgets_steps w j None = refl
forgets_steps w j (Some s) = by_next (has_next s.ends) (record w { federates = set w.federates j (forgotten federate_core s) }) refl
  where
    by_next : (b : Bool) (changed : Federation) → changed.steps ≡ w.steps → (if b then record { world = changed; outcome = outcome.Done } else unchanged w).world.steps ≡ w.steps
    by_next true changed e = e
    by_next false changed e = refl

does_steps : (w : Federation) (step : Step) → (does coordinator_core federate_core w step).world.steps ≡ w.steps
does_steps w (Deliver dir k) = happens_steps w (occurrence_of w (Deliver dir k))
does_steps w (Resend dir) = happens_steps w (occurrence_of w (Resend dir))
does_steps w (Reconnect dir) = happens_steps w (occurrence_of w (Reconnect dir))
does_steps w (Announce j) = happens_steps w (occurrence_of w (Announce j))
does_steps w (Advance j) = happens_steps w (occurrence_of w (Advance j))
does_steps w (Forget j) = forgets_steps w j (slice_get w.federates j)

-- the steps are listed
pub steps_after : (w : Federation) (steps : List Step) → (after_steps coordinator_core federate_core w steps).steps ≡ w.steps ++ steps
steps_after w [] = sym (append-nil w.steps)
steps_after w (step ∷ rest) = steps_after (step_in w step).world rest ∙ ap (λ (x : List Step). x ++ rest) (ap (λ (x : List Step). x ++ step ∷ []) (does_steps w step)) ∙ append_assoc w.steps (step ∷ []) rest

pub listed_so : (d : Draft) (programs : List Behaviour) (inputs : List Input) (steps : List Step) → (world_after d programs inputs steps).steps ≡ steps
listed_so d programs inputs steps = steps_after (initial_world d programs inputs) steps

more_from : (w : Federation) (steps : List Step) (step : Step) → after_steps coordinator_core federate_core w (steps ++ step ∷ []) ≡ (step_in (after_steps coordinator_core federate_core w steps) step).world
more_from w [] step = refl
more_from w (first ∷ rest) step = more_from (step_in w first).world rest step

pub one_more : (d : Draft) (programs : List Behaviour) (inputs : List Input) (steps : List Step) (step : Step) → world_after d programs inputs (steps ++ step ∷ []) ≡ (step_in (world_after d programs inputs steps) step).world
one_more d programs inputs steps step = more_from (initial_world d programs inputs) steps step
