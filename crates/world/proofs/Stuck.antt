-- When a world is stuck: nobody forgot, and nothing is left to be done at any federate.
use Rattle.std.proofs.Common.{◌≡◌, ℕ, ◌<◌, ◌≤◌, inl, inr, false, slice_get, None, ◌↔◌, ap, ◌∙◌, arith}
use Rattle.plan.specs.Federation.{federate_count}
use Rattle.plan_network.proofs.LawfulNetwork.{gives_lawful_with}
use Rattle.std.specs.List.{list_any}
use Rattle.std.proofs.lemmas.Bool.{cases_lt}
use Rattle.world_stations.specs.declared.dir.Dir.{Dir}
use Rattle.world_stations.specs.declared.dir.Dir.TheVariants.{Up, Down}
use Rattle.world_stations.specs.Kept.{is_forget}
use Rattle.world_stations.specs.Federation.{Federation, IsStuck}
use Rattle.world_stations.proofs.Emptied.{shows_at_the_ends}
use Rattle.world_stations.proofs.Shown.{nothing_beyond}
use Rattle.world_stations.proofs.Worlds.{stands, listed_so}
use Rattle.world.specs.Invariant.{IsFederation}
use Rattle.world.specs.World.{WorldView, stations_of}
use Rattle.world_stations.specs.Acknowledged.{KeepsNone}
use Rattle.world.specs.Quiet.{IsQuiet}
use Rattle.world.proofs.Silence.{silent_where_none}

quiet_where_none : (w : Federation) (j : ℕ) → slice_get w.coordinator.ends j ≡ None → slice_get w.federates j ≡ None → IsQuiet w j
quiet_where_none w j no_end no_federate = record {
  acknowledged = record { up = rw (no_federate) tt; down = rw (no_end) tt };
  silent = silent_where_none w j no_federate;
}

-- nothing is left to be done at a federate that isn't there
quiet_beyond : (w : WorldView) (j : ℕ) → IsFederation w → federate_count w.draft ≤ j → IsQuiet (stations_of w) j
quiet_beyond w j fit beyond =
    let lawful = gives_lawful_with w.draft w.programs w.inputs fit.legal fit.programs_fit fit.inputs_fit in
    let shown = (stands w.draft w.programs w.inputs w.steps lawful).stands.run.shown in
    let ends = shown.ends in
    let federates = shown.federates in
    quiet_where_none (stations_of w) j (nothing_beyond (stations_of w).coordinator.ends j (omega arith)) (nothing_beyond (stations_of w).federates j (omega arith))

-- so it is enough to look at those that are
pub all_quiet : (w : WorldView) → IsFederation w →
    ((j : ℕ) → j < federate_count w.draft → IsQuiet (stations_of w) j) → (j : ℕ) → IsQuiet (stations_of w) j
all_quiet w fit quiet j =
    elim (cases_lt j (federate_count w.draft)) [
      | inl below ↦ quiet j below
      | inr beyond ↦ quiet_beyond w j fit (let there = beyond in omega arith)
    ]

keeps : (w : Federation) → ((j : ℕ) → IsQuiet w j) → (dir : Dir) → KeepsNone w dir
keeps w quiet (Up j) = (quiet j).acknowledged.up
keeps w quiet (Down j) = (quiet j).acknowledged.down

-- a world without forgetting is stuck where nothing is left to be done
pub stuck_is : (w : WorldView) → IsFederation w → list_any is_forget w.steps ≡ false →
    ((j : ℕ) → IsQuiet (stations_of w) j) ↔ IsStuck (stations_of w)
stuck_is w fit none =
    let lawful = gives_lawful_with w.draft w.programs w.inputs fit.legal fit.programs_fit fit.inputs_fit in
    let none_so : list_any is_forget (stations_of w).steps ≡ false = ap (list_any is_forget) (listed_so w.draft w.programs w.inputs w.steps) ∙ none in
    let shows = shows_at_the_ends w.draft w.programs w.inputs w.steps lawful none_so in (
      (λ quiet. record {
        kept = none_so;
        settled = shows.1 (keeps (stations_of w) quiet);
        announced = λ j. (quiet j).silent.announced;
        advanced = λ j. (quiet j).silent.advanced;
      }),
      (λ stuck j. record {
        acknowledged = record { up = shows.0 stuck.settled (Up j); down = shows.0 stuck.settled (Down j) };
        silent = record { announced = stuck.announced j; advanced = stuck.advanced j };
      }),
    )
