use Rattle.std.proofs.Common.{◌≡◌, ◌≤◌, take, drop}
use Rattle.world_stations.proofs.made_steps.MadeSteps.after.Given as goal

-- those up to a place are there
abbrev pub invariant-loop-place : goal.invariant-loop-place
invariant-loop-place l = record {
  ahead : l.before ≤ l.place;
  steps : l.steps.items ≡ drop l.before (take l.place l.self.steps);
}
