-- Which track a node has: the coordinator the first, then the federates in the file's order.
use Rattle.std.specs.Prelude.{ℕ, ◌+◌, nat_lt, if◌then◌else◌}
use Rattle.plan.specs.declared.draft.Draft.{Draft}
use Rattle.plan.specs.Federation.{federate_count}
use Rattle.world_stations.specs.declared.dir.Dir.{Dir}
use Rattle.world_stations.specs.declared.dir.Dir.TheVariants.{Up, Down}
use Rattle.world_stations.specs.declared.step.Step.{Step}
use Rattle.world_stations.specs.declared.step.Step.TheVariants.{Deliver, Resend, Reconnect, Announce, Advance, Forget}
use Rattle.fedrun_trace.specs.declared.tracks.TheConstants.{COORDINATOR}

-- federate j's; one that isn't there does nothing, and the coordinator's track shows that
abbrev pub federate_track : Draft → (j : ℕ) → ℕ
federate_track d j = if nat_lt j (federate_count d) then j + 2 else COORDINATOR

-- that of the node which sends in a direction
abbrev pub sender_track : Draft → Dir → ℕ
sender_track d (Up j) = federate_track d j
sender_track d (Down j) = COORDINATOR

-- that of the node to which a direction leads
abbrev pub receiver_track : Draft → Dir → ℕ
receiver_track d (Up j) = COORDINATOR
receiver_track d (Down j) = federate_track d j

-- that of the node at which a step happens
abbrev pub step_track : Draft → Step → ℕ
step_track d (Deliver dir k) = receiver_track d dir
step_track d (Resend dir) = sender_track d dir
step_track d (Reconnect dir) = sender_track d dir
step_track d (Announce j) = federate_track d j
step_track d (Advance j) = federate_track d j
step_track d (Forget j) = federate_track d j
