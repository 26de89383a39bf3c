-- Who sends what waits for a peer.
use Rattle.std.specs.Prelude.{ℕ, Bool, false, not, ◌&&◌, ◌||◌, if◌then◌else◌, nat_eq, nat_le, List, length, Option}
use Rattle.std.specs.Prelude.{None, Some}
use Rattle.node.specs.declared.outgoing.Outgoing.{Outgoing}
use Rattle.wires_workers.specs.declared.queue_state.Task.{Task}
use Rattle.wires_workers.specs.declared.queue_state.Task.TheVariants.{Leave, Notify, Write}
use Rattle.wires_workers.specs.declared.behind.TheConstants.{SIGNALS_BEHIND}
use Rattle.wires_workers.specs.LoneAcks.{are_few_acks}

-- whether a peer is behind that hasn't acknowledged this many signals
abbrev pub is_behind : Option ℕ → Bool
is_behind None = false
is_behind (Some unacked) = nat_le SIGNALS_BEHIND unacked

-- whether anything waits: a new connection, or a frame
abbrev pub waits : (is_new : Bool) → List Outgoing → Bool
waits is_new frames = is_new || not (nat_eq (length frames) 0)

-- what to do about what waits. A few Acks and nothing else: leave them, if the writer looks soon anyway; else notify
-- it. Where nothing waits: leave it so. With a new connection, or a peer that is behind: notify the writer. All else is
-- written by whoever made the steps
abbrev pub task_of : (is_new is_behind looks_soon : Bool) → (left_out : ℕ) → List Outgoing → Task
task_of is_new is_behind looks_soon left_out frames =
    if not is_new && are_few_acks left_out frames
    then (if looks_soon || nat_eq (length frames) 0 then Leave else Notify)
    else (if is_new || is_behind then Notify else Write)
