-- Which frames are Acks, and may wait until there are others for their peer; and which are signals.
use Rattle.std.specs.Prelude.{ℕ, ◌+◌, Bool, true, false, not, ◌&&◌, nat_lt, List, length}
use Rattle.std.specs.List.{list_all}
use Rattle.signal.specs.declared.frame.Frame.{Frame}
use Rattle.signal.specs.declared.frame.Frame.TheVariants.{Hello, Data, Ack, Refuse}
use Rattle.node.specs.declared.outgoing.Outgoing.{Outgoing}
use Rattle.wires_workers.specs.declared.queue_state.TheConstants.{ACKS_AT_ONCE}

-- an Ack
abbrev pub is_ack : Frame → Bool
is_ack (Ack incarnation last_taken) = true
is_ack (Hello hello) = false
is_ack (Data incarnation number signal) = false
is_ack (Refuse incarnation refusal) = false

-- a signal
abbrev pub is_data : Frame → Bool
is_data (Data incarnation number signal) = true
is_data (Hello hello) = false
is_data (Ack incarnation last_taken) = false
is_data (Refuse incarnation refusal) = false

-- Acks alone
abbrev pub are_acks : List Outgoing → Bool
are_acks frames = list_all (λ outgoing. is_ack outgoing.frame) frames

-- Acks alone, fewer than are sent without other frames; those count too that were left out, since these cover them
abbrev pub are_few_acks : (left_out : ℕ) → List Outgoing → Bool
are_few_acks left_out frames = nat_lt (length frames + left_out) ACKS_AT_ONCE && are_acks frames

-- whether what waits stays in the queue: a few Acks or nothing, without a new connection, and it isn't late
abbrev pub is_left : (is_late is_new : Bool) → (left_out : ℕ) → List Outgoing → Bool
is_left is_late is_new left_out frames = not is_late && (not is_new && are_few_acks left_out frames)
