-- What a step brings to the node at which it happens, and how that ended, as text.
use Rattle.std.specs.Prelude.{ℕ, Bool, nat_eq, nat_le, if◌then◌else◌, List, [], ◌∷◌, ◌++◌, Option, None, Some}
use Rattle.std.specs.Prelude.{unwrap_or, codes}
use Rattle.std.specs.Fmt.{decimal}
use Rattle.signal.specs.declared.frame.Frame.{Frame}
use Rattle.signal.specs.declared.frame.Frame.TheVariants.{Hello, Data, Ack, Refuse}
use Rattle.world_stations.specs.declared.dir.Dir.{Dir}
use Rattle.world_stations.specs.declared.dir.Dir.TheVariants.{Up, Down}
use Rattle.world_stations.specs.declared.step.Step.{Step}
use Rattle.world_stations.specs.declared.step.Step.TheVariants.{Deliver, Resend, Reconnect, Announce, Advance, Forget}
use Rattle.world_stations.specs.declared.outcome.Outcome.{Outcome}
use Rattle.world_stations.specs.declared.outcome.Outcome.TheVariants.{Nothing, Done, Refused}
use Rattle.world_stations.specs.World.{frames_in, frame_at}
use Rattle.world_stations.specs.Federation.{Federation}
use Rattle.fedrun_frames.specs.declared.brought.Brought.{Brought}
use Rattle.fedrun_frames.specs.declared.brought.Brought.TheVariants.{NoFrame, NewSignal, KnownSignal, Note, Forgetting}
use Rattle.fedrun_frames.specs.declared.brought.Brought.TheVariants.{Own}

-- the direction in which what came in another one is acknowledged
abbrev pub back : Dir → Dir
back (Up j) = Down j
back (Down j) = Up j

-- the number that a frame acknowledges in an incarnation
abbrev pub acknowledged_by : (incarnation : ℕ) → Option Frame → Option ℕ
acknowledged_by incarnation None = None
acknowledged_by incarnation (Some (Hello hello)) = None
acknowledged_by incarnation (Some (Data i n signal)) = None
acknowledged_by incarnation (Some (Ack i n)) = if nat_eq i incarnation then Some n else None
acknowledged_by incarnation (Some (Refuse i refusal)) = None

-- the number that these frames, oldest first, acknowledge last in an incarnation; `last` where none does
abbrev pub acknowledged_last : (incarnation last : ℕ) → List Frame → ℕ
acknowledged_last incarnation last [] = last
acknowledged_last incarnation last (frame ∷ rest) =
    acknowledged_last incarnation (unwrap_or (acknowledged_by incarnation (Some frame)) last) rest

-- whether the receiver of a direction acknowledged a signal before, or one after it
abbrev pub is_acknowledged : Federation → Dir → (incarnation number : ℕ) → Bool
is_acknowledged w dir incarnation number = nat_le number (acknowledged_last incarnation 0 (frames_in w (back dir)))

-- a signal is known to its receiver once it was acknowledged
abbrev pub signal_brought : (is_known : Bool) → Brought
signal_brought is_known = if is_known then KnownSignal else NewSignal

-- what a frame brings that comes in a direction, if it is there
abbrev pub frame_brought : Federation → Dir → Option Frame → Brought
frame_brought w dir None = NoFrame
frame_brought w dir (Some (Hello hello)) = Note
frame_brought w dir (Some (Data incarnation number signal)) = signal_brought (is_acknowledged w dir incarnation number)
frame_brought w dir (Some (Ack incarnation last_taken)) = Note
frame_brought w dir (Some (Refuse incarnation refusal)) = Note

-- what a step brings
abbrev pub brought_by : Federation → Step → Brought
brought_by w (Deliver dir k) = frame_brought w dir (frame_at (frames_in w dir) k)
brought_by w (Resend dir) = Own
brought_by w (Reconnect dir) = Own
brought_by w (Announce j) = Own
brought_by w (Advance j) = Own
brought_by w (Forget j) = Forgetting

-- where nothing changed and nothing was sent
abbrev pub nothing_text : Brought → List ℕ
nothing_text NoFrame = codes "  no such frame\n"
nothing_text NewSignal = codes "  nothing\n"
nothing_text KnownSignal = codes "  nothing\n"
nothing_text Note = codes "  nothing\n"
nothing_text Forgetting = codes "  nothing\n"
nothing_text Own = codes "  nothing\n"

-- where something changed or was sent; of what a node does by itself its row and its frames tell
abbrev pub done_text : Brought → List ℕ
done_text NoFrame = []
done_text NewSignal = codes "  taken\n"
done_text KnownSignal = codes "  taken before\n"
done_text Note = codes "  noted\n"
done_text Forgetting = codes "  forgotten\n"
done_text Own = []

-- how a step ended that brought this
abbrev pub ending_text : Brought → Outcome → List ℕ
ending_text brought Nothing = nothing_text brought
ending_text brought Done = done_text brought
ending_text brought (Refused number) = codes "  refused " ++ (decimal number ++ codes "\n")
