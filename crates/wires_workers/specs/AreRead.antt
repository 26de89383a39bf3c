-- The events that a reader makes of what its peer sends.
use Rattle.std.specs.Prelude.{ℕ, List, [], ◌∷◌, ◌++◌}
use Rattle.signal.specs.declared.frame.Frame.{Frame}
use Rattle.signal.specs.Stream.{Stream, GivesFrame}
use Rattle.node.specs.declared.event.Event.{Event}
use Rattle.node.specs.declared.event.Event.TheVariants as Events

-- of frames that come one after the other from this peer, an event each
pub data AreRead (peer : ℕ) (old : Stream) : List Event → Stream → Type 0 where
  none : AreRead peer old [] old
  one_more : {events : List Event} {stream : Stream} {frame : Frame} {new : Stream} →
      AreRead peer old events stream → GivesFrame stream frame new
      → AreRead peer old (events ++ Events.Frame peer frame ∷ []) new
