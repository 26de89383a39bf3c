-- What a desk answers to several events, what of it is to be sent, and what it answers of a peer's end.
use Rattle.std.specs.Prelude.{◌≡◌, ◌⊎◌, Bool, true, false, ◌||◌, nat_eq, List, [], ◌∷◌, ◌++◌, Option, None, Some}
use Rattle.node.specs.declared.event.Event.{Event}
use Rattle.node.specs.declared.outgoing.Outgoing.{Outgoing}
use Rattle.link.specs.Fault as link
use Rattle.link.specs.Image.{Image}
use Rattle.link.specs.declared.fault.LinkFault.TheVariants.{AckOfUnsent}
use Rattle.node.specs.Core.{Core}
use Rattle.node.specs.Step.{Station, Answer, Silent, Says, Declines, step_of}
use Rattle.desk.specs.declared.batch_reply.BatchReply.{BatchReply}

-- whether something changed, or is to be sent
abbrev pub is_done : Answer → Bool
is_done Silent = false
is_done (Says frames) = true
is_done (Declines number frames) = false

-- whether the peer acknowledges a signal that was never offered to it: then it speaks of another history than this
-- node's
abbrev pub shows_other_history : Answer → Bool
shows_other_history Silent = false
shows_other_history (Says frames) = false
shows_other_history (Declines number frames) = nat_eq number (link.number_of AckOfUnsent)

-- whether nothing is said at a peer's end any more, or there is none
abbrev pub is_closed : Option Image → Bool
is_closed None = true
is_closed (Some e) = e.closed

-- the frames that are to be sent, in their order
abbrev pub frames_of : Answer → List Outgoing
frames_of Silent = []
frames_of (Says frames) = frames
frames_of (Declines number frames) = frames

-- the answers to events that come to a station one after the other
abbrev pub answers_of : {View Row : Type 0} → Core View Row → (is_coordinator : Bool) → Station View
    → List Event → List Answer
answers_of core is_coordinator s [] = []
answers_of core is_coordinator s (event ∷ events) =
    (step_of core is_coordinator s event).answer
    ∷ answers_of core is_coordinator (step_of core is_coordinator s event).station events

-- an answer is added to what was said: its frames behind all others, or none of them where there is no memory
pub record IsAdded (answer : Answer) (before after : BatchReply) : Type 0 where
  pub done : after.has_done ≡ (before.has_done || is_done answer)
  pub history : after.shows_other_history ≡ (before.shows_other_history || shows_other_history answer)
  pub frames : (after.frames.items ≡ before.frames.items ++ frames_of answer)
      ⊎ (after.frames.items ≡ before.frames.items)

-- answers are added one after the other
pub data AreAdded (before : BatchReply) : List Answer → BatchReply → Type 0 where
  none : AreAdded before [] before
  one_more : {answers : List Answer} {between : BatchReply} {answer : Answer} {after : BatchReply} →
      AreAdded before answers between → IsAdded answer between after → AreAdded before (answers ++ answer ∷ []) after
