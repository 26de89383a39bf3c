-- What a node says of itself, for stations that know no more of it, and what its calls come to.
use Rattle.std.specs.Prelude.{◌≡◌, ℕ, Bool, true, false, IsTrue, if◌then◌else◌, List, ◌++◌, Result, Ok, Err}
use Rattle.signal.specs.declared.signal.Signal.{Signal}
use Rattle.protocol.specs.declared.refusal.Refusal.{Refusal}
use Rattle.protocol.specs.Outcome.{Outcome, Refused, Nothing, Done}
use Rattle.protocol.specs.declared.post.Post.{Post}
use Rattle.node.specs.declared.fault.NodeFault.{NodeFault}
use Rattle.node.specs.declared.fault.NodeFault.TheVariants as fault
use Rattle.node.specs.Mail.{Mail, all_posted, lacks_room}

-- what a step of a node makes: the node after it, and the signals to its peers, in order
pub record Made (View : Type 0) : Type 0 where
  pub after : View
  pub sent : List Post

-- the step functions of a node, and what can be read of it
pub record Core (View Row : Type 0) : Type 0 where
  -- what it does with a peer's signal
  pub accept : View → ℕ → Signal → Outcome (Made View)
  -- what it says by itself
  pub announce : View → Outcome (Made View)
  pub advance : View → Outcome (Made View)
  pub rows : View → List Row
  pub finished : View → Bool
  -- the node at the start, as it was made
  pub initial : View → View
  -- whether it may send these signals in one step
  pub may_send : View → List Post → Bool

-- a node goes on: its rows stay and more may follow, and what it was made from stays
pub record GoesOn {View Row : Type 0} (core : Core View Row) (before after : View) : Type 0 where
  pub rows : (more : List Row) × (core.rows after ≡ core.rows before ++ more)
  pub initial : core.initial after ≡ core.initial before

-- what every node owes: each step goes on
pub record IsCore {View Row : Type 0} (core : Core View Row) : Type 0 where
  pub accept : (v : View) (peer : ℕ) (signal : Signal) (made : Made View) → core.accept v peer signal ≡ Done made
      → GoesOn core v made.after
  pub announce : (v : View) (made : Made View) → core.announce v ≡ Done made → GoesOn core v made.after
  pub advance : (v : View) (made : Made View) → core.advance v ≡ Done made → GoesOn core v made.after

-- what a call of a node comes to, memory aside: the signal is refused, a link has no room for what it would send, there
-- is nothing to do, or it is done
pub data Ending (View : Type 0) : Type 0 where
  Refuses : (refusal : Refusal) → Ending View
  LacksRoom : Ending View
  Stays : Ending View
  Moves : (after : View) → (mail : Mail) → Ending View

-- a step is done if there is room for what it sends
abbrev pub sends : {View : Type 0} → Mail → Made View → Ending View
sends m made = if lacks_room m.ends made.sent then LacksRoom else Moves made.after (all_posted m made.sent)

-- what a call of a node comes to, by its step function
abbrev pub ending_of : {View : Type 0} → Mail → Outcome (Made View) → Ending View
ending_of m (Refused refusal) = Refuses refusal
ending_of m Nothing = Stays
ending_of m (Done made) = sends m made

-- what the call answers: whether it changed or sent anything
abbrev pub answer_of : {View : Type 0} → Ending View → Result Bool NodeFault
answer_of (Refuses refusal) = Err (fault.Refused refusal)
answer_of LacksRoom = Err fault.NoRoom
answer_of Stays = Ok false
answer_of (Moves after mail) = Ok true

-- the node after the call
abbrev pub node_after : {View : Type 0} → View → Ending View → View
node_after v (Refuses refusal) = v
node_after v LacksRoom = v
node_after v Stays = v
node_after v (Moves after mail) = after

-- the ends and frames after the call
abbrev pub mail_after : {View : Type 0} → Mail → Ending View → Mail
mail_after m (Refuses refusal) = m
mail_after m LacksRoom = m
mail_after m Stays = m
mail_after m (Moves after mail) = mail

-- a call is what its step function says
pub record IsCall {View : Type 0} (before after : View) (mail mail_then : Mail) (answer : Result Bool NodeFault)
    (outcome : Outcome (Made View)) : Type 0 where
  pub answers : answer ≡ answer_of (ending_of mail outcome)
  pub node : after ≡ node_after before (ending_of mail outcome)
  pub posts : mail_then ≡ mail_after mail (ending_of mail outcome)

-- the step function doesn't refuse
abbrev pub Allows : {View : Type 0} → Outcome (Made View) → Type 0
Allows (Refused refusal) = ⊥
Allows Nothing = Unit {0}
Allows (Done made) = Unit {0}

-- what it sends may be sent
abbrev pub SendsOnly : {View : Type 0} → (List Post → Bool) → Outcome (Made View) → Type 0
SendsOnly may_send (Refused refusal) = Unit {0}
SendsOnly may_send Nothing = Unit {0}
SendsOnly may_send (Done made) = IsTrue (may_send made.sent)
