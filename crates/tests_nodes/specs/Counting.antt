-- A node that counts the messages that it sends and takes: the connection of each is how many came before it.
use Rattle.std.specs.Prelude.{ℕ, ◌+◌, pos, false, true, if◌then◌else◌, nat_eq, nat_lt, [], ◌∷◌, refl}
use Rattle.tag.specs.LogicalTime.{origin}
use Rattle.signal.specs.declared.signal.Signal.{Signal}
use Rattle.signal.specs.declared.signal.Signal.TheVariants.{Net, Ltc, Tag, Msg}
use Rattle.protocol.specs.declared.refusal.Refusal.{Refusal}
use Rattle.protocol.specs.Outcome.{Outcome, Refused, Nothing, Done}
use Rattle.protocol.specs.declared.post.Post.{Post}
use Rattle.node.specs.Core.{Core, Made, GoesOn, IsCore}
use Rattle.tests_nodes.specs.declared.counter.Counter.{Counter}

-- the answer to a peer's NET
abbrev pub grant_to : ℕ → Post
grant_to peer = record { peer = peer; signal = Tag origin }

-- the next message, to the first peer
abbrev pub next_message : Counter → Post
next_message v = record { peer = 0; signal = Msg v.sent origin (pos 0) }

-- a NET is answered; a message is taken in its turn alone; a TAG is refused, as a coordinator does
abbrev pub accepts : Counter → ℕ → Signal → Outcome (Made Counter)
accepts v peer (Net tag) = Done (record { after = v; sent = grant_to peer ∷ [] })
accepts v peer (Ltc tag) = Nothing
accepts v peer (Tag tag) = Refused Refusal.NotForCoordinator
accepts v peer (Msg connection tag value) =
    if nat_eq connection v.taken
    then Done (record { after = record v { taken = v.taken + 1 }; sent = [] })
    else Refused Refusal.WrongSignal

-- a hundred messages are sent
abbrev pub advances : Counter → Outcome (Made Counter)
advances v =
    if nat_lt v.sent 100 then Done
    (record { after = record v { sent = v.sent + 1 }; sent = next_message v ∷ [] }) else Nothing

abbrev pub counting : Core Counter ℕ
counting = record {
  accept = accepts;
  announce = λ v. Nothing;
  advance = advances;
  rows = λ v. [];
  finished = λ v. false;
  initial = λ v. record { sent = 0; taken = 0 };
  may_send = λ v posts. true;
}

-- it has no rows, and all counters are made from the same: so each step goes on
stands : (before after : Counter) → GoesOn counting before after
stands before after = record { rows = ([], refl); initial = refl }

pub goes_on : IsCore counting
goes_on = record {
  accept = λ v peer signal made is. stands v made.after;
  announce = λ v made is. stands v made.after;
  advance = λ v made is. stands v made.after;
}
