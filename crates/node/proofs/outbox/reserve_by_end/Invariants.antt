use Rattle.std.proofs.Common.{◌≡◌, ◌<◌, ℕ, false}
use Rattle.node.specs.Mail.{count_for, lacks_at}
use Rattle.node.specs.Box.{HasMemory, images, reserves}
use Rattle.node.proofs.outbox.reserve_by_end.Given as goal

-- the ends so far have room and memory
abbrev pub invariant-loop-peer : goal.invariant-loop-peer
invariant-loop-peer l = record {
  same : images l.ends.items ≡ images l.fn.ends.items;
  room : (p : ℕ) → p < l.peer → lacks_at p (count_for p l.posts) (images l.fn.ends.items) ≡ false;
  memory : (p : ℕ) → p < l.peer → HasMemory (images l.ends.items) (reserves l.ends.items) p (count_for p l.posts);
}
