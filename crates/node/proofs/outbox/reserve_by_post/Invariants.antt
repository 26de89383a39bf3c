use Rattle.std.proofs.Common.{◌≡◌, ◌≤◌, ℕ, false, take}
use Rattle.node.specs.Mail.{count_for, lacks_at}
use Rattle.node.specs.Box.{HasMemory, images, reserves}
use Rattle.node.proofs.outbox.reserve_by_post.Given as goal

-- the peers of the posts so far have room and memory
abbrev pub invariant-loop-post : goal.invariant-loop-post
invariant-loop-post l = record {
  same : images l.ends.items ≡ images l.fn.ends.items;
  room : (p : ℕ) → 1 ≤ count_for p (take l.post-index l.posts) → lacks_at p (count_for p l.posts) (images l.fn.ends.items) ≡ false;
  memory : (p : ℕ) → 1 ≤ count_for p (take l.post-index l.posts) → HasMemory (images l.ends.items) (reserves l.ends.items) p (count_for p l.posts);
}
