use Rattle.std.proofs.Common.{◌≡◌, ◌≤◌, length, take}
use Rattle.node_journal.proofs.blocks.Blocks.truncate.Given as goal

-- this many are left so far
abbrev pub invariant-loop-place : goal.invariant-loop-place
invariant-loop-place l = record {
  left : l.self ≡ take l.place l.initial.self;
  within : l.place ≤ length l.initial.self;
  above : l.count ≤ l.place;
}
