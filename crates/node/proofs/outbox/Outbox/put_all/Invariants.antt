use Rattle.std.proofs.Common.{◌≡◌, take, drop}
use Rattle.node.specs.Mail.{all_posted}
use Rattle.node.specs.Box.{IsReady}
use Rattle.node.proofs.outbox.Outbox.put_all.Given as goal

-- the posts so far are put, and the others can be
abbrev pub invariant-loop-post : goal.invariant-loop-post
invariant-loop-post l = record {
  put : l.self.mail ≡ all_posted l.fn.self.mail (take l.post-index l.posts);
  ready : IsReady l.self (drop l.post-index l.posts);
}
