use Rattle.std.proofs.Common.{◌≡◌, ◌+◌, ◌∷◌, ◌++◌, [], arith, take, drop, drop-cons}
use Rattle.std.proofs.lemmas.List.{take_more}
use Rattle.node.proofs.Posts.{all_posted_push, ready_first, ready_rest}
use Rattle.node.proofs.outbox.Outbox.put_all.Goals as goal

pub put-requires-clause-ready : goal.put-requires-clause-ready
put-requires-clause-ready c =
    let cut : drop c.loop-post.post-index c.args.posts.now ≡ c.post-item.result ∷ drop (c.loop-post.post-index + 1) c.args.posts.now =
    grind (arith, drop-cons c.args.posts.now c.loop-post.post-index c.post-item.result, c.post-item.is) in
    ready_first c.loop-post.self c.post-item.result (drop (c.loop-post.post-index + 1) c.args.posts.now) (rw (← cut) c.loop-post.invariant.ready)

pub loop-post-preserved : goal.loop-post-preserved
loop-post-preserved c =
    let cut : drop c.loop-post.post-index c.args.posts.now ≡ c.post-item.result ∷ drop (c.loop-post.post-index + 1) c.args.posts.now =
    grind (arith, drop-cons c.args.posts.now c.loop-post.post-index c.post-item.result, c.post-item.is) in
    let more : take (c.loop-post.post-index + 1) c.args.posts.now ≡ take c.loop-post.post-index c.args.posts.now ++ c.post-item.result ∷ [] =
    grind (arith, take_more c.args.posts.now c.loop-post.post-index c.post-item.result, c.post-item.is) in
    let push = all_posted_push c.args.self.now.mail (take c.loop-post.post-index c.args.posts.now) c.post-item.result in
    record {
      put = rw (more, push, ← c.loop-post.invariant.put) c.put.ensures.put;
      ready = ready_rest c.loop-post.self c.put.new.self c.post-item.result (drop (c.loop-post.post-index + 1) c.args.posts.now)
          (rw (← cut) c.loop-post.invariant.ready) c.put.ensures.put c.put.ensures.one_used c.put.ensures.place_used;
    }
