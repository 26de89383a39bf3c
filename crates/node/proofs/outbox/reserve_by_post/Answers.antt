use Rattle.std.proofs.Common.{◌≡◌, ◌+◌, ◌∷◌, ◌++◌, [], false, arith, take, ◌∙◌}
use Rattle.std.proofs.lemmas.List.{take_all, take_more}
use Rattle.node.specs.Mail.{count_for, lacks_at}
use Rattle.node.specs.Box.{images, reserves}
use Rattle.node.proofs.Posts.{one_lacks, room_named, memory_named, room_for_named, memory_for_named}
use Rattle.node.proofs.outbox.reserve_by_post.Goals as goal

pub returns-in_err-reserve_end-clause-answer : goal.returns-in_err-reserve_end-clause-answer
returns-in_err-reserve_end-clause-answer c =
    grind (
      arith,
      one_lacks (images c.args.ends.now.items) c.args.posts.now c.post-item.result.peer,
      c.loop-post.invariant.same,
      c.reserve_end.ensures.answer,
      c.count_for.ensures,
      c.in_err-reserve_end.was,
      c.from_residual.ensures,
    )

pub loop-post-preserved : goal.loop-post-preserved
loop-post-preserved c =
    let more : take (c.loop-post.post-index + 1) c.args.posts.now ≡ take c.loop-post.post-index c.args.posts.now ++ c.post-item.result ∷ [] =
    grind (arith, take_more c.args.posts.now c.loop-post.post-index c.post-item.result, c.post-item.is) in
    let here : lacks_at c.post-item.result.peer (count_for c.post-item.result.peer c.args.posts.now) (images c.args.ends.now.items) ≡ false =
    grind (arith, c.loop-post.invariant.same, c.reserve_end.ensures.answer, c.count_for.ensures, c.in_ok-reserve_end.was) in
    record {
      same = c.reserve_end.ensures.images ∙ c.loop-post.invariant.same;
      room = rw more (room_named (images c.args.ends.now.items) c.args.posts.now (take c.loop-post.post-index c.args.posts.now) c.post-item.result
          c.loop-post.invariant.room here);
      memory = rw more (memory_named (images c.loop-post.ends.items) (images c.reserve_end.new.ends.items)
          (reserves c.loop-post.ends.items) (reserves c.reserve_end.new.ends.items)
          c.args.posts.now (take c.loop-post.post-index c.args.posts.now) c.post-item.result
          c.reserve_end.ensures.images c.loop-post.invariant.memory c.reserve_end.ensures.none_lost
          (rw (← c.count_for.ensures) c.in_ok-reserve_end.ensures.memory));
    }

pub returns-clause-answer : goal.returns-clause-answer
returns-clause-answer c _ =
    let all : take c.loop-post.post-index c.args.posts.now ≡ c.args.posts.now = take_all c.loop-post.post-index c.args.posts.now c.loop-post-test.false in
    let room = room_for_named (images c.args.ends.now.items) c.args.posts.now (λ p named. c.loop-post.invariant.room p (rw all named)) in
    grind (arith, room)

pub returns-clause-memory : goal.returns-clause-memory
returns-clause-memory c =
    let all : take c.loop-post.post-index c.args.posts.now ≡ c.args.posts.now = take_all c.loop-post.post-index c.args.posts.now c.loop-post-test.false in
    memory_for_named (images c.loop-post.ends.items) (reserves c.loop-post.ends.items) c.args.posts.now
    (λ p named. c.loop-post.invariant.memory p (rw all named))
