use Rattle.std.proofs.Common.{◌≡◌, ℕ, false, arith, ◌∙◌}
use Rattle.std.proofs.lemmas.Option.{slice_get_past, slice_get_within}
use Rattle.std.proofs.lemmas.List.{length-map}
use Rattle.node.specs.Mail.{count_for, lacks_at}
use Rattle.node.specs.Box.{images, reserves}
use Rattle.node.proofs.Ends.{room_for_all}
use Rattle.node.proofs.Posts.{one_lacks, room_more, memory_more}
use Rattle.node.proofs.outbox.reserve_by_end.Goals as goal

pub returns-in_err-reserve_end-clause-answer : goal.returns-in_err-reserve_end-clause-answer
returns-in_err-reserve_end-clause-answer c =
    grind (
      arith,
      one_lacks (images c.args.ends.now.items) c.args.posts.now c.loop-peer.peer,
      c.loop-peer.invariant.same,
      c.reserve_end.ensures.answer,
      c.count_for.ensures,
      c.in_err-reserve_end.was,
      c.from_residual.ensures,
    )

pub loop-peer-preserved : goal.loop-peer-preserved
loop-peer-preserved c =
    let here : lacks_at c.loop-peer.peer (count_for c.loop-peer.peer c.args.posts.now) (images c.args.ends.now.items) ≡ false =
    grind (arith, c.loop-peer.invariant.same, c.reserve_end.ensures.answer, c.count_for.ensures, c.in_ok-reserve_end.was) in
    record {
      same = c.reserve_end.ensures.images ∙ c.loop-peer.invariant.same;
      room = room_more (images c.args.ends.now.items) c.args.posts.now c.loop-peer.peer c.loop-peer.invariant.room here;
      memory = memory_more (images c.loop-peer.ends.items) (images c.reserve_end.new.ends.items) (reserves c.loop-peer.ends.items) (reserves c.reserve_end.new.ends.items)
          c.args.posts.now c.loop-peer.peer c.reserve_end.ensures.images c.loop-peer.invariant.memory c.reserve_end.ensures.none_lost
          (rw (← c.count_for.ensures) c.in_ok-reserve_end.ensures.memory);
    }

pub returns-clause-answer : goal.returns-clause-answer
returns-clause-answer c _ =
    let each : (p : ℕ) → lacks_at p (count_for p c.args.posts.now) (images c.args.ends.now.items) ≡ false =
    λ p. grind (arith, c.loop-peer.invariant.room p, slice_get_past (images c.args.ends.now.items) p, c.loop-peer-test.false, c.len-peer-end.ensures, length-map) in
    let none = room_for_all (images c.args.ends.now.items) c.args.posts.now each in
    grind (arith, none)

pub returns-clause-memory : goal.returns-clause-memory
returns-clause-memory c p e found unclosed =
    grind (arith, c.loop-peer.invariant.memory p, c.loop-peer.invariant.same, slice_get_within (images c.loop-peer.ends.items) p e found, c.loop-peer-test.false, c.len-peer-end.ensures, length-map)
