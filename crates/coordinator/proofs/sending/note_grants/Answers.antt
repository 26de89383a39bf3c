use Rattle.std.proofs.Common.{◌≡◌, ◌+◌, ◌++◌, ◌∷◌, [], take, arith, ap, ◌∙◌}
use Rattle.std.proofs.lemmas.List.{take_more}
use Rattle.coordinator.proofs.Sent.{noted_tag, noted_other}
use Rattle.coordinator.proofs.sending.note_grants.Goals.{in-Tag, in_default}
use Rattle.coordinator.proofs.sending.note_grants.Goals as goal

pub loop-post-preserved : goal.loop-post-preserved
loop-post-preserved c =
    let more : take (c.loop-post.post-index + 1) c.args.posts.now ≡ take c.loop-post.post-index c.args.posts.now ++ c.post-item.result ∷ [] =
    grind (arith, take_more c.args.posts.now c.loop-post.post-index c.post-item.result, c.post-item.is) in
    elim c.match-post.branch [
      | in-Tag w ↦ record {
        wiring = ap (λ r. r.wiring) (w.table-is ∙ w.set_granted.ensures.value) ∙ c.loop-post.invariant.wiring;
        federate_records = noted_tag c.args.table.now.federate_records c.loop-post.table c.match-post.table c.args.posts.now c.loop-post.post-index w.set_granted.new.self.looks
            c.post-item.result w.in-Tag.tag c.loop-post.invariant.federate_records more w.in-Tag.is (w.table-is ∙ w.set_granted.ensures.value);
      }
      | in_default w ↦ record {
        wiring = ap (λ r. r.wiring) w.table-is ∙ c.loop-post.invariant.wiring;
        federate_records = ap (λ r. r.federate_records) w.table-is ∙
            noted_other c.args.table.now.federate_records c.loop-post.table c.args.posts.now c.loop-post.post-index c.post-item.result c.loop-post.invariant.federate_records more w.in_default.not-Tag;
      }
    ]
