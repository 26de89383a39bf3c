use Rattle.std.proofs.Common.{◌≡◌, ◌∙◌, ◌++◌, ap, sym, subst, refl, length, take, drop}
use Rattle.std.proofs.Math.Seq.{take-append_seam}
use Rattle.node_journal.specs.Slips.{AreFilled, slips_of}
use Rattle.node_journal.proofs.SlipLists.{count_turns}
use Rattle.node_journal.proofs.blocks.Blocks.add_turns.Goals as goal

-- the last block took the turns in
pub invariant_of-self : goal.invariant_of-self
invariant_of-self c =
    let before = c.deref_mut.result.now in
    let after = c.extend_last_turns.new.blocks in
    let rest = drop (length after) c.self.inside.blocks.items in
    let sized : length after ≡ c.self.inside.blocks.len = c.extend_last_turns.auto.blocks ∙ c.deref_mut.ensures.len in
    let kept : take c.self.inside.blocks.len (after ++ rest) ≡ after = ap (λ n. take n (after ++ rest)) (sym sized) ∙ take-append_seam after rest in
    let counted : c.self.inside.count ≡ length (slips_of before) = c.self.invariant.counted ∙ ap (λ blocks. length (slips_of blocks)) (sym c.deref_mut.ensures.value) in
    rw kept (record {
      filled = c.if-extend_last_turns.ensures.filled refl (subst AreFilled (sym c.deref_mut.ensures.value) c.self.invariant.filled);
      counted = count_turns (slips_of before) (slips_of after) c.args.place c.args.count c.self.inside.count (c.if-extend_last_turns.ensures.extended refl) counted;
    })
