use Rattle.expand_bodies.proofs.Fronts.{part_before}
use Rattle.expand_bodies.proofs.reading.first_part.Goals as goal

pub returns : goal.returns
returns c = rw (c.split_at.ensures.front, c.split_at.ensures.back, c.part_len.ensures.value) (part_before c.args.text.now c.after_spaces-text.result.now c.after_spaces-text.ensures.spaces)
