use Rattle.expand_source.proofs.Braces.{plain_in_front}
use Rattle.expand_source.proofs.filling.plain_front.Goals as goal

pub returns : goal.returns
returns c = rw (c.split_at.ensures.front, c.split_at.ensures.back, c.plain_len.ensures.value) (plain_in_front c.args.text.now)
