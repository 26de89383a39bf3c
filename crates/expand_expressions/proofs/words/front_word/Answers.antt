use Rattle.expand_expressions.proofs.Fronts.{word_in_front}
use Rattle.expand_expressions.proofs.words.front_word.Goals as goal

pub returns-clause-parts : goal.returns-clause-parts
returns-clause-parts c = rw (c.split_at.ensures.front, c.split_at.ensures.back, c.word_len.ensures.value) (word_in_front c.args.text.now)
