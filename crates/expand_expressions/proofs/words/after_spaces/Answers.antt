use Rattle.expand_expressions.proofs.Fronts.{behind_spaces}
use Rattle.expand_expressions.proofs.words.after_spaces.Goals as goal

pub returns-clause-spaces : goal.returns-clause-spaces
returns-clause-spaces c = rw (c.split_at.ensures.back, c.spaces_len.ensures.value) (behind_spaces c.args.text.now)
