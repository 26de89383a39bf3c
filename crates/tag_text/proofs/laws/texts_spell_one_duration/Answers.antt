use Rattle.tag_text.proofs.Spellings.{one_value}
use Rattle.tag_text.proofs.laws.texts_spell_one_duration.Goals as goal

pub returns : goal.returns
returns c = one_value
