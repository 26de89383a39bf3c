use Rattle.tag_text.proofs.ReadBack.{printed_time_spelled}
use Rattle.tag_text.proofs.laws.printed_times_spell_themselves.Goals as goal

pub returns : goal.returns
returns c = printed_time_spelled
