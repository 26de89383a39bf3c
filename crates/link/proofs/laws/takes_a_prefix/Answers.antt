use Rattle.link.proofs.Prefixes.{take-after_all, length-taken_of, taken-after_all}
use Rattle.link.proofs.laws.takes_a_prefix.Goals as goal

pub returns : goal.returns
returns c = record { goes_on = take-after_all; each_once = length-taken_of; offered_only = taken-after_all }
