use Rattle.fedrun_record_laws.proofs.PlayedAgain.{prints_again}
use Rattle.fedrun_record_laws.proofs.laws.a_replay_of_recorded_steps_has_the_rows.Goals as goal

pub returns : goal.returns
returns c = λ claim steps s before after recorded proved is replayed. prints_again claim steps proved s before after recorded is replayed
