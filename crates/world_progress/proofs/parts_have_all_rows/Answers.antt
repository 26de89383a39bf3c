use Rattle.world_progress.proofs.Parts.{parts_of_whole, parts_in_the_end, no_more_rows}
use Rattle.world_progress.proofs.parts_have_all_rows.Goals as goal

pub returns : goal.returns
returns c = record { any_turns = parts_of_whole; in_the_end = parts_in_the_end; no_more = no_more_rows }
