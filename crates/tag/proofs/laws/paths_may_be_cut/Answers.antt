use Rattle.tag.proofs.Paths.{path_cut, path_is_logical}
use Rattle.tag.proofs.laws.paths_may_be_cut.Goals as goal

pub returns : goal.returns
returns c = record { cut = path_cut; logical = path_is_logical }
