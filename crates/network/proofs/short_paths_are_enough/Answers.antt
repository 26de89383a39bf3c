use Rattle.network.proofs.Lawful.{short_path}
use Rattle.network.proofs.short_paths_are_enough.Goals as goal

pub returns : goal.returns
returns c = λ n i j path lawful is_path.
    let s = short_path n i j path lawful is_path in
    (s.path, s.is_path, s.few, s.total)
