use Rattle.files_saving.specs.Contents.{KnownOf}
use Rattle.fedrun_expand.specs.Saved.{AreSaved}
use Rattle.fedrun_expand.proofs.saving.save_each.Given as goal

abbrev pub invariant-loop-k : goal.invariant-loop-k
invariant-loop-k g l =
    KnownOf (g.D.Disk.contents l.initial.disk) (g.D.Disk.contents l.disk) (AreSaved l.source l.given l.each l.k)
