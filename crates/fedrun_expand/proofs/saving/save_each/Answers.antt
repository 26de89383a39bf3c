use Rattle.std.proofs.Common.{arith}
use Rattle.fedrun_expand.proofs.Files.{none_saved, one_more_saved, all_saved}
use Rattle.fedrun_expand.proofs.saving.save_each.Goals as goal

pub loop-k-init : goal.loop-k-init
loop-k-init g c = none_saved c.args.source.now c.args.given.now c.args.each (g.D.Disk.contents c.args.disk.now)

pub loop-k-preserved : goal.loop-k-preserved
loop-k-preserved g c =
    one_more_saved c.args.source.now c.args.given.now c.args.each c.loop-k.k (g.D.Disk.contents c.args.disk.now) (g.D.Disk.contents c.loop-k.disk) (g.D.Disk.contents c.save_one.new.disk)
    c.loop-k.invariant c.in-Ok.ensures.saved

pub returns-clause-saved : goal.returns-clause-saved
returns-clause-saved g c =
    all_saved c.args.source.now c.args.given.now c.args.each c.loop-k.k (g.D.Disk.contents c.args.disk.now) (g.D.Disk.contents c.loop-k.disk) (omega arith) (omega arith) c.loop-k.invariant
