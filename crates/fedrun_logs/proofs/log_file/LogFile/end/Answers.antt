use Rattle.std.proofs.Common.{◌∙◌, sym, subst, refl, false}
use Rattle.files_logs.specs.Reading.{IsWholeLog}
use Rattle.fedrun_logs.proofs.Going.{ended, end_kept}
use Rattle.fedrun_logs.proofs.log_file.LogFile.end.Goals as goal

pub returns-clause-ends : goal.returns-clause-ends
returns-clause-ends g c known head journal told whole =
    let old = g.D.Device.synced c.self.inside.log.device in
    let new = g.D.Device.synced c.keep.new.self.device in
    let inside = subst (λ f. IsWholeLog head (g.D.Device.synced f.log.device) f.sum journal told false) (sym c.self.view_is) whole in
    let kept = end_kept old (g.D.Device.synced c.read.new.self.device) new c.as_slice.result.now c.as_slice-3.result.now c.self.inside.sum (c.in_ok-keep.ensures.kept known) (c.read.ensures.same known)
    (c.as_slice-3.ensures.value ∙ c.in_ok-end.ensures) (c.as_slice.ensures.value ∙ c.in_ok-bytes.ensures.read known) in
    ended head old new c.self.inside.sum c.self.inside.sum journal told kept refl inside
