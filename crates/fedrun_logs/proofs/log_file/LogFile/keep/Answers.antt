use Rattle.std.proofs.Common.{ℕ, List, ◌++◌, ◌∙◌, sym, ap, subst, false}
use Rattle.files_logs.specs.Reading.{IsWholeLog}
use Rattle.fedrun_logs.proofs.Going.{block_kept}
use Rattle.fedrun_logs.proofs.log_file.LogFile.keep.Goals as goal

pub returns-clause-goes_on : goal.returns-clause-goes_on
returns-clause-goes_on g c known head journal told whole =
    let old = g.D.Device.synced c.self.inside.log.device in
    let inside = subst (λ f. IsWholeLog head (g.D.Device.synced f.log.device) f.sum journal told false) (sym c.self.view_is) whole in
    block_kept head old (g.D.Device.synced c.keep.new.self.device) c.self.inside.sum c.in_ok-written.written.sum journal c.args.events.now told c.args.is_told
    (c.in_ok-keep.ensures.kept known ∙ ap (λ (b : List ℕ). old ++ b) (c.as_slice.ensures.value ∙ c.in_ok-written.ensures.written)) c.in_ok-written.ensures.sum c.in_ok-written.ensures.are_blocks inside
