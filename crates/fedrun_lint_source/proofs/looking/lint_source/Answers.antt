use Rattle.fedrun_lint_source.proofs.Outcome.{right_files}
use Rattle.fedrun_lint_source.proofs.looking.lint_source.Goals as goal

pub returns : goal.returns
returns g c =
    right_files c.look_at.result (g.F.Files.contents c.args.files.now) (g.F.Files.contents c.bytes_of.new.files) c.args.request.now.federation.now c.args.request.now.inputs.now
    c.in-Ok.bytes.items c.as_slice.result.now c.in-Ok-input_bytes.bytes.items c.as_slice-2.result.now (g.O.Write.contents c.args.out.now) (g.O.Write.contents c.look_at.new.out)
    c.in-Ok.ensures.same c.in-Ok.ensures.ok c.in-Ok-input_bytes.ensures c.as_slice.ensures.value c.as_slice-2.ensures.value c.look_at.ensures
