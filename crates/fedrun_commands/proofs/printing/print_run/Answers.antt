use Rattle.std.proofs.Common.{rules}
use Rattle.fedrun_run.specs.Printed.{PrintsAudited}
use Rattle.fedrun_commands.proofs.Runs.{audited_kept}
use Rattle.fedrun_files.proofs.Results.{on_ok_always}
use Rattle.fedrun_commands.proofs.printing.print_run.Goals as goal

pub returns-in-Ok-clause-ok : goal.returns-in-Ok-clause-ok
returns-in-Ok-clause-ok g c =
    let before = g.O.Write.contents c.args.out.now in
    let mid = g.O.Write.contents c.print_audited_run.new.out in
    let printed : PrintsAudited c.args.run.now.output c.args.sources.now.plan c.args.sources.now.programs c.args.sources.now.inputs before mid = search rules in
    on_ok_always c.flush.result (audited_kept c.args.run.now.output c.args.sources.now.plan c.args.sources.now.programs c.args.sources.now.inputs before mid
    (g.O.Write.contents c.flush.new.out) printed c.flush.ensures.kept)
