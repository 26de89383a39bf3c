use Rattle.std.proofs.Common.{IfErr, subst}
use Rattle.fedrun_files.specs.Answers.{Answers}
use Rattle.fedrun_commands.specs.Refused.{IsFaultOfRun}
use Rattle.fedrun_commands.proofs.running.record_run.Goals as goal

pub returns-clause-stands : goal.returns-clause-stands
returns-clause-stands g c =
    subst (λ run. IfErr c.run_and_print.result (IsFaultOfRun run (g.F.Files.contents c.args.files.now)
    (Answers (g.F.Files.answers c.args.files.now) (g.F.Files.answers c.run_and_print.new.files))
    (g.O.Write.contents c.args.out.now) (g.O.Write.contents c.run_and_print.new.out)))
    c.steps_of-run.ensures c.run_and_print.ensures.stands
