use Rattle.std.proofs.Common.{refl, subst}
use Rattle.files_script.specs.Scripts.{IsScriptOf, IsFaultOf}
use Rattle.fedrun_commands.specs.Refused.{schedule_refused}
use Rattle.fedrun_files.proofs.KnownFiles.{holds_of_file}
use Rattle.fedrun_commands.proofs.schedules.read_schedule.Goals as goal

pub returns-clause-err : goal.returns-clause-err
returns-clause-err g c =
    let known = g.F.Files.contents c.args.files.now c.args.name.now in
    let stands : IsFaultOf c.args.plan.now c.in-Ok.bytes.items c.in-Err-read_script.fault =
    subst (λ bytes. IsFaultOf c.args.plan.now bytes c.in-Err-read_script.fault) c.as_slice.ensures.value c.in-Err-read_script.ensures.refused in
    schedule_refused c.in-Ok.ensures.asked c.in-Err-read_script.fault refl
    (holds_of_file (λ bytes. IsFaultOf c.args.plan.now bytes c.in-Err-read_script.fault) known c.in-Ok.bytes.items c.in-Ok.ensures.ok stands)

pub returns-in-Ok-read_script-clause-ok : goal.returns-in-Ok-read_script-clause-ok
returns-in-Ok-read_script-clause-ok g c = record {
  bytes = c.in-Ok.bytes.items;
  bytes_are = c.in-Ok.ensures.ok;
  says = subst (λ bytes. IsScriptOf c.args.plan.now bytes c.in-Ok-read_script.script) c.as_slice.ensures.value c.in-Ok-read_script.ensures.ok;
}
