use Rattle.std.proofs.Common.{refl, subst}
use Rattle.plan.specs.Federation.{federate_count}
use Rattle.fedrun_reports.specs.Files.{IsFederateFault}
use Rattle.fedrun_commands.specs.ReportFiles.{federate_refused}
use Rattle.fedrun_files.proofs.KnownFiles.{holds_of_file}
use Rattle.fedrun_commands.proofs.TakenInTurn.{file_taken}
use Rattle.fedrun_commands.proofs.auditing.take_file.Goals as goal

pub returns-in-Ok-take_federate-clause-ok : goal.returns-in-Ok-take_federate-clause-ok
returns-in-Ok-take_federate-clause-ok g c =
    file_taken (g.F.Files.contents c.args.files.now c.args.name.now) c.args.digests.now c.args.sources.now c.in-Ok.bytes.items c.as_slice.result.now
    c.args.collector.now.reports c.take_federate.new.collector.reports c.in-Ok.ensures.ok c.as_slice.ensures.value c.in-Ok-take_federate.ensures.taken

pub returns-clause-err : goal.returns-clause-err
returns-clause-err g c =
    let known = g.F.Files.contents c.args.files.now c.args.name.now in
    let why = c.in-Err-take_federate.why in
    let s = c.args.sources.now in
    let digests = c.args.digests.now in
    let reports = c.args.collector.now.reports in
    let here : IsFederateFault (record { count = c.args.collector.now.count; reports = reports }) digests s c.in-Ok.bytes.items why =
    subst (λ bytes. IsFederateFault (record { count = c.args.collector.now.count; reports = reports }) digests s bytes why) c.as_slice.ensures.value
    c.in-Err-take_federate.ensures.fault in
    let stands : IsFederateFault (record { count = federate_count s.plan; reports = reports }) digests s c.in-Ok.bytes.items why =
    subst (λ count. IsFederateFault (record { count = count; reports = reports }) digests s c.in-Ok.bytes.items why) c.requires.of_plan here in
    federate_refused c.in-Ok.ensures.asked why refl
    (holds_of_file (λ bytes. IsFederateFault (record { count = federate_count s.plan; reports = reports }) digests s bytes why) known c.in-Ok.bytes.items
    c.in-Ok.ensures.ok stands)
