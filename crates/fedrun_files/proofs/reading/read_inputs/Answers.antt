use Rattle.std.proofs.Common.{rules}
use Rattle.loadfed.specs.InputShape.{HasInputFileFault}
use Rattle.fedrun_files.specs.Contents.{AreBytesOf}
use Rattle.fedrun_files.specs.Answers.{Answers}
use Rattle.fedrun_files.proofs.InTurn.{none_answered}
use Rattle.fedrun_files.specs.Loaded.{input_file}
use Rattle.fedrun_files.specs.Refused.{asked_inputs, input_unloaded}
use Rattle.fedrun_files.proofs.KnownFiles.{unloaded_file}
use Rattle.fedrun_files.proofs.reading.read_inputs.Goals as goal

pub returns-clause-err : goal.returns-clause-err
returns-clause-err g c =
    let known = input_file (g.F.Files.contents c.args.files.now) c.args.name.now in
    let are : AreBytesOf known c.if-eq.bytes.items = search rules in
    let asked : Answers (g.F.Files.answers c.args.files.now) (g.F.Files.answers c.if-eq.files) (asked_inputs c.args.name.now) = search (rules, none_answered) in
    input_unloaded asked (unloaded_file (HasInputFileFault c.args.plan.now) known c.if-eq.bytes.items c.as_slice.result.now c.in-Err.fault
    are c.as_slice.ensures.value c.in-Err.ensures.outcome)
