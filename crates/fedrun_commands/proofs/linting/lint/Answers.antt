use Rattle.std.proofs.Common.{[], ◌∷◌, ◌++◌, ap}
use Rattle.fedrun_files.specs.Answers.{Answers, refused}
use Rattle.fedrun_files.proofs.InTurn.{answered_in_turn}
use Rattle.fedrun_commands.specs.Linted.{file_of, federation_unread, inputs_unread, schedule_unread}
use Rattle.fedrun_commands.specs.ReadSchedules.{schedule_of}
use Rattle.fedrun_commands.proofs.LookedAt.{are_files, schedule_later}
use Rattle.fedrun_commands.proofs.Reported.{lint_done, lint_stands, lint_told}
use Rattle.fedrun_commands.proofs.linting.lint.Goals as goal

pub returns-in-Err-clause-stands : goal.returns-in-Err-clause-stands
returns-in-Err-clause-stands g c =
    federation_unread (record { why = c.in-Err.why; not_long = c.in-Err.ensures.err.0; fault_is = c.fault_of.ensures; answer = c.in-Err.ensures.err.1 })

pub returns-in-Err-inputs_if_few-clause-stands : goal.returns-in-Err-inputs_if_few-clause-stands
returns-in-Err-inputs_if_few-clause-stands g c =
    let earlier = c.in-Ok.ensures.one.0 in
    inputs_unread earlier
    (record {
      why = c.in-Err-inputs_if_few.why;
      not_long = c.in-Err-inputs_if_few.ensures.err.0;
      fault_is = c.fault_of-in-Err-inputs_if_few.ensures;
      answer =
          answered_in_turn (g.F.Files.answers c.args.files.now) (g.F.Files.answers c.bytes_if_few.new.files) (g.F.Files.answers c.inputs_if_few.new.files)
          (earlier ∷ []) (refused c.args.request.now.inputs.now c.in-Err-inputs_if_few.why ∷ []) c.in-Ok.ensures.one.1 c.in-Err-inputs_if_few.ensures.err.1;
    })

pub returns-in-Err-schedule_if_few-clause-stands : goal.returns-in-Err-schedule_if_few-clause-stands
returns-in-Err-schedule_if_few-clause-stands g c =
    let old = g.F.Files.answers c.args.files.now in
    let next = g.F.Files.answers c.bytes_if_few.new.files in
    let last = g.F.Files.answers c.inputs_if_few.new.files in
    let new = g.F.Files.answers c.schedule_if_few.new.files in
    let first = c.in-Ok.ensures.one in
    let second = c.in-Ok-inputs_if_few.ensures.answered in
    let earlier = (first.0 ∷ []) ++ second.0 in
    schedule_unread earlier
    (schedule_later (Answers last new) (λ later. Answers old new (earlier ++ later)) c.args.request.now.schedule c.in-Err-schedule_if_few.fault
    (λ later asked. answered_in_turn old last new earlier later (answered_in_turn old next last (first.0 ∷ []) second.0 first.1 second.1) asked)
    c.in-Err-schedule_if_few.ensures.err)

pub returns-clause-ok : goal.returns-clause-ok
returns-clause-ok g c =
    lint_done (g.F.Files.contents c.args.files.now) (g.O.Write.contents c.args.out.now) (g.O.Write.contents c.print_lint.new.out) c.args.request.now
    (file_of c.args.request.now.federation.now c.in-Ok.bytes) (file_of c.args.request.now.inputs.now c.in-Ok-inputs_if_few.bytes) (schedule_of c.in-Ok-schedule_if_few.file)
    (are_files (g.F.Files.contents c.args.files.now) (g.F.Files.contents c.bytes_if_few.new.files) (g.F.Files.contents c.inputs_if_few.new.files) c.args.request.now c.in-Ok.bytes
    c.in-Ok-inputs_if_few.bytes (schedule_of c.in-Ok-schedule_if_few.file) c.in-Ok.ensures.same c.in-Ok-inputs_if_few.ensures.same c.in-Ok.ensures.ok c.in-Ok-inputs_if_few.ensures.ok
    c.in-Ok-schedule_if_few.ensures.ok)
    c.print_lint.result c.print_lint.ensures.ok

pub returns-clause-stands : goal.returns-clause-stands
returns-clause-stands g c =
    lint_stands (g.F.Files.contents c.args.files.now) (g.O.Write.contents c.args.out.now) (g.O.Write.contents c.print_lint.new.out) c.args.request.now
    (file_of c.args.request.now.federation.now c.in-Ok.bytes) (file_of c.args.request.now.inputs.now c.in-Ok-inputs_if_few.bytes) (schedule_of c.in-Ok-schedule_if_few.file)
    (are_files (g.F.Files.contents c.args.files.now) (g.F.Files.contents c.bytes_if_few.new.files) (g.F.Files.contents c.inputs_if_few.new.files) c.args.request.now c.in-Ok.bytes
    c.in-Ok-inputs_if_few.bytes (schedule_of c.in-Ok-schedule_if_few.file) c.in-Ok.ensures.same c.in-Ok-inputs_if_few.ensures.same c.in-Ok.ensures.ok c.in-Ok-inputs_if_few.ensures.ok
    c.in-Ok-schedule_if_few.ensures.ok)
    (Answers (g.F.Files.answers c.args.files.now) (g.F.Files.answers c.schedule_if_few.new.files)) c.print_lint.result (λ memory. ap g.O.Write.contents (c.print_lint.ensures.untouched memory)) c.print_lint.ensures.stands

pub returns-clause-untouched : goal.returns-clause-untouched
returns-clause-untouched g c =
    lint_told (g.F.Files.contents c.args.files.now) (g.O.Write.contents c.args.out.now) (g.O.Write.contents c.print_lint.new.out) c.args.request.now
    (file_of c.args.request.now.federation.now c.in-Ok.bytes) (file_of c.args.request.now.inputs.now c.in-Ok-inputs_if_few.bytes) (schedule_of c.in-Ok-schedule_if_few.file)
    (are_files (g.F.Files.contents c.args.files.now) (g.F.Files.contents c.bytes_if_few.new.files) (g.F.Files.contents c.inputs_if_few.new.files) c.args.request.now c.in-Ok.bytes
    c.in-Ok-inputs_if_few.bytes (schedule_of c.in-Ok-schedule_if_few.file) c.in-Ok.ensures.same c.in-Ok-inputs_if_few.ensures.same c.in-Ok.ensures.ok c.in-Ok-inputs_if_few.ensures.ok
    c.in-Ok-schedule_if_few.ensures.ok)
    c.print_lint.result c.print_lint.ensures.untouched c.print_lint.ensures.stands
