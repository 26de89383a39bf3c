use Rattle.std.proofs.Common.{◌≡◌, ◌++◌, ◌∷◌, [], sym, subst, ◌∙◌}
use Rattle.std.proofs.lemmas.Result.{on_ok_weaker, IfErr-weaker}
use Rattle.fedrun_files.specs.Answers.{Answers, given}
use Rattle.fedrun_files.specs.Contents.{Contents}
use Rattle.fedrun_files.specs.Loaded.{input_file}
use Rattle.fedrun_files.specs.Refused.{asked_sources}
use Rattle.fedrun_files.proofs.InTurn.{answered_in_turn}
use Rattle.fedrun_files.specs.Digests.{AreDigestsOf}
use Rattle.fedrun_files.proofs.Digests.{are_digests}
use Rattle.fedrun_commands.specs.ReportFiles.{AreFederateFiles, AreReported, IsCoordinatorFile, IsCoordinatorFileFault, IsFirstFileFault, Names, all_given, of_sources, of_coordinator, of_federates, of_audit}
use Rattle.fedrun_commands.proofs.TakenInTurn.{coordinator_fault_after, first_fault_after}
use Rattle.fedrun_commands.proofs.auditing.audit.Goals as goal

pub returns-in-Err-clause-stands : goal.returns-in-Err-clause-stands
returns-in-Err-clause-stands g c = of_sources c.in-Err.ensures.err

pub returns-in-Err-read_coordinator_file-clause-stands : goal.returns-in-Err-read_coordinator_file-clause-stands
returns-in-Err-read_coordinator_file-clause-stands g c =
    let s = c.in-Ok.read.0 in
    let digests = c.new-digests.result in
    let fault = c.in-Err-read_coordinator_file.fault in
    let asked = asked_sources c.args.request.now.federation.now c.args.request.now.inputs.now in
    let before = g.F.Files.answers c.args.files.now in
    let mid = g.F.Files.answers c.read_sources_and_bytes.new.files in
    let after = g.F.Files.answers c.read_coordinator_file.new.files in
    let contents = g.F.Files.contents c.args.files.now in
    let are : AreDigestsOf (contents c.args.request.now.federation.now) (input_file contents c.args.request.now.inputs.now) digests.federation digests.inputs =
    are_digests _ _ digests.federation digests.inputs _ _ _ _ c.in-Ok.ensures.federation c.in-Ok.ensures.inputs c.as_slice.ensures.value c.as_slice-2.ensures.value
    c.new-digests.ensures.federation c.new-digests.ensures.inputs in
    of_coordinator s c.in-Ok.ensures.ok digests are
    (subst (λ (known : Contents). IsCoordinatorFileFault digests c.args.request.now.coordinator known (λ later. Answers before after (asked ++ later)) fault)
    c.in-Ok.ensures.same
    (coordinator_fault_after (λ later come. answered_in_turn before mid after asked later c.in-Ok.ensures.asked come) digests c.args.request.now.coordinator
    (g.F.Files.contents c.read_sources_and_bytes.new.files) fault c.in-Err-read_coordinator_file.ensures.err))

pub returns-clause-stands : goal.returns-clause-stands
returns-clause-stands g c =
    let s = c.in-Ok.read.0 in
    let digests = c.new-digests.result in
    let fault = c.in-Err-take_files.fault in
    let asked = asked_sources c.args.request.now.federation.now c.args.request.now.inputs.now in
    let own = given c.args.request.now.coordinator.now in
    let before = g.F.Files.answers c.args.files.now in
    let mid = g.F.Files.answers c.read_sources_and_bytes.new.files in
    let later = g.F.Files.answers c.read_coordinator_file.new.files in
    let after = g.F.Files.answers c.take_files.new.files in
    let contents = g.F.Files.contents c.args.files.now in
    let are : AreDigestsOf (contents c.args.request.now.federation.now) (input_file contents c.args.request.now.inputs.now) digests.federation digests.inputs =
    are_digests _ _ digests.federation digests.inputs _ _ _ _ c.in-Ok.ensures.federation c.in-Ok.ensures.inputs c.as_slice.ensures.value c.as_slice-2.ensures.value
    c.new-digests.ensures.federation c.new-digests.ensures.inputs in
    let same : g.F.Files.contents c.read_coordinator_file.new.files ≡ contents = c.in-Ok-read_coordinator_file.ensures.same ∙ c.in-Ok.ensures.same in
    let first : IsFirstFileFault digests s c.as_slice-federates.result.now (g.F.Files.contents c.read_coordinator_file.new.files)
    (λ last. Answers before after (asked ++ (own ∷ [] ++ last))) fault =
    first_fault_after
    (λ last come. answered_in_turn before mid after asked (own ∷ [] ++ last) c.in-Ok.ensures.asked
    (answered_in_turn mid later after (own ∷ []) last c.in-Ok-read_coordinator_file.ensures.asked come))
    digests s c.as_slice-federates.result.now (g.F.Files.contents c.read_coordinator_file.new.files) fault c.in-Err-take_files.ensures.err in
    of_federates s c.in-Ok.ensures.ok digests are
    (subst (λ (names : Names). IsFirstFileFault digests s names contents (λ last. Answers before after (asked ++ (own ∷ [] ++ last))) fault)
    c.as_slice-federates.ensures.value
    (subst (λ (known : Contents). IsFirstFileFault digests s c.as_slice-federates.result.now known
    (λ last. Answers before after (asked ++ (own ∷ [] ++ last))) fault) same first))

pub returns-in-Ok-take_files-clause-ok : goal.returns-in-Ok-take_files-clause-ok
returns-in-Ok-take_files-clause-ok g c =
    let s = c.in-Ok.read.0 in
    let digests = c.new-digests.result in
    let reports = c.reports.result.now in
    let journal = c.in-Ok-read_coordinator_file.journal in
    let contents = g.F.Files.contents c.args.files.now in
    let are : AreDigestsOf (contents c.args.request.now.federation.now) (input_file contents c.args.request.now.inputs.now) digests.federation digests.inputs =
    are_digests _ _ digests.federation digests.inputs _ _ _ _ c.in-Ok.ensures.federation c.in-Ok.ensures.inputs c.as_slice.ensures.value c.as_slice-2.ensures.value
    c.new-digests.ensures.federation c.new-digests.ensures.inputs in
    let same : g.F.Files.contents c.read_coordinator_file.new.files ≡ contents = c.in-Ok-read_coordinator_file.ensures.same ∙ c.in-Ok.ensures.same in
    let coordinator : IsCoordinatorFile digests (contents c.args.request.now.coordinator.now) journal =
    subst (λ (known : Contents). IsCoordinatorFile digests (known c.args.request.now.coordinator.now) journal) c.in-Ok.ensures.same c.in-Ok-read_coordinator_file.ensures.ok in
    let federates : AreFederateFiles contents digests s c.args.request.now.federates.items reports =
    subst (λ (names : Names). AreFederateFiles contents digests s names reports) c.as_slice-federates.ensures.value
    (subst (λ (known : Contents). AreFederateFiles known digests s c.as_slice-federates.result.now reports) same
    (subst (λ r. AreFederateFiles (g.F.Files.contents c.read_coordinator_file.new.files) digests s c.as_slice-federates.result.now r) (sym c.reports.ensures)
    c.in-Ok-take_files.ensures.ok)) in
    let reported : AreReported contents c.args.request.now s reports journal =
    record { sources_are = c.in-Ok.ensures.ok; digests = digests; digests_are = are; coordinator_is = coordinator; federates_are = federates } in
    on_ok_weaker c.print_reports.result
    (λ prints. record { sources = s; reports = reports; journal = journal; reported = reported; prints = prints })
    c.print_reports.ensures.ok

pub returns-in-Ok-take_files-clause-stands : goal.returns-in-Ok-take_files-clause-stands
returns-in-Ok-take_files-clause-stands g c =
    let s = c.in-Ok.read.0 in
    let digests = c.new-digests.result in
    let reports = c.reports.result.now in
    let journal = c.in-Ok-read_coordinator_file.journal in
    let asked = asked_sources c.args.request.now.federation.now c.args.request.now.inputs.now in
    let own = given c.args.request.now.coordinator.now in
    let before = g.F.Files.answers c.args.files.now in
    let mid = g.F.Files.answers c.read_sources_and_bytes.new.files in
    let later = g.F.Files.answers c.read_coordinator_file.new.files in
    let after = g.F.Files.answers c.take_files.new.files in
    let contents = g.F.Files.contents c.args.files.now in
    let are : AreDigestsOf (contents c.args.request.now.federation.now) (input_file contents c.args.request.now.inputs.now) digests.federation digests.inputs =
    are_digests _ _ digests.federation digests.inputs _ _ _ _ c.in-Ok.ensures.federation c.in-Ok.ensures.inputs c.as_slice.ensures.value c.as_slice-2.ensures.value
    c.new-digests.ensures.federation c.new-digests.ensures.inputs in
    let same : g.F.Files.contents c.read_coordinator_file.new.files ≡ contents = c.in-Ok-read_coordinator_file.ensures.same ∙ c.in-Ok.ensures.same in
    let coordinator : IsCoordinatorFile digests (contents c.args.request.now.coordinator.now) journal =
    subst (λ (known : Contents). IsCoordinatorFile digests (known c.args.request.now.coordinator.now) journal) c.in-Ok.ensures.same c.in-Ok-read_coordinator_file.ensures.ok in
    let federates : AreFederateFiles contents digests s c.args.request.now.federates.items reports =
    subst (λ (names : Names). AreFederateFiles contents digests s names reports) c.as_slice-federates.ensures.value
    (subst (λ (known : Contents). AreFederateFiles known digests s c.as_slice-federates.result.now reports) same
    (subst (λ r. AreFederateFiles (g.F.Files.contents c.read_coordinator_file.new.files) digests s c.as_slice-federates.result.now r) (sym c.reports.ensures)
    c.in-Ok-take_files.ensures.ok)) in
    let reported : AreReported contents c.args.request.now s reports journal =
    record { sources_are = c.in-Ok.ensures.ok; digests = digests; digests_are = are; coordinator_is = coordinator; federates_are = federates } in
    let all : Answers before after (asked ++ (own ∷ all_given c.args.request.now.federates.items)) =
    subst (λ (names : Names). Answers before after (asked ++ (own ∷ all_given names))) c.as_slice-federates.ensures.value
    (answered_in_turn before mid after asked (own ∷ all_given c.as_slice-federates.result.now) c.in-Ok.ensures.asked
    (answered_in_turn mid later after (own ∷ []) (all_given c.as_slice-federates.result.now) c.in-Ok-read_coordinator_file.ensures.asked c.in-Ok-take_files.ensures.asked)) in
    IfErr-weaker c.print_reports.result _ _ (λ fault stands. of_audit s reports journal reported all stands) c.print_reports.ensures.stands
