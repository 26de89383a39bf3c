use Rattle.std.proofs.Common.{◌≡◌, ◌+◌, ◌++◌, ◌∷◌, [], ℕ, List, take, drop, get_or, refl, subst, ◌∙◌}
use Rattle.std.proofs.lemmas.List.{take_more}
use Rattle.std.specs.Borrow.{Bor}
use Rattle.fedrun_files.specs.Answers.{Answers}
use Rattle.fedrun_files.specs.Contents.{Contents}
use Rattle.fedrun_files.proofs.InTurn.{none_answered}
use Rattle.fedrun_commands.specs.ReportFiles.{IsFederateFileFault}
use Rattle.fedrun_commands.proofs.TakenInTurn.{around, none_taken, one_taken, one_given, is_first_fault}
use Rattle.fedrun_commands.proofs.auditing.take_files.Goals as goal

-- what a list of names has behind its end
abbrev no_name : Bor (List ℕ)
no_name = record { ref_ptr = (0, 0); now = [] }

pub loop-name-init : goal.loop-name-init
loop-name-init g c = record {
  count = refl;
  taken = none_taken (g.F.Files.contents c.args.files.now) c.args.digests.now c.args.sources.now c.args.collector.now.reports c.requires.none;
  asked = none_answered (g.F.Files.answers c.args.files.now);
  same = refl;
}

pub returns-in-Err-clause-err : goal.returns-in-Err-clause-err
returns-in-Err-clause-err g c =
    let names = c.args.names.now in
    let i = c.loop-name.name-index in
    let name = get_or names i no_name in
    let reports = c.loop-name.collector.reports in
    let digests = c.args.digests.now in
    let s = c.args.sources.now in
    let fault = c.in-Err.fault in
    let old = g.F.Files.answers c.args.files.now in
    let mid = g.F.Files.answers c.loop-name.files in
    let after = g.F.Files.answers c.take_file.new.files in
    let contents = g.F.Files.contents c.args.files.now in
    let here : IsFederateFileFault digests s reports name contents (Answers mid after) fault =
    subst (λ (known : Contents). IsFederateFileFault digests s reports name known (Answers mid after) fault) c.loop-name.invariant.same c.in-Err.ensures.err in
    is_first_fault old mid after digests s (take i names) name (drop (i + 1) names) names reports contents fault
    (around names i no_name c.loop-name-test.true) c.loop-name.invariant.taken c.loop-name.invariant.asked here

pub loop-name-preserved : goal.loop-name-preserved
loop-name-preserved g c =
    let names = c.args.names.now in
    let i = c.loop-name.name-index in
    let name = get_or names i no_name in
    let more : take (i + 1) names ≡ take i names ++ name ∷ [] = take_more names i no_name c.loop-name-test.true in
    record {
      count = c.in-Ok.ensures.count ∙ c.loop-name.invariant.count;
      taken = one_taken (g.F.Files.contents c.args.files.now) (g.F.Files.contents c.loop-name.files) c.args.digests.now c.args.sources.now (take i names) (take (i + 1) names) name
          c.loop-name.collector.reports c.take_file.new.collector.reports c.loop-name.invariant.same more c.loop-name.invariant.taken c.in-Ok.ensures.ok;
      asked = one_given (g.F.Files.answers c.args.files.now) (g.F.Files.answers c.loop-name.files) (g.F.Files.answers c.take_file.new.files) (take i names)
          (take (i + 1) names) name more c.loop-name.invariant.asked c.in-Ok.ensures.asked;
      same = c.in-Ok.ensures.same ∙ c.loop-name.invariant.same;
    }
