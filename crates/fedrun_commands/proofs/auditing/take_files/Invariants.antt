use Rattle.std.proofs.Common.{◌≡◌, take}
use Rattle.fedrun_files.specs.Answers.{Answers}
use Rattle.fedrun_commands.specs.ReportFiles.{all_given, AreFederateFiles}
use Rattle.fedrun_commands.proofs.auditing.take_files.Given as goal

-- the files so far are taken, each asked for once
abbrev pub invariant-loop-name : goal.invariant-loop-name
invariant-loop-name g l = record {
  count : l.collector.count ≡ l.fn.collector.count;
  taken : AreFederateFiles (g.F.Files.contents l.fn.files) l.digests l.sources (take l.name-index l.names) l.collector.reports;
  asked : Answers (g.F.Files.answers l.fn.files) (g.F.Files.answers l.files) (all_given (take l.name-index l.names));
  same : g.F.Files.contents l.files ≡ g.F.Files.contents l.fn.files;
}
