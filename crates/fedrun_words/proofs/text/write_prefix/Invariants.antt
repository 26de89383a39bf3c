use Rattle.std.proofs.Common.{◌≤◌, length, take}
use Rattle.std.specs.Io.KnownBytes.{Appends}
use Rattle.fedrun_words.proofs.text.write_prefix.Given as goal

abbrev pub invariant-loop : goal.invariant-loop
invariant-loop g l = record {
  few : l.done ≤ length l.bytes;
  begun : Appends (g.E.Write.contents l.initial.err) (g.E.Write.contents l.err) (take l.done l.bytes);
}
