use Rattle.std.proofs.Common.{IfSome, take}
use Rattle.std.specs.Io.KnownBytes.{Appends}
use Rattle.fedrun_words.proofs.text.print_text.Given as goal

abbrev pub invariant-loop : goal.invariant-loop
invariant-loop g l = IfSome (g.D.Display.output l.text) (λ text. Appends (g.E.Write.contents l.initial.err) (g.E.Write.contents l.err) (take l.told text))
