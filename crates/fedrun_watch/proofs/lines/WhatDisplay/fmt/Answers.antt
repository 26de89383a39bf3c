use Rattle.std.proofs.Common.{ap, sym}
use Rattle.std.proofs.Output.{has_written_of_eq}
use Rattle.fedrun_watch.specs.Lines.{what_text}
use Rattle.fedrun_watch.proofs.lines.WhatDisplay.fmt.Goals as goal

pub returns-in-LetIn-clause-writes : goal.returns-in-LetIn-clause-writes
returns-in-LetIn-clause-writes g c = λ plain done.
    has_written_of_eq _ _ _ _ _ (sym (ap (what_text c.args.self.now.names.now) c.in-LetIn.is))
    (c.write-in-LetIn.ensures.writes plain done)
