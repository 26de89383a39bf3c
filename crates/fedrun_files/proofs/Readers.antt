-- Readers whose bytes are known.
use Rattle.std.proofs.Common.{ℕ, List, ◌++◌, Option, None, Some, Result, Ok, Err, IfOk, OnOk, ap, sym, ◌∙◌, append-nil}
use Rattle.std.specs.Global.{Vec}
use Rattle.std.specs.Io.KnownBytes.{Consumes, IsAtEnd}
use Rattle.fedrun_files.specs.Contents.{AreBytesOf}

-- what was read up to the end is all that there was
pub read_to_its_end : (before after : Option (List ℕ)) (bytes : List ℕ) → Consumes before after bytes → IsAtEnd after
    → AreBytesOf before bytes
read_to_its_end None after bytes consumed end = tt
read_to_its_end (Some xs) None bytes consumed end = absurd consumed
read_to_its_end (Some xs) (Some ys) bytes consumed end = sym (consumed ∙ ap (λ l. bytes ++ l) end ∙ append-nil bytes)

-- the same of what a reading answered
pub answered_to_its_end : {E : Type 0} (before after : Option (List ℕ)) (answer : Result (Vec ℕ) E)
    → IfOk answer (λ bytes. Consumes before after bytes.items) → OnOk answer (IsAtEnd after)
    → IfOk answer (λ bytes. AreBytesOf before bytes.items)
answered_to_its_end before after (Ok bytes) consumed end = read_to_its_end before after bytes.items consumed end
answered_to_its_end before after (Err why) consumed end = tt
