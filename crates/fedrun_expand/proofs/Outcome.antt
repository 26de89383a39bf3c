-- What was printed, where a text was.
use Rattle.std.proofs.Common.{◌≡◌, ℕ, List, Option, subst, ap}
use Rattle.std.specs.Prelude.{◌≢◌, Result, Ok, Err, OnOk, IfErr}
use Rattle.std.specs.Io.KnownBytes.{Appends}
use Rattle.fedrun_words.specs.declared.fault.Fault.{Fault}
use Rattle.fedrun_words.specs.declared.fault.Fault.TheVariants.{CannotWrite}
use Rattle.fedrun_files.specs.Contents.{Contents, AreBytesOf}
use Rattle.expand_source.specs.declared.part.Given.{Given}
use Rattle.expand_federation.specs.Made.{IsFederationOf}
use Rattle.fedrun_expand.specs.declared.fault.ExpandFailure.{ExpandFailure}
use Rattle.fedrun_expand.specs.Faults.{status_of}
use Rattle.fedrun_expand.specs.Printed.{PrintsExpansion, PrintsFile, PrintsFederation}

-- a text that was handed on as a slice
pub text_printed : {X E : Type 0} (r : Result X E) (source text slice : List ℕ) (given : List Given) (before after : Option (List ℕ)) → IsFederationOf source given text → slice ≡ text
    → OnOk r (Appends before after slice) → OnOk r (PrintsExpansion source given before after)
text_printed (Ok x) source text slice given before after is same printed = (text, is, subst (Appends before after) same printed)
text_printed (Err e) source text slice given before after is same printed = tt

-- the bytes of a file, handed on as a slice
pub file_printed : {X E : Type 0} (r : Result X E) (known : Option (List ℕ)) (bytes slice : List ℕ) (given : List Given) (before after : Option (List ℕ)) → AreBytesOf known bytes → slice ≡ bytes
    → OnOk r (PrintsExpansion slice given before after) → OnOk r (PrintsFile known given before after)
file_printed (Ok x) known bytes slice given before after are same printed = (bytes, are, subst (λ b. PrintsExpansion b given before after) same printed)
file_printed (Err e) known bytes slice given before after are same printed = tt

-- the file of this name
pub some_printed : {X E : Type 0} (r : Result X E) (contents : Contents) (name : List ℕ) (given : List Given) (before after : Option (List ℕ)) → OnOk r (PrintsFile (contents name) given before after)
    → OnOk r (PrintsFederation contents before after)
some_printed (Ok x) contents name given before after printed = (name, given, printed)
some_printed (Err e) contents name given before after printed = tt

-- what can't be written has status 3
pub written_late : {X : Type 0} (P : Type 0) (r : Result X (Fault ExpandFailure)) → IfErr r (λ fault. fault ≡ CannotWrite) → IfErr r (λ fault. status_of fault ≢ 3 → P)
written_late P (Ok x) is = tt
written_late P (Err fault) is = λ other. absurd (other (ap status_of is))
