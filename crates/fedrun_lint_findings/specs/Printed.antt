-- The lines of a file's faults, and of what is odd, as they are printed.
use Rattle.std.specs.Prelude.{ℕ, List, [], ◌++◌, codes, flat_map, Option, None, Some, if◌then◌else◌, string_bytes}
use Rattle.std.specs.Fmt.{decimal}
use Rattle.loadfed.specs.Numbers.{printed_fault}
use Rattle.fedrun_lint_findings.specs.declared.finding.Finding.{Finding}
use Rattle.fedrun_lint_findings.specs.declared.oddity.Oddity.{Oddity}
use Rattle.fedrun_lint_findings.specs.declared.refusal.Refusal.{Refusal}
use Rattle.fedrun_lint_findings.specs.Oddities.{kind_of, advice_of}

-- the line of a fault in the file of this name
abbrev pub printed_finding : List ℕ → Finding → List ℕ
printed_finding file f =
    file ++ (codes ":" ++ (decimal f.line ++ (codes ": wrong: " ++ (printed_fault f.fault ++ (codes ": "
    ++ (string_bytes f.what ++ (f.advice.now ++ codes "\n")))))))

-- the last line of a file that may have more faults
abbrev pub printed_cut : List ℕ → List ℕ
printed_cut file = file ++ codes ":1: wrong: there may be more: correct these, and look again\n"

-- the lines of a file of this name, if it is refused
abbrev pub printed_refusal : List ℕ → Option Refusal → List ℕ
printed_refusal file None = []
printed_refusal file (Some r) =
    printed_finding file r.first
    ++ (flat_map (printed_finding file) r.more.items ++ (if r.is_cut then printed_cut file else []))

-- the line of something odd in files of these names
abbrev pub printed_oddity : List ℕ → List ℕ → Oddity → List ℕ
printed_oddity federation inputs o =
    (if o.is_recorded then inputs else federation)
    ++ (codes ":" ++ (decimal o.line ++ (codes ": odd: " ++ (kind_of o.why ++ (codes " " ++ (string_bytes o.name
    ++ (codes ": " ++ (advice_of o.why ++ codes "\n"))))))))
