use Rattle.std.proofs.Common.{◌≡◌, ◌∙◌, ap, sym, codes, List, ℕ, ◌++◌}
use Rattle.std.specs.Fmt.{decimal}
use Rattle.std.proofs.Output.{has_written_of_eq}
use Rattle.loadfed.specs.Numbers.{number_of, printed_fault}
use Rattle.loadfed.proofs.fault.LoadFaultDisplay.fmt.Goals as goal

pub returns-in-WrongShape-clause-writes : goal.returns-in-WrongShape-clause-writes
returns-in-WrongShape-clause-writes g c = λ plain done.
    let number : c.number-number.result ≡ 31 = c.number-number.ensures ∙ ap number_of c.in-WrongShape.is in
    let told : decimal c.number-number.result ++ (codes " WrongShape " ++ c.as_str-key.result.now) ≡ printed_fault c.args.self.now =
    ap (λ (n : ℕ). decimal n ++ (codes " WrongShape " ++ c.as_str-key.result.now)) number
    ∙ ap (λ (key : List ℕ). decimal 31 ++ (codes " WrongShape " ++ key)) c.as_str-key.ensures
    ∙ sym (ap printed_fault c.in-WrongShape.is) in
    has_written_of_eq _ _ _ _ _ told (c.write-in-WrongShape.ensures.writes plain done)
