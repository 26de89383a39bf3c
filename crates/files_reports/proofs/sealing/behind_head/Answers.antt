use Rattle.std.proofs.Common.{◌≡◌, ◌≢◌, ℕ, List, ◌++◌, None, rules}
use Rattle.files_reports.specs.File.{headed}
use Rattle.files_reports.proofs.Ends.{no_name, behind_both, headed_so, by_cases}
use Rattle.files_reports.proofs.sealing.behind_head.Goals as goal

pub returns-in_err-rest : goal.returns-in_err-rest
returns-in_err-rest c =
    let none : c.from_residual.result ≡ None = search rules in
    rw none (no_name c.args.files.now c.args.content.now c.name.result.now c.name.ensures c.in_err-rest.ensures)

pub returns : goal.returns
returns c =
    let files = c.args.files.now in
    let content = c.args.content.now in
    let rest = c.in_ok-rest.rest.now in
    let others = c.in_ok-rest-2.rest.now in
    by_cases c.behind-3.result ((said : List ℕ) → others ≢ files.inputs ++ said) ((said : List ℕ) → content ≢ headed files said)
    (λ said. others ≡ files.inputs ++ said.now) (λ said. content ≡ headed files said.now)
    (λ h said e. h said (behind_both files content c.name.result.now rest others said c.name.ensures c.in_ok-rest.ensures c.in_ok-rest-2.ensures e))
    (λ said h. headed_so files content c.name.result.now rest others said.now c.name.ensures c.in_ok-rest.ensures c.in_ok-rest-2.ensures h)
    c.behind-3.ensures
