use Rattle.std.proofs.Common.{rules, ◌≡◌, [], ◌∷◌, Result, Err, IfErr, subst, sym}
use Rattle.fedrun_files.specs.Answers.{Answers, given}
use Rattle.fedrun_files.proofs.InTurn.{answered_in_turn}
use Rattle.fedrun_files.specs.Refused.{IsInputFault, IsSourcesFault, federation_fault, input_fault}
use Rattle.fedrun_files.proofs.FaultsInTurn.{input_fault_after}
use Rattle.fedrun_files.proofs.reading.read_sources_and_bytes.Goals as goal

if_err_at : {T E : Type 0} (P : E → Type 0) (r : Result T E) (e : E) → r ≡ Err e → P e → IfErr r P
if_err_at P r e refused holds = subst (λ x. IfErr x P) (sym refused) holds

pub returns-in_err-plan-clause-err : goal.returns-in_err-plan-clause-err
returns-in_err-plan-clause-err g c =
    let before = g.F.Files.answers c.args.files.now in
    let after = g.F.Files.answers c.read_federation_and_bytes.new.files in
    let refused : c.from_residual.result ≡ Err c.in_err-plan.field-0.0 = search rules in
    if_err_at (IsSourcesFault c.args.federation c.args.inputs (g.F.Files.contents c.args.files.now) (Answers before after)) c.from_residual.result c.in_err-plan.field-0.0 refused (federation_fault c.in_err-plan.ensures.err)

pub returns-in_err-recorded-clause-err : goal.returns-in_err-recorded-clause-err
returns-in_err-recorded-clause-err g c =
    let federation = c.args.federation in
    let inputs = c.args.inputs in
    let d = c.in_ok-plan.plan in
    let before = g.F.Files.answers c.args.files.now in
    let mid = g.F.Files.answers c.read_federation_and_bytes.new.files in
    let after = g.F.Files.answers c.read_inputs.new.files in
    let fault = c.in_err-recorded.field-0.0 in
    let later : IsSourcesFault federation inputs (g.F.Files.contents c.args.files.now) (Answers before after) fault =
    input_fault d c.in_ok-plan.programs c.in_ok-plan.ensures.ok
    (subst (λ contents. IsInputFault d inputs contents (λ added. Answers before after (given federation.now ∷ added)) fault) c.in_ok-plan.ensures.same
    (input_fault_after (λ added come. answered_in_turn before mid after (given federation.now ∷ []) added c.in_ok-plan.ensures.asked come) d inputs _ fault
    c.in_err-recorded.ensures.err)) in
    let refused : c.from_residual-in_err-recorded.result ≡ Err c.in_err-recorded.field-0.0 = search rules in
    if_err_at (IsSourcesFault c.args.federation c.args.inputs (g.F.Files.contents c.args.files.now) (Answers before after)) c.from_residual-in_err-recorded.result fault refused later
