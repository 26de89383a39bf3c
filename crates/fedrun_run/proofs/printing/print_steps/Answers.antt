use Rattle.std.proofs.Common.{◌≡◌, ◌≤◌, ◌+◌, ◌∙◌, Some, None, slice_get, get_or, length, take, sym, subst, ⊎_elim, arith}
use Rattle.std.specs.Io.KnownBytes.{Appends}
use Rattle.std.proofs.lemmas.List.{append-nil}
use Rattle.std.proofs.lemmas.Option.{get_or_from_slice_get, slice_get_cases, slice_get_within}
use Rattle.files_record.specs.StepText.{printed_step, printed_steps}
use Rattle.files_record.proofs.Lines.{step_more}
use Rattle.fedrun_run.proofs.printing.print_steps.Goals as goal
use Rattle.fedrun_run.proofs.printing.print_steps.Goals.{in-Some+in_ok-print_step, in_default}

pub loop-place-preserved : goal.loop-place-preserved
loop-place-preserved g c =
    let steps = c.args.steps.now.steps in
    let place = c.loop-place.place in
    let d = c.args.plan.now in
    elim c.match-get.branch [
      | in-Some+in_ok-print_step w ↦
          let step = w.in-Some.step in
          let found : slice_get steps place ≡ Some step = sym c.get.ensures ∙ w.in-Some.is in
          let before = g.O.Write.contents c.loop-place.out in
          let after = g.O.Write.contents w.print_step.new.out in
          let one : Appends before after (printed_step d step) = subst (Appends before after) (append-nil (printed_step d step)) w.in_ok-print_step.ensures in
          let there : Appends before after (printed_step d (get_or steps place step)) = subst (λ s. Appends before after (printed_step d s)) (sym (get_or_from_slice_get steps place step step found)) one in
          subst (λ o. Appends (g.O.Write.contents c.args.out.now) (g.O.Write.contents o) (printed_steps d (take (place + 1) steps))) (sym w.out-is)
          (step_more d steps place step (g.O.Write.contents c.args.out.now) before after (slice_get_within steps place step found) c.loop-place.invariant there)
      | in_default w ↦
          absurd (⊎_elim (λ some. w.in_default.not-Some some.0 (c.get.ensures ∙ some.2)) (λ (past : (length steps ≤ place) × (slice_get steps place ≡ None)). omega (arith, past.0, c.loop-place-test.true, c.len-place-end.ensures)) (slice_get_cases steps place).1)
    ]
