use Rattle.std.proofs.Common.{◌≡◌, Some, ℕ, List, length, refl, inr, ◌∙◌}
use Rattle.std.proofs.lemmas.Option.{slice_get_read}
use Rattle.reactor_program.specs.Resolution.{trigger_slot}
use Rattle.reactor_program.proofs.Zips.{all_zip_grow}
use Rattle.reactor_program.proofs.LineFaults.{trigger_fault}
use Rattle.reactor_program.proofs.parse.parse_triggers.Goals as goal

pub returns-in-None-clause-refused : goal.returns-in-None-clause-refused
returns-in-None-clause-refused c =
    let here = slice_get_read c.args.texts.now (length c.args.texts.now) c.loop-text.text-index c.text-item.result refl c.loop-text-test.true c.text-item.is in
    inr (trigger_fault c.args.slots.now c.args.number c.args.texts.now c.loop-text.text-index c.text-item.result c.as_bytes.result.now here (c.as_bytes.ensures.value ∙ c.as_str.ensures) c.in-None.ensures)

pub loop-text-preserved : goal.loop-text-preserved
loop-text-preserved c =
    let R : ℕ → List ℕ → Type 0 = λ slot text. trigger_slot c.args.slots.now text ≡ Some slot in
    let named : trigger_slot c.args.slots.now c.text-item.result ≡ Some c.in-Some.slot = cc (c.in-Some.ensures, c.as_bytes.ensures.value, c.as_str.ensures) in
    rw c.in_ok-push-in-Some.ensures.items (all_zip_grow R c.loop-text.triggers.items c.args.texts.now c.loop-text.text-index c.in-Some.slot c.text-item.result c.loop-text-test.true c.text-item.is c.loop-text.invariant named)
