use Rattle.std.proofs.Common.{◌≡◌, ◌⊎◌, List, ℕ, length, Err, refl, sym, subst, inr, arith}
use Rattle.reactor_program.specs.declared.program_fault.ProgramFault.{ProgramFault}
use Rattle.reactor_program.specs.declared.program_fault.ProgramFault.TheVariants.{Memory}
use Rattle.reactor_program.specs.Resolution.{line_of}
use Rattle.reactor_program.specs.Reading.{IsReading}
use Rattle.reactor_program.specs.Spelled.{IsWritten, SpellsLineOf, IsLineFault}
use Rattle.reactor_program.proofs.LineFaults.{line_fault}
use Rattle.std.proofs.lemmas.Option.{slice_get_read}
use Rattle.reactor_program.proofs.Zips.{all_zip_grow}
use Rattle.reactor_program.proofs.reading.body.Goals as goal

pub overflow_add-place : goal.overflow_add-place
overflow_add-place c = omega arith

pub line-requires : goal.line-requires
line-requires c = c.requires.limits

pub loop-place-preserved : goal.loop-place-preserved
loop-place-preserved c =
    let same : c.as_bytes.result.now ≡ c.index-texts-place.result = cc (c.as_bytes.ensures.value, c.as_str.ensures) in
    let P : List ℕ → Type 0 = λ text. SpellsLineOf c.args.slots.now c.args.states.now c.in-Ok.line text in
    let spelled = subst P same c.in-Ok.ensures in
    rw c.in_ok-push-in-Ok.ensures.items (all_zip_grow (SpellsLineOf c.args.slots.now c.args.states.now) c.loop-place.lines.items c.args.texts.now c.loop-place.place c.in-Ok.line c.index-texts-place.result c.loop-place-test.true c.index-texts-place.is c.loop-place.invariant spelled)

pub returns-in-Err-clause-refused : goal.returns-in-Err-clause-refused
returns-in-Err-clause-refused c =
    let same : c.as_bytes.result.now ≡ c.index-texts-place.result = cc (c.as_bytes.ensures.value, c.as_str.ensures) in
    let P : List ℕ → Type 0 = λ text. IsReading (IsWritten text) (line_of c.args.slots.now c.args.states.now) (Err c.in-Err.fault) in
    let read = subst P same c.in-Err.ensures in
    let here = slice_get_read c.args.texts.now (length c.args.texts.now) c.loop-place.place c.index-texts-place.result refl c.loop-place-test.true c.index-texts-place.is in
    let Q : ProgramFault → Type 0 = λ fault. (fault ≡ Memory) ⊎ IsLineFault c.args.slots.now c.args.states.now c.args.number c.args.texts.now fault in
    subst Q (sym c.at.ensures) (inr (line_fault c.args.slots.now c.args.states.now c.args.number c.args.texts.now c.loop-place.place c.index-texts-place.result here c.in-Err.fault read))
