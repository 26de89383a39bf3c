use Rattle.std.proofs.Common.{◌≡◌, None, Some, ap, ◌∙◌}
use Rattle.std.specs.Str.{bytes_eq}
use Rattle.plan_names.specs.Naming.{place_of}
use Rattle.plan_slots.specs.Numbering.{timer_names}
use Rattle.reactor_program.proofs.NamePlaces.{slot_input, slot_timer, slot_action, slot_physical, slot_missing}
use Rattle.reactor_program.proofs.places.trigger_slot.Goals as goal

pub returns-in-Some : goal.returns-in-Some
returns-in-Some c =
    let i : Some c.in-Some.place ≡ place_of c.args.slots.now.inputs c.args.name.now = c.in-Some.ensures.value in
    slot_input c.args.slots.now c.args.name.now c.eq.result (c.eq.ensures ∙ ap (bytes_eq c.args.name.now) c.as_slice.ensures) c.if-eq.false c.in-Some.place i

pub returns-in-Some-place_of : goal.returns-in-Some-place_of
returns-in-Some-place_of c =
    let i : None ≡ place_of c.args.slots.now.inputs c.args.name.now = c.in_default.ensures.value in
    let t : Some c.in-Some-place_of.place ≡ place_of (timer_names c.args.slots.now.timers) c.args.name.now = c.in-Some-place_of.ensures.value in
    let found = slot_timer c.args.slots.now c.args.name.now c.eq.result (c.eq.ensures ∙ ap (bytes_eq c.args.name.now) c.as_slice.ensures) c.if-eq.false i c.in-Some-place_of.place t in
    rw c.first_timer.ensures.value found

pub returns-in-Some-place_of-2 : goal.returns-in-Some-place_of-2
returns-in-Some-place_of-2 c =
    let i : None ≡ place_of c.args.slots.now.inputs c.args.name.now = c.in_default.ensures.value in
    let t : None ≡ place_of (timer_names c.args.slots.now.timers) c.args.name.now = c.in_default-place_of.ensures.value in
    let a : Some c.in-Some-place_of-2.place ≡ place_of c.args.slots.now.actions c.args.name.now = c.in-Some-place_of-2.ensures.value in
    let found = slot_action c.args.slots.now c.args.name.now c.eq.result (c.eq.ensures ∙ ap (bytes_eq c.args.name.now) c.as_slice.ensures) c.if-eq.false i t c.in-Some-place_of-2.place a in
    rw c.first_action.ensures.value found

pub returns-in-Some-place_of-3 : goal.returns-in-Some-place_of-3
returns-in-Some-place_of-3 c =
    let i : None ≡ place_of c.args.slots.now.inputs c.args.name.now = c.in_default.ensures.value in
    let t : None ≡ place_of (timer_names c.args.slots.now.timers) c.args.name.now = c.in_default-place_of.ensures.value in
    let a : None ≡ place_of c.args.slots.now.actions c.args.name.now = c.in_default-place_of-2.ensures.value in
    let p : Some c.in-Some-place_of-3.place ≡ place_of c.args.slots.now.physical c.args.name.now = c.in-Some-place_of-3.ensures.value in
    let found = slot_physical c.args.slots.now c.args.name.now c.eq.result (c.eq.ensures ∙ ap (bytes_eq c.args.name.now) c.as_slice.ensures) c.if-eq.false i t a c.in-Some-place_of-3.place p in
    rw c.first_physical.ensures.value found

pub returns : goal.returns
returns c =
    let i : None ≡ place_of c.args.slots.now.inputs c.args.name.now = c.in_default.ensures.value in
    let t : None ≡ place_of (timer_names c.args.slots.now.timers) c.args.name.now = c.in_default-place_of.ensures.value in
    let a : None ≡ place_of c.args.slots.now.actions c.args.name.now = c.in_default-place_of-2.ensures.value in
    let p : None ≡ place_of c.args.slots.now.physical c.args.name.now = c.in_default-place_of-3.ensures.value in
    slot_missing c.args.slots.now c.args.name.now c.eq.result (c.eq.ensures ∙ ap (bytes_eq c.args.name.now) c.as_slice.ensures) c.if-eq.false i t a p
