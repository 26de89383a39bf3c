use Rattle.std.proofs.Common.{◌≡◌, ◌+◌, ◌*◌, ◌/◌, ◌%◌, ℕ, suc, arith}
use Rattle.std.proofs.Math.Nat.{div-add-mod}
use Rattle.wires_workers.proofs.SeveralTurns.{one_more_turn, whole_turns, turns_and_advance}
use Rattle.wires_workers.proofs.session.Session.more_turns.Goals as goal

-- the last turn's advance was handed in by itself
pub returns-then-steps-eq1-clause-handed_in : goal.returns-then-steps-eq1-clause-handed_in
returns-then-steps-eq1-clause-handed_in g c =
    let steps = c.handle_turns-steps.result.events in
    let slips = c.handle_turns-steps.ensures.slips in
    let turns : ℕ = steps / 2 in
    let halves : 2 * turns + steps % 2 ≡ steps = div-add-mod steps 2 in
    let odd : steps ≡ suc (2 * turns) = omega (arith, halves, c.if-steps-eq1.true) in
    turns_and_advance c.args.share.now c.handle_turns-steps.new.share c.enter.new.share slips.0 steps turns (turns + 1) slips.1 odd (omega arith) c.enter.ensures

-- there was no memory to put any: one is made by itself
pub returns-then-made-eq0-clause-handed_in : goal.returns-then-made-eq0-clause-handed_in
returns-then-made-eq0-clause-handed_in g c =
    let steps = c.handle_turns-steps.result.events in
    let slips = c.handle_turns-steps.ensures.slips in
    let turns : ℕ = steps / 2 in
    let halves : 2 * turns + steps % 2 ≡ steps = div-add-mod steps 2 in
    let whole : steps ≡ 2 * turns = omega (arith, halves, c.if-steps-eq1.false) in
    let before = whole_turns c.args.share.now c.handle_turns-steps.new.share slips.0 steps 0 slips.1 (omega (arith, whole, c.if-made-eq0.true)) in
    one_more_turn 0 before c.turn_is_idle-is_idle.ensures.1 c.turn_is_idle-is_idle.ensures.2

pub returns-else-made-eq0-clause-handed_in : goal.returns-else-made-eq0-clause-handed_in
returns-else-made-eq0-clause-handed_in g c =
    let steps = c.handle_turns-steps.result.events in
    let slips = c.handle_turns-steps.ensures.slips in
    let turns : ℕ = steps / 2 in
    let halves : 2 * turns + steps % 2 ≡ steps = div-add-mod steps 2 in
    let whole : steps ≡ 2 * turns = omega (arith, halves, c.if-steps-eq1.false) in
    whole_turns c.args.share.now c.handle_turns-steps.new.share slips.0 steps turns slips.1 whole
