use Rattle.std.proofs.Common.{◌≡◌, ◌<◌, length, take, arith, sym, ◌∙◌}
use Rattle.std.proofs.lemmas.List.{take_all}
use Rattle.wires_greeting.proofs.Differences.{still_same, still_none, same_by_difference}
use Rattle.wires_greeting.proofs.same.is_same.Goals as goal

pub loop-i-preserved : goal.loop-i-preserved
loop-i-preserved c =
    let x : c.loop-i.i < length c.args.proof.now = omega arith in
    let y : c.loop-i.i < length c.args.other.now = omega arith in
    record {
      same = still_same c.args.proof.now c.args.other.now c.loop-i.i x y c.loop-i.difference c.loop-i.invariant.same;
      none = still_none c.args.proof.now c.args.other.now c.loop-i.i x y c.loop-i.difference c.loop-i.invariant.none;
    }

pub returns : goal.returns
returns c =
    let x : take c.loop-i.i c.args.proof.now ≡ c.args.proof.now = take_all c.loop-i.i c.args.proof.now (omega arith) in
    let y : take c.loop-i.i c.args.other.now ≡ c.args.other.now = take_all c.loop-i.i c.args.other.now (omega arith) in
    same_by_difference c.args.proof.now c.args.other.now c.loop-i.difference (λ e. sym x ∙ c.loop-i.invariant.same e ∙ y) (λ e. c.loop-i.invariant.none (x ∙ e ∙ sym y))
