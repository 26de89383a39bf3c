use Rattle.std.proofs.Common.{◌≡◌, Some, sym, ap, subst, ◌∙◌}
use Rattle.wires_workers.specs.ByPeer.{frames_to}
use Rattle.wires_workers.specs.LeavingOut.{IsHandedOn, last_ack}
use Rattle.wires_workers.proofs.CoveredAcks.{all_handed_on, handed_on_to}
use Rattle.wires_workers.proofs.covered_acks.leave_out_covered.Goals as goal

pub returns-in-Some-clause-handed_on : goal.returns-in-Some-clause-handed_on
returns-in-Some-clause-handed_on c peer =
    let frames = c.args.frames.now.items in
    let found : last_ack frames ≡ Some c.in-Some.last = ap last_ack (sym c.deref.ensures.value) ∙ (sym c.last_ack.ensures ∙ c.in-Some.is) in
    subst (λ handed. IsHandedOn (frames_to peer frames) (frames_to peer handed)) (sym c.leave_out_below.ensures.left) (handed_on_to peer c.in-Some.last frames found)

pub returns-in-None-clause-handed_on : goal.returns-in-None-clause-handed_on
returns-in-None-clause-handed_on c peer = all_handed_on (frames_to peer c.args.frames.now.items)
