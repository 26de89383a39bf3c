use Rattle.std.proofs.Common.{◌≡◌, ◌+◌, ◌-◌, ◌<◌, length, drop, None, sym, arith}
use Rattle.wires_workers.specs.LeavingOut.{last_ack}
use Rattle.wires_workers.proofs.CoveredAcks.{no_ack_before, ack_at, from_start}
use Rattle.wires_workers.proofs.covered_acks.last_ack.Goals as goal

pub loop-place-preserved : goal.loop-place-preserved
loop-place-preserved c =
    let next : c.loop-place.place - 1 + 1 ≡ c.loop-place.place = omega (arith, c.loop-place-test.true) in
    let there : c.loop-place.place - 1 < length c.args.frames.now = omega (arith, c.loop-place-test.true, c.loop-place.auto.place) in
    let none : last_ack (drop (c.loop-place.place - 1 + 1) c.args.frames.now) ≡ None = rw next c.loop-place.invariant in
    no_ack_before c.args.frames.now (c.loop-place.place - 1) c.index-frames-place.result there c.index-frames-place.is (sym c.if-is_ack.ensures) none

pub returns-then-is_ack : goal.returns-then-is_ack
returns-then-is_ack c =
    let next : c.loop-place.place - 1 + 1 ≡ c.loop-place.place = omega (arith, c.loop-place-test.true) in
    let there : c.loop-place.place - 1 < length c.args.frames.now = omega (arith, c.loop-place-test.true, c.loop-place.auto.place) in
    let none : last_ack (drop (c.loop-place.place - 1 + 1) c.args.frames.now) ≡ None = rw next c.loop-place.invariant in
    sym (ack_at c.args.frames.now (c.loop-place.place - 1) c.index-frames-place.result there c.index-frames-place.is (sym c.if-is_ack.ensures) none)

pub returns : goal.returns
returns c =
    let first : c.loop-place.place ≡ 0 = omega arith in
    sym (from_start c.args.frames.now c.loop-place.place first c.loop-place.invariant)
