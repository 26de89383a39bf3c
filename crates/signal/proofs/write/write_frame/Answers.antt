use Rattle.std.proofs.Common.{arith, lit<}
use Rattle.signal.specs.Frame.{frame_bytes}
use Rattle.signal.proofs.Appended.{all_written, as_before}
use Rattle.signal.proofs.Readable.{frame_spells}
use Rattle.signal.proofs.write.write_frame.Goals as goal

pub returns-clause-written : goal.returns-clause-written
returns-clause-written c =
    all_written c.write_by-result.result c.or_as_before.result c.args.bytes.now.items c.write_by-result.new.bytes.items c.or_as_before.new.bytes.items (frame_bytes c.args.frame.now)
    c.or_as_before.ensures.same c.or_as_before.ensures.all c.write_by-result.ensures.written

pub returns-clause-unchanged : goal.returns-clause-unchanged
returns-clause-unchanged c =
    as_before c.write_by-result.result c.or_as_before.result c.len-before.result c.args.bytes.now.items c.write_by-result.new.bytes.items c.or_as_before.new.bytes.items
    c.or_as_before.ensures.same (omega (arith, c.args.bytes.now.ok.0, c.len-before.ensures)) c.or_as_before.ensures.nothing c.write_by-result.ensures.extended

pub returns-clause-readable : goal.returns-clause-readable
returns-clause-readable c = frame_spells 1 c.args.frame.now (lit< tt) (lit< tt) c.write_by-result.ensures.is_frame
