use Rattle.std.proofs.Common.{ℕ, List, sym, subst, arith}
use Rattle.std.specs.Prelude.{OnOk}
use Rattle.std.proofs.lemmas.Result.{on_ok_weaker}
use Rattle.std.specs.List.{AllByRecursion}
use Rattle.signal.specs.Frame.{IsFrame}
use Rattle.signal.specs.Pieces.{written}
use Rattle.signal.proofs.Appended.{Answer, all_written, as_before}
use Rattle.signal.proofs.Readable.{written_splits}
use Rattle.signal.proofs.write.write_frames.Goals as goal

pub returns-clause-written : goal.returns-clause-written
returns-clause-written c =
    all_written c.write_pieces-result.result c.or_as_before.result c.args.bytes.now.items c.write_pieces-result.new.bytes.items c.or_as_before.new.bytes.items (written c.args.own c.args.peer c.args.frames.now)
    c.or_as_before.ensures.same c.or_as_before.ensures.all c.write_pieces-result.ensures.written

pub returns-clause-unchanged : goal.returns-clause-unchanged
returns-clause-unchanged c =
    as_before c.write_pieces-result.result c.or_as_before.result c.len-before.result c.args.bytes.now.items c.write_pieces-result.new.bytes.items c.or_as_before.new.bytes.items
    c.or_as_before.ensures.same (omega (arith, c.args.bytes.now.ok.0, c.len-before.ensures)) c.or_as_before.ensures.nothing c.write_pieces-result.ensures.extended

pub returns-clause-readable : goal.returns-clause-readable
returns-clause-readable c =
    let are_frames : OnOk c.or_as_before.result (AllByRecursion IsFrame c.args.frames.now) =
    subst (λ (r : Answer). OnOk r (AllByRecursion IsFrame c.args.frames.now)) (sym c.or_as_before.ensures.same) c.write_pieces-result.ensures.are_frames in
    on_ok_weaker c.or_as_before.result
    (λ (each : AllByRecursion IsFrame c.args.frames.now). λ (rest : List ℕ). written_splits c.args.own c.args.peer c.args.frames.now rest c.requires (omega arith) each) are_frames
