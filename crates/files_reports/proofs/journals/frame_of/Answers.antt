use Rattle.std.proofs.Common.{arith}
use Rattle.files_reports.proofs.Taken.{frame_taken}
use Rattle.files_reports.proofs.journals.frame_of.Goals as goal

pub returns-clause-taken : goal.returns-clause-taken
returns-clause-taken c =
    frame_taken c.args.bytes.now c.in_ok-length.behind.now c.split_at.result.0.now c.split_at.result.1.now c.in_ok-length.length c.in_ok-frame.frame
    (omega arith) c.split_at.ensures.front c.split_at.ensures.back c.in_ok-length.ensures.taken c.in_ok-frame.ensures.taken
