use Rattle.std.proofs.Common.{OnOk, sym, subst}
use Rattle.std.specs.Io.KnownBytes.{Appends}
use Rattle.signal.specs.declared.frame.Frame.{Frame}
use Rattle.fedrun_frames.specs.FrameText.{frame_text}
use Rattle.fedrun_frames.proofs.frame_text.write_frame.Goals as goal

pub returns-in-Hello : goal.returns-in-Hello
returns-in-Hello g c =
    let before = g.W.Write.contents c.args.out.now in
    let after = g.W.Write.contents c.write_hello.new.out in
    subst (λ (f : Frame). OnOk c.write_hello.result (Appends before after (frame_text c.args.plan.now f))) (sym c.in-Hello.is) c.write_hello.ensures
