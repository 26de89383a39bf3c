use Rattle.std.proofs.lemmas.Result.{on_ok_weaker}
use Rattle.std.specs.Io.KnownBytes.{Appends}
use Rattle.std.proofs.KnownBytes.{Appends-trans}
use Rattle.fedrun_frames.specs.FrameText.{incarnation_text}
use Rattle.fedrun_frames.proofs.frame_text.write_hello.Goals as goal

pub returns : goal.returns
returns g c =
    let before = g.W.Write.contents c.args.out.now in
    let mid = g.W.Write.contents c.write_last_taken.new.out in
    let after = g.W.Write.contents c.write_incarnation.new.out in
    on_ok_weaker c.write_incarnation.result
    (λ (more : Appends mid after (incarnation_text c.args.incarnation)). Appends-trans before mid after _ _ c.in_ok-write_last_taken.ensures more)
    c.write_incarnation.ensures
