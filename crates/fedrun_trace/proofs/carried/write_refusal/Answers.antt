use Rattle.std.proofs.lemmas.Result.{on_ok_weaker}
use Rattle.std.specs.Io.KnownBytes.{Appends}
use Rattle.std.proofs.KnownBytes.{Appends-trans}
use Rattle.fedrun_trace.specs.Frames.{incarnation_member, refusal_members}
use Rattle.fedrun_trace.proofs.carried.write_refusal.Goals as goal

pub returns : goal.returns
unfolding refusal_members
returns g c =
    let before = g.W.Write.contents c.args.out.now in
    let mid = g.W.Write.contents c.write.new.self in
    let after = g.W.Write.contents c.write_incarnation.new.out in
    on_ok_weaker c.write_incarnation.result
    (λ (more : Appends mid after (incarnation_member c.args.incarnation)). Appends-trans before mid after _ _ c.in_ok-write.ensures.bytes more)
    c.write_incarnation.ensures
