use Rattle.std.proofs.lemmas.Result.{on_ok_weaker}
use Rattle.std.proofs.Common.{codes}
use Rattle.std.specs.Io.KnownBytes.{Appends}
use Rattle.std.proofs.KnownBytes.{Appends-trans}
use Rattle.fedrun_trace.specs.Frames.{port_member}
use Rattle.fedrun_trace.proofs.carried.write_port_member.Goals as goal

pub returns : goal.returns
unfolding port_member
returns g c =
    let before = g.W.Write.contents c.args.out.now in
    let one = g.W.Write.contents c.write_all.new.self in
    let two = g.W.Write.contents c.write_port.new.out in
    let after = g.W.Write.contents c.write_all-2.new.self in
    on_ok_weaker c.write_all-2.result
    (λ (more : Appends two after (codes "\"")).
    Appends-trans before one after _ _ c.in_ok-write_all.ensures.bytes (Appends-trans one two after _ _ c.in_ok-write_port.ensures more))
    c.write_all-2.ensures.bytes
